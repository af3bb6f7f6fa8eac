-- From an element that subsumes to a live one.
use Rattle.std.proofs.Common.{◌≡◌, ℕ, zero, suc, ◌+◌, ◌≤◌, ◌↔◌, Bool, true, List, length, subst, inl, inr, arith}
use Rattle.std.proofs.lemmas.Bool.{cases_Bool}
use Rattle.auto_core.specs.Outcome.{Rules, At, HasSubsumer, TellsLive, LiveSubsumes}
use Rattle.auto_laws.proofs.PlaceLemmas.{at_same, at_within}

module _ (E : Type 0) (R : Rules E) (joins : (x y z : E) → R.subsumes x y → R.subsumes y z → R.subsumes x z)
    (es : List E) (live : ℕ → Bool) (tells : TellsLive R es live)
  where
    climbs : (fuel i : ℕ) (x c : E) → length es ≤ i + fuel → At es i x → R.subsumes x c → (k : ℕ) × (live k ≡ true) × LiveSubsumes R es c k
    climbs zero i x c enough is h = let bound = at_within es i x is in absurd (omega arith)
    climbs (suc fuel) i x c enough is h =
        let bound = at_within es i x is in
        elim (cases_Bool (live i)) [
          | inl yes_live ↦ (i, yes_live, record { element = x; is = is; live = tells.stays i bound yes_live; subsumes = h })
          | inr not_live ↦
              let d = tells.drops i bound not_live in
              let later = d.later in
              climbs fuel d.place d.by c (omega arith) d.by_is
              (joins d.by x c (subst (λ z. R.subsumes d.by z) (at_same es i d.element x d.is is) d.subsumes) h)
        ]

    pub live_one : (c : E) → HasSubsumer R es c → (k : ℕ) × (live k ≡ true) × LiveSubsumes R es c k
    live_one c has = climbs (length es) has.0 has.1 c (omega arith) has.2 has.3

    pub live_ones_are_enough : (c : E) → HasSubsumer R es c ↔ ((k : ℕ) × LiveSubsumes R es c k)
    live_ones_are_enough c = (
      λ has. let one = live_one c has in (one.0, one.2),
      λ one. (one.0, one.1.element, one.1.is, one.1.subsumes),
    )
