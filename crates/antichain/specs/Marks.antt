-- What the closing lines say of the kept elements.
use Rattle.std.specs.Prelude.{◌≡◌, ℕ, Bool, true, false, List, length, slice_index_or}
use Rattle.auto_core.specs.Outcome.{At}
use Rattle.cert_value.specs.declared.types.Element.{Element}
use Rattle.cert_value.specs.declared.types.Mark.{Mark}
use Rattle.cert_value.specs.declared.types.Mark.TheVariants.{Live, Under}
use Rattle.antichain.specs.declared.parts.Held.{Held}
use Rattle.antichain.specs.declared.family.Family.{Family}
use Rattle.evidence.specs.Tables.{numbers_at}
use Rattle.antichain.specs.Kept.{IsFirstSubsumer, NoneSubsumes, held_pair}

-- The numbers of the live elements with the state of the kept element.
abbrev pub numbers_beside : Family → Held → List ℕ
numbers_beside f h = numbers_at f.by_state.items h.state

-- Of the live elements this is the first that subsumes the kept one.
abbrev pub IsCovererOf : List (ℕ × ℕ) → Family → Held → ℕ → Type 0
IsCovererOf S f h j = IsFirstSubsumer S f.held.items (numbers_beside f h) (held_pair h) j

-- There is one.
abbrev pub HasCoverer : List (ℕ × ℕ) → Family → Held → Type 0
HasCoverer S f h = NoneSubsumes S f.held.items (numbers_beside f h) (held_pair h) → ⊥

-- The mark of the kept element, by its flag.
abbrev pub IsHeldMark : List (ℕ × ℕ) → Family → Held → Bool → Mark → Type 0
IsHeldMark S f h flag Live = flag ≡ true
IsHeldMark S f h flag (Under j) = (flag ≡ false) × IsCovererOf S f h j

-- The first so many elements have the origins and the marks of the kept ones.
pub record AreMarked (S : List (ℕ × ℕ)) (f : Family) (count : ℕ)
    (elements : List Element) : Type 0 where
  pub size : length elements ≡ count
  pub each : (i : ℕ) (m : Element) (h : Held) → At elements i m → At f.held.items i h
      → (m.origin ≡ h.origin) × IsHeldMark S f h (slice_index_or f.live.items i false) m.mark
