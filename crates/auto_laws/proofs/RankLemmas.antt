-- The least ranks of places in a list, by levels.
use Rattle.std.proofs.Common.{◌≡◌, ℕ, zero, suc, ◌<◌, ◌≤◌, ◌⊎◌, List, length, Contains, sym, subst, inl, inr, arith}
use Rattle.std.proofs.lemmas.Bool.{cases_eq, cases_lt}
use Rattle.auto_core.specs.Automaton.{Automaton, IsAccepting}
use Rattle.auto_laws.proofs.DecisionLemmas.{Decided, decide_as, decide_both, decide_either, decide_then, decide_number, keep}
use Rattle.auto_laws.proofs.WordLemmas.{Place, Has, IsAnsweredAll, decide_has, decide_answered}

-- The place is in the list, and has a rank of at most r there: q is accepting, or each move is answered with a rank below.
abbrev pub IsRankedBy : Automaton → List Place → ℕ → List ℕ → ℕ → ℕ → Type 0
IsRankedBy A S zero b p q = Has S b p q × IsAccepting A q
IsRankedBy A S (suc r) b p q = IsRankedBy A S r b p q ⊎ (Has S b p q × IsAnsweredAll A (IsRankedBy A S r) b p q)

module _ (A : Automaton) (S : List Place) where
  decide_ranked : (r : ℕ) (b : List ℕ) (p q : ℕ) → Decided (IsRankedBy A S r b p q)
  decide_ranked zero b p q = decide_both (Has S b p q) (IsAccepting A q) (decide_has S b p q) (decide_number A.accepting q)
  decide_ranked (suc r) b p q =
      decide_either (IsRankedBy A S r b p q) (Has S b p q × IsAnsweredAll A (IsRankedBy A S r) b p q) (decide_ranked r b p q)
      (decide_both (Has S b p q) (IsAnsweredAll A (IsRankedBy A S r) b p q) (decide_has S b p q) (decide_answered A (IsRankedBy A S r) (decide_ranked r) b p q))

  ranked_up : (s r : ℕ) (b : List ℕ) (p q : ℕ) → r ≤ s → IsRankedBy A S r b p q → IsRankedBy A S s b p q
  ranked_up zero r b p q le h = let e : r ≡ 0 = omega arith in subst (λ x. IsRankedBy A S x b p q) e h
  ranked_up (suc s) r b p q le h = elim (cases_eq r (suc s)) [
    | inl e ↦ subst (λ x. IsRankedBy A S x b p q) e h
    | inr differ ↦ inl (ranked_up s r b p q (omega arith) h)
  ]

  pub ranked_held : (r : ℕ) (b : List ℕ) (p q : ℕ) → IsRankedBy A S r b p q → Has S b p q
  ranked_held zero b p q h = h.0
  ranked_held (suc r) b p q h = elim h [ inl less ↦ ranked_held r b p q less | inr now ↦ now.0 ]

  -- The least rank of the place.
  abbrev pub LeastRank : List ℕ → ℕ → ℕ → Type 0
  LeastRank b p q = (r : ℕ) × IsRankedBy A S r b p q × ((t : ℕ) → IsRankedBy A S t b p q → r ≤ t)

  least_rank : (s : ℕ) (b : List ℕ) (p q : ℕ) → IsRankedBy A S s b p q → LeastRank b p q
  least_rank zero b p q h = (0, h, λ t g. omega arith)
  least_rank (suc s) b p q h = elim (decide_ranked s b p q) [
    | inl less ↦ least_rank s b p q less
    | inr none ↦ (
      suc s,
      h,
      λ t g. elim (cases_lt t (suc s)) [
        | inl lt ↦ absurd (none (ranked_up s t b p q (omega arith) g))
        | inr le ↦ le
      ],
    )
  ]

  -- Where a level brings no more, none does.
  no_more : (n : ℕ) → ((b : List ℕ) (p q : ℕ) → IsRankedBy A S (suc n) b p q → IsRankedBy A S n b p q) → (r : ℕ) (b : List ℕ) (p q : ℕ) → IsRankedBy A S r b p q → IsRankedBy A S n b p q
  no_more n still zero b p q h = ranked_up n 0 b p q (omega arith) h
  no_more n still (suc r) b p q h = elim h [
    | inl less ↦ no_more n still r b p q less
    | inr now ↦ still b p q (inr (now.0, λ more a c p' lt e move. let on = now.1 more a c p' lt e move in (on.0, on.1, no_more n still r c p' on.0 on.2)))
  ]

  -- A level that has all places with a rank.
  abbrev LastLevel : Type 0
  LastLevel = (n : ℕ) × ((r : ℕ) (b : List ℕ) (p q : ℕ) → IsRankedBy A S r b p q → IsRankedBy A S n b p q)

  -- The list has each place without a rank of at most n.
  abbrev HasOthers : ℕ → List Place → Type 0
  HasOthers n U = (b : List ℕ) (p q : ℕ) → Has S b p q → (IsRankedBy A S n b p q → ⊥) → Has U b p q

  -- The place has no rank of at most n + 1.
  abbrev Without : ℕ → Place → Type 0
  Without n x = IsRankedBy A S (suc n) x.0 x.1 x.2 → ⊥

  last_from : (fuel n : ℕ) (U : List Place) → length U < fuel → HasOthers n U → LastLevel
  last_from zero n U short others = absurd (omega arith)
  last_from (suc fuel) n U short others =
      let kept = keep Place (Without n) (λ x. decide_then (IsRankedBy A S (suc n) x.0 x.1 x.2) ⊥ (decide_ranked (suc n) x.0 x.1 x.2) (inr (λ none. none))) U in
      elim kept.less [
        | inl same ↦ (
          n,
          no_more n (λ b p q h. elim (decide_ranked n b p q) [
            | inl ranked ↦ ranked
            | inr none ↦ absurd ((kept.each (b, p, q) (subst (λ l. Contains l (b, p, q)) (sym same) (others b p q (ranked_held (suc n) b p q h) none))).1 h)
          ]),
        )
        | inr less ↦ last_from fuel (suc n) kept.items (omega arith) (λ b p q h none. kept.all (b, p, q) (others b p q h (λ ranked. none (inl ranked))) none)
      ]

  last_level : LastLevel
  last_level = last_from (suc (length S)) 0 S (omega arith) (λ b p q h none. h)

  pub decide_rank : (b : List ℕ) (p q : ℕ) → Decided ((r : ℕ) × IsRankedBy A S r b p q)
  decide_rank b p q =
      let last = last_level in
      decide_as (IsRankedBy A S last.0 b p q) ((r : ℕ) × IsRankedBy A S r b p q) (λ h. (last.0, h)) (λ h. last.1 h.0 b p q h.1) (decide_ranked last.0 b p q)

  -- The least rank, or that there is none.
  abbrev pub RankCase : List ℕ → ℕ → ℕ → Type 0
  RankCase b p q = LeastRank b p q ⊎ ((r : ℕ) → IsRankedBy A S r b p q → ⊥)

  pub ranking : (b : List ℕ) (p q : ℕ) → RankCase b p q
  ranking b p q = elim (decide_rank b p q) [ inl h ↦ inl (least_rank h.0 b p q h.1) | inr none ↦ inr (λ r h. none (r, h)) ]
