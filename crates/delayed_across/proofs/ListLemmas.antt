-- The pairs of a relation, listed in order.
use Rattle.std.proofs.Common.{◌≡◌, ℕ, ◌+◌, ◌<◌, ◌≤◌, ◌↔◌, inl, inr, false, None, List, [], ◌∷◌, ◌++◌, length, Contains, refl, sym, ap, ◌∙◌, subst, arith}
use Rattle.std.proofs.lemmas.Bool.{cases_eq, cases_lt, false≢true}
use Rattle.std.proofs.lemmas.List.{get_or_append_left, get_or_push, length_push}
use Rattle.std.proofs.lemmas.List.Elements.{Contains-push, Contains-push_cases, Contains-append_left}
use Rattle.auto_core.specs.Game.{Holds}
use Rattle.auto_core.specs.Rows.{bit_of, HasBit}
use Rattle.auto_core.proofs.PathLemmas.{none_in_nil}
use Rattle.bit_rel.specs.Relation.{IsPairBefore}
use Rattle.bit_rows.specs.Walks.{IsNextBit}
use Rattle.delayed_game.specs.Levels.{rank_in_table}
use Rattle.delayed_game.specs.Pairings.{Pairing}
use Rattle.delayed_laws.specs.declared.parts.DelayedPair.{DelayedPair}
use Rattle.delayed_laws.specs.Listed.{delayed_pair, delayed_at, StandsBefore, AreDelayedAscending}
use Rattle.delayed_laws.proofs.ListedLemmas.{at_place}
use Rattle.delayed_across.specs.Listed.{ListsBefore}

-- A pair behind all others is put last.
pub push_ascends : (pairs : List DelayedPair) (e : DelayedPair) → AreDelayedAscending pairs → ((y : DelayedPair) → Contains pairs y → StandsBefore y e.left e.right) → AreDelayedAscending (pairs ++ e ∷ [])
push_ascends pairs e ascending behind i j lt within =
    let long = length_push pairs e in
    let old : (k : ℕ) → k < length pairs → delayed_at (pairs ++ e ∷ []) k ≡ delayed_at pairs k = λ k k_in. get_or_append_left pairs (e ∷ []) (delayed_pair 0 0 None) k k_in in
    let first = old i (omega arith) in
    elim (cases_lt j (length pairs)) [
      | inl inside ↦
          subst (λ (y : DelayedPair). StandsBefore (delayed_at (pairs ++ e ∷ []) i) y.left y.right) (sym (old j inside))
          (subst (λ (x : DelayedPair). StandsBefore x (delayed_at pairs j).left (delayed_at pairs j).right) (sym first) (ascending i j lt inside))
      | inr from ↦
          let last : delayed_at (pairs ++ e ∷ []) j ≡ e = get_or_push pairs e (delayed_pair 0 0 None) j (omega arith) in
          subst (λ (y : DelayedPair). StandsBefore (delayed_at (pairs ++ e ∷ []) i) y.left y.right) (sym last)
          (subst (λ (x : DelayedPair). StandsBefore x e.left e.right) (sym first) (behind (delayed_at pairs i) (at_place pairs i (omega arith))))
    ]

pub listed_none : (R : Pairing) (ranks : List ℕ) → ListsBefore R ranks 0 0 []
listed_none R ranks = record {
  each = λ y there. absurd (none_in_nil y there);
  all = λ p q held before. absurd (nothing p q before);
  in_order = λ i j lt within. absurd (omega arith);
}
  where
    nothing : (y s : ℕ) → IsPairBefore (y, s) (0, 0) → ⊥
    nothing y s (inl lt) = omega arith
    nothing y s (inr both) = let lt = both.1 in omega arith

module _ (R : Pairing) (ranks : List ℕ) where
  abbrev here : ℕ → ℕ → DelayedPair
  here x q = delayed_pair x q (rank_in_table ranks R.states x q)

  -- The next pair of the row is listed.
  listed_more :
      (x at q : ℕ) (row : List ℕ) (pairs : List DelayedPair)
      → ListsBefore R ranks x at pairs
      → ((s : ℕ) → HasBit row s ↔ Holds R.pairs x s)
      → IsNextBit row at q
      → ListsBefore R ranks x (q + 1) (pairs ++ here x q ∷ [])
  listed_more x at q row pairs h bits next = record {
    each = λ y has. elim (Contains-push_cases pairs (here x q) y has) [
      | inl old ↦ let (held, is, before) = h.each y old in (held, is, further y.left y.right before)
      | inr new ↦ subst (λ (z : DelayedPair). Holds R.pairs z.left z.right × (rank_in_table ranks R.states z.left z.right ≡ z.rank) × StandsBefore z x (q + 1)) new
          ((bits q).0 next.here, refl, inr (refl, omega arith))
    ];
    all = λ y s held before. elim (cases_eq y x) [
      | inl e ↦ elim (cases_eq s q) [
        | inl f ↦ subst (λ z. Contains (pairs ++ here x q ∷ []) (here z s)) (sym e) (subst (λ z. Contains (pairs ++ here x q ∷ []) (here x z)) (sym f) (Contains-push pairs (here x q)))
        | inr apart ↦ Contains-append_left pairs (here x q ∷ []) (here y s) (h.all y s held (inr (e, sooner y s e held before apart)))
      ]
      | inr apart ↦ Contains-append_left pairs (here x q ∷ []) (here y s) (h.all y s held (inl (earlier y s before apart)))
    ];
    in_order = push_ascends pairs (here x q) h.in_order (λ y has. behind y.left y.right (h.each y has).2);
  }
    where
      further : (y s : ℕ) → IsPairBefore (y, s) (x, at) → IsPairBefore (y, s) (x, q + 1)
      further y s (inl lt) = inl lt
      further y s (inr both) = let lt = both.1 in let le = next.behind in inr (both.0, omega arith)

      behind : (y s : ℕ) → IsPairBefore (y, s) (x, at) → IsPairBefore (y, s) (x, q)
      behind y s (inl lt) = inl lt
      behind y s (inr both) = let lt = both.1 in let le = next.behind in inr (both.0, omega arith)

      earlier : (y s : ℕ) → IsPairBefore (y, s) (x, q + 1) → (y ≡ x → ⊥) → y < x
      earlier y s (inl lt) apart = lt
      earlier y s (inr both) apart = absurd (apart both.0)

      sooner : (y s : ℕ) → y ≡ x → Holds R.pairs y s → IsPairBefore (y, s) (x, q + 1) → (s ≡ q → ⊥) → s < at
      sooner y s e held (inl lt) apart = absurd (omega arith)
      sooner y s e held (inr both) apart = elim (cases_lt s at) [
        | inl lt ↦ lt
        | inr from ↦
            let lt = both.1 in
            absurd (false≢true (sym (next.none_between s from (omega arith)) ∙ (bits s).1 (subst (λ z. Holds R.pairs z s) e held)))
      ]

  -- The row has no more pairs.
  pub listed_row :
      (x at : ℕ) (row : List ℕ) (pairs : List DelayedPair)
      → ListsBefore R ranks x at pairs
      → ((s : ℕ) → HasBit row s ↔ Holds R.pairs x s)
      → ((s : ℕ) → at ≤ s → bit_of row s ≡ false)
      → ListsBefore R ranks (x + 1) 0 pairs
  listed_row x at row pairs h bits none = record {
    each = λ y has. let (held, is, before) = h.each y has in (held, is, further y.left y.right before);
    all = λ y s held before. elim (cases_eq y x) [
      | inl e ↦ elim (cases_lt s at) [
        | inl lt ↦ h.all y s held (inr (e, lt))
        | inr from ↦ absurd (false≢true (sym (none s from) ∙ (bits s).1 (subst (λ z. Holds R.pairs z s) e held)))
      ]
      | inr apart ↦ h.all y s held (inl (earlier y s before apart))
    ];
    in_order = h.in_order;
  }
    where
      further : (y s : ℕ) → IsPairBefore (y, s) (x, at) → IsPairBefore (y, s) (x + 1, 0)
      further y s (inl lt) = inl (omega arith)
      further y s (inr both) = let e = both.0 in inl (omega arith)

      earlier : (y s : ℕ) → IsPairBefore (y, s) (x + 1, 0) → (y ≡ x → ⊥) → y < x
      earlier y s (inl lt) apart = omega arith
      earlier y s (inr both) apart = let lt = both.1 in absurd (omega arith)

  -- A pair more is pushed.
  pub listed_push :
      (x at q : ℕ) (row : List ℕ) (pairs : List DelayedPair) (e : DelayedPair)
      → ListsBefore R ranks x at pairs
      → ((s : ℕ) → HasBit row s ↔ Holds R.pairs x s)
      → IsNextBit row at q
      → e.left ≡ x
      → e.right ≡ q
      → e.rank ≡ rank_in_table ranks R.states x q
      → ListsBefore R ranks x (q + 1) (pairs ++ e ∷ [])
  listed_push x at q row pairs e h bits next left right rank =
      let is : e ≡ here x q = ap (λ z. delayed_pair z e.right e.rank) left ∙ ap (λ z. delayed_pair x z e.rank) right ∙ ap (λ z. delayed_pair x q z) rank in
      subst (λ (z : DelayedPair). ListsBefore R ranks x (q + 1) (pairs ++ z ∷ [])) (sym is) (listed_more x at q row pairs h bits next)
