-- The part of a right relation whose pairs are of states.
use Rattle.std.proofs.Common.{◌≡◌, ℕ, ◌<◌, Option, Some, [], ◌∷◌, Contains, ap, inl, inr, arith}
use Rattle.auto_core.specs.Automaton.{Automaton, IsAutomaton}
use Rattle.std.proofs.lemmas.Bool.{cases_lt}
use Rattle.auto_core.proofs.PathLemmas.{Contains-here, Contains-later, Contains-cons_cases, none_in_nil}
use Rattle.auto_core.proofs.MoveLemmas.{move_in_range}
use Rattle.delayed_game.specs.Across.{RankedPlacePairs, IsRightAcross}
use Rattle.delayed_laws.specs.Across.{IsPartInRange, RightStaysInRange}

-- What is left of a list: pairs whose left number is below m and whose right one is below n.
record IsCut (m n : ℕ) (X Y : RankedPlacePairs) : Type 0 where
  from : (p q : ℕ) (o : Option ℕ) → Contains Y (p, q, o) → Contains X (p, q, o) × (p < m) × (q < n)
  to : (p q : ℕ) (o : Option ℕ) → Contains X (p, q, o) → p < m → q < n → Contains Y (p, q, o)

left_out : (m n : ℕ) (x : ℕ × ℕ × Option ℕ) (X Y : RankedPlacePairs) → ((x.0 < m) × (x.1 < n) → ⊥) → IsCut m n X Y → IsCut m n (x ∷ X) Y
left_out m n x X Y out is = record {
  from = λ p q o h. let r = is.from p q o h in (Contains-later x (p, q, o) X r.0, r.1, r.2);
  to = λ p q o h p_in q_in. elim (Contains-cons_cases x (p, q, o) X h) [
    | inl e ↦
        let left : x.0 ≡ p = ap (λ (y : ℕ × ℕ × Option ℕ). y.0) e in
        let right : x.1 ≡ q = ap (λ (y : ℕ × ℕ × Option ℕ). y.1) e in
        absurd (out (omega arith, omega arith))
    | inr later ↦ is.to p q o later p_in q_in
  ];
}

put_in : (m n : ℕ) (x : ℕ × ℕ × Option ℕ) (X Y : RankedPlacePairs) → x.0 < m → x.1 < n → IsCut m n X Y → IsCut m n (x ∷ X) (x ∷ Y)
put_in m n x X Y left_in right_in is = record {
  from = λ p q o h. elim (Contains-cons_cases x (p, q, o) Y h) [
    | inl e ↦
        let left : x.0 ≡ p = ap (λ (y : ℕ × ℕ × Option ℕ). y.0) e in
        let right : x.1 ≡ q = ap (λ (y : ℕ × ℕ × Option ℕ). y.1) e in
        (Contains-here x (p, q, o) X e, omega arith, omega arith)
    | inr later ↦ let r = is.from p q o later in (Contains-later x (p, q, o) X r.0, r.1, r.2)
  ];
  to = λ p q o h p_in q_in. elim (Contains-cons_cases x (p, q, o) X h) [
    | inl e ↦ Contains-here x (p, q, o) Y e
    | inr later ↦ Contains-later x (p, q, o) Y (is.to p q o later p_in q_in)
  ];
}

cut : (m n : ℕ) (X : RankedPlacePairs) → (Y : RankedPlacePairs) × IsCut m n X Y
cut m n [] = ([], record { from = λ p q o h. absurd (none_in_nil (p, q, o) h); to = λ p q o h p_in q_in. h })
cut m n (x ∷ X) =
    let (Y, is) = cut m n X in
    elim (cases_lt x.0 m) [
      | inr past ↦ (Y, left_out m n x X Y (λ h. let lt = h.0 in omega arith) is)
      | inl left_in ↦ elim (cases_lt x.1 n) [
        | inr past ↦ (Y, left_out m n x X Y (λ h. let lt = h.1 in omega arith) is)
        | inl right_in ↦ (x ∷ Y, put_in m n x X Y left_in right_in is)
      ]
    ]

module _ (A B : Automaton) (X : RankedPlacePairs) (valid_a : IsAutomaton A) (valid_b : IsAutomaton B) (right : IsRightAcross A B X) (Y : RankedPlacePairs) (is : IsCut A.states B.states X Y) where
  cut_right : IsRightAcross A B Y
  cut_right = record {
    answers = λ p q a p' held move.
        let (q', goes, next) = right.answers p q a p' (held.0, (is.from p q held.0 held.1).0) move in
        (q', goes, (next.0, is.to p' q' next.0 next.1 (move_in_range A valid_a p a p' move).1 (move_in_range B valid_b q a q' goes).1));
    ranked = λ p q held here.
        let h = is.from p q held.0 held.1 in
        let (r, has) = right.ranked p q (held.0, h.0) here in
        (r, is.to p q (Some r) has h.1 h.2);
    at_zero = λ p q has. right.at_zero p q (is.from p q (Some 0) has).0;
    above_zero = λ p q r a p' has some move.
        let (q', s, goes, next, less) = right.above_zero p q r a p' (is.from p q (Some r) has).0 some move in
        (q', s, goes, is.to p' q' (Some s) next (move_in_range A valid_a p a p' move).1 (move_in_range B valid_b q a q' goes).1, less);
  }

  part : IsPartInRange A B X Y
  part = record {
    right = cut_right;
    within = λ p q held. let r = is.from p q held.0 held.1 in (r.1, r.2);
    pairs = λ p q p_in q_in held. (held.0, is.to p q held.0 held.1 p_in q_in);
    ranks = λ p q r p_in q_in has. is.to p q (Some r) has p_in q_in;
  }

pub stays_in_range : RightStaysInRange
stays_in_range A B X valid_a valid_b right = let (Y, is) = cut A.states B.states X in (Y, part A B X valid_a valid_b right Y is)
