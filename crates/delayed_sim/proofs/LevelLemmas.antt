-- Ranks level by level: each that is given is right, and none is too great.
use Rattle.std.proofs.Common.{◌≡◌, ℕ, zero, suc, ◌<◌, ◌≤◌, ◌⊎◌, inl, inr, Option, None, Some, List, length, Contains, refl, sym, ap, ◌∙◌, subst, arith}
use Rattle.std.proofs.lemmas.Bool.{cases_lt}
use Rattle.std.proofs.lemmas.List.{get_or_default}
use Rattle.auto_core.specs.Automaton.{Automaton, IsAccepting}
use Rattle.auto_core.specs.Delayed.{RankedTriples, HoldsTriple, HasRank, AreTriplesOf, IsRight, IsGreatestDelayed}
use Rattle.delayed_sim.specs.Rankings.{Triple, Ranking, IsRanking, triple_at}
use Rattle.delayed_sim.specs.Right.{HasAnswers, IsTripleAnswered}
use Rattle.delayed_sim.specs.Rounds.{ranked_as, HasEachTriple, HasRanksUpto, IsReranked, HasSameTriples, AreRanksRight, AreRankedUpto, GetsRankZero, GetsRank, AreAcceptingRanked, AreAllAnswered}
use Rattle.delayed_sim.proofs.RightLemmas.{right_of_triples}
use Rattle.delayed_sim.proofs.RoundLemmas.{no_rank, same_rank, no_triple}

-- What became of a triple of the old list.
abbrev BecameBy : (Triple → Option ℕ → Type 0) → RankedTriples → RankedTriples → Triple → Triple → Type 0
BecameBy S X Z t u = (rank : Option ℕ) × S t rank × (u ≡ ranked_as t rank) × Contains X t × Contains Z u

module _ (S : Triple → Option ℕ → Type 0) (old new : Ranking) (h : IsReranked S (length old.triples) old new) where
  -- where a triple came from
  came_from : (u : Triple) → Contains new.triples u → (t : Triple) × BecameBy S old.triples new.triples t u
  came_from u (i, i_in, is) =
      let len = h.len in
      let lt : i < length old.triples = omega arith in
      let t = triple_at old.triples i in
      let (o, became, e) = h.done i lt lt in
      (t, (o, became, sym (get_or_default new.triples i no_triple u i_in ∙ is) ∙ e, (i, lt, get_or_default old.triples i t no_triple lt), (i, i_in, is)))

  -- and what it became
  became : (t : Triple) → Contains old.triples t → (u : Triple) × BecameBy S old.triples new.triples t u
  became t (i, i_in, is) =
      let len = h.len in
      let lt : i < length new.triples = omega arith in
      let here : triple_at old.triples i ≡ t = get_or_default old.triples i no_triple t i_in ∙ is in
      let (o, was, e) = h.done i i_in i_in in
      let u = triple_at new.triples i in
      (u, (o, subst (λ x. S x o) here was, e ∙ ap (λ x. ranked_as x o) here, (i, i_in, is), (i, lt, get_or_default new.triples i u no_triple lt)))

-- ---- while ranks are given

-- answers stay where the ranks below this one do
answers_keep : (A : Automaton) (X Z : RankedTriples) (r : ℕ) → ((b : List ℕ) (p q s : ℕ) → s < r → HasRank X b p q s → HasRank Z b p q s) → (b : List ℕ) (p q : ℕ) → HasAnswers A X (Some r) b p q → HasAnswers A Z (Some r) b p q
answers_keep A X Z r keep b p q all a p' move more c lt e =
    let answer = all a p' move more c lt e in
    (answer.0, answer.1, answer.2, keep c p' answer.0 answer.1 answer.4 answer.3, answer.4)

-- A triple is done, or has the rank of before.
abbrev GetsOrKeeps : (Triple → Option ℕ → Type 0) → Triple → Option ℕ → Type 0
GetsOrKeeps S t rank = S t rank ⊎ (rank ≡ t.3)

partly : (S : Triple → Option ℕ → Type 0) (at : ℕ) (old now : Ranking) → IsReranked S at old now → IsReranked (GetsOrKeeps S) (length old.triples) old now
partly S at old now h = record {
  states = h.states;
  labels = h.labels;
  letters = h.letters;
  valid = h.valid;
  len = h.len;
  done = λ i lt i_in. elim (cases_lt i at) [
    | inl before ↦ let was = h.done i before i_in in (was.0, inl was.1, was.2)
    | inr from ↦ ((triple_at old.triples i).3, inr refl, h.rest i from i_in)
  ];
  rest = λ i from i_in. absurd (omega arith);
}

module _ (A : Automaton) (r at : ℕ) (old now : Ranking) (h : IsReranked (GetsRank A old.triples r) at old now) where
  keeps_below : (b : List ℕ) (p q s : ℕ) → HasRank old.triples b p q s → HasRank now.triples b p q s
  keeps_below b p q s has =
      let (u, (o, gets, e, was, is)) = became (GetsOrKeeps (GetsRank A old.triples r)) old now (partly (GetsRank A old.triples r) at old now h) (p, b, q, Some s) has in
      let kept : o ≡ Some s → HasRank now.triples b p q s = λ same. subst (Contains now.triples) (e ∙ ap (λ k. ranked_as (p, b, q, Some s) k) same) is in
      elim gets [
        | inl (inl all) ↦ absurd (no_rank s (sym all.0))
        | inl (inr keep) ↦ kept keep.0
        | inr same ↦ kept same
      ]

  from_below : (b : List ℕ) (p q s : ℕ) → s < r → HasRank now.triples b p q s → HasRank old.triples b p q s
  from_below b p q s lt has =
      let (t, (o, gets, e, was, is)) = came_from (GetsOrKeeps (GetsRank A old.triples r)) old now (partly (GetsRank A old.triples r) at old now h) (p, b, q, Some s) has in
      let rank : Some s ≡ o = ap (λ (x : Triple). x.3) e in
      let key : t ≡ (p, b, q, t.3) = ap (λ (x : Triple). ranked_as x t.3) (sym e) in
      let kept : o ≡ t.3 → HasRank old.triples b p q s = λ same. subst (Contains old.triples) (key ∙ ap (λ (k : Option ℕ). ranked_as (p, b, q, k) k) (sym (rank ∙ same))) was in
      elim gets [
        | inl (inl all) ↦ let same = same_rank s r (rank ∙ all.2) in absurd (omega arith)
        | inl (inr keep) ↦ kept keep.0
        | inr same ↦ kept same
      ]

  -- what is answered now was answered before, and the other way round
  pub answered_before : (t : Triple) → IsTripleAnswered A now.triples (Some r) t → IsTripleAnswered A old.triples (Some r) t
  answered_before t all = answers_keep A now.triples old.triples r from_below t.1 t.0 t.2 all

  pub answered_now : (t : Triple) → IsTripleAnswered A old.triples (Some r) t → IsTripleAnswered A now.triples (Some r) t
  answered_now t all = answers_keep A old.triples now.triples r (λ b p q s lt h. keeps_below b p q s h) t.1 t.0 t.2 all

-- ---- rank 0

module _ (A : Automaton) (n : ℕ) (old new : Ranking) (each : HasEachTriple A n old.triples) (h : IsReranked (GetsRankZero A) (length old.triples) old new) where
  zero_alone : (b : List ℕ) (p q s : ℕ) → HasRank new.triples b p q s → (s ≡ 0) × IsAccepting A q
  zero_alone b p q s has =
      let (t, (o, gets, e, was, is)) = came_from (GetsRankZero A) old new h (p, b, q, Some s) has in
      let rank : Some s ≡ o = ap (λ (x : Triple). x.3) e in
      let right : q ≡ t.2 = ap (λ (x : Triple). x.2) e in
      elim gets [
        | inl both ↦ (same_rank s 0 (rank ∙ both.1), subst (IsAccepting A) (sym right) both.0)
        | inr both ↦ absurd (no_rank s (sym (rank ∙ both.1)))
      ]

  zero_all : (b : List ℕ) (p q : ℕ) → HoldsTriple old.triples b p q → IsAccepting A q → HasRank new.triples b p q 0
  zero_all b p q (m, has) accepting =
      let (u, (o, gets, e, was, is)) = became (GetsRankZero A) old new h (p, b, q, m) has in
      elim gets [
        | inl both ↦ subst (Contains new.triples) (e ∙ ap (λ k. ranked_as (p, b, q, m) k) both.1) is
        | inr both ↦ absurd (both.0 accepting)
      ]

  pub ranked_zero : AreRankedUpto A n 0 new.triples
  ranked_zero = record {
    right = record {
      at_zero = λ b p q has. (zero_alone b p q 0 has).1;
      above_zero = λ b p q r has some. let none = (zero_alone b p q r has).0 in absurd (omega arith);
    };
    upto = λ b p q s has. let none = (zero_alone b p q s has).0 in omega arith;
    least = λ Y range right b p q s has le.
        let none : s ≡ 0 = omega arith in
        let accepting = right.at_zero b p q (subst (HasRank Y b p q) none has) in
        (0, zero_all b p q (each Y range right b p q (Some s, has)) accepting, omega arith);
  }

-- ---- the next rank

-- where a right list gives a rank of at most r + 1, the ranks up to r answer each move
answers_below :
    (A : Automaton) (n r : ℕ) (X Y : RankedTriples)
    → HasRanksUpto A n r X
    → AreTriplesOf A.states A.labels n Y
    → IsRight A Y
    → (b : List ℕ) (p q s k : ℕ)
    → HasRank Y b p q s
    → 0 < s
    → s ≤ suc r
    → ((c : List ℕ) (p' q' t : ℕ) → HasRank X c p' q' t → t < s → t < k)
    → HasAnswers A X (Some k) b p q
answers_below A n r X Y least range right b p q s k h some le small a p' move more c lt e =
    let answer = right.above_zero b p q s more a c p' h some lt e move in
    let below = answer.4 in
    let has = least Y range right c p' answer.0 answer.1 answer.3 (omega arith) in
    let upto = has.2 in
    (answer.0, has.0, answer.2, has.1, small c p' answer.0 has.0 has.1 (omega arith))

module _ (A : Automaton) (n r : ℕ) (old new : Ranking) (each : HasEachTriple A n old.triples) (ranked : AreRankedUpto A n r old.triples) (h : IsReranked (GetsRank A old.triples (suc r)) (length old.triples) old new) where
  Gets : Triple → Option ℕ → Type 0
  Gets = GetsRank A old.triples (suc r)

  ranks_from : (b : List ℕ) (p q s : ℕ) → HasRank new.triples b p q s → HasRank old.triples b p q s ⊎ ((s ≡ suc r) × HasAnswers A old.triples (Some (suc r)) b p q)
  ranks_from b p q s has =
      let (t, (o, gets, e, was, is)) = came_from (GetsRank A old.triples (suc r)) old new h (p, b, q, Some s) has in
      let rank : Some s ≡ o = ap (λ (x : Triple). x.3) e in
      let key : t ≡ (p, b, q, t.3) = ap (λ (x : Triple). ranked_as x t.3) (sym e) in
      elim gets [
        | inl all ↦ inr (same_rank s (suc r) (rank ∙ all.2), subst (IsTripleAnswered A old.triples (Some (suc r))) key all.1)
        | inr keep ↦ inl (subst (Contains old.triples) (key ∙ ap (λ (k : Option ℕ). ranked_as (p, b, q, k) k) (sym (rank ∙ keep.0))) was)
      ]

  ranks_keep : (b : List ℕ) (p q s : ℕ) → HasRank old.triples b p q s → HasRank new.triples b p q s
  ranks_keep b p q s has =
      let (u, (o, gets, e, was, is)) = became (GetsRank A old.triples (suc r)) old new h (p, b, q, Some s) has in
      elim gets [
        | inl all ↦ absurd (no_rank s (sym all.0))
        | inr keep ↦ subst (Contains new.triples) (e ∙ ap (λ k. ranked_as (p, b, q, Some s) k) keep.0) is
      ]

  pub ranks_all : (b : List ℕ) (p q : ℕ) → HoldsTriple old.triples b p q → HasAnswers A old.triples (Some (suc r)) b p q → (s : ℕ) × HasRank new.triples b p q s
  ranks_all b p q (Some s, has) answers = (s, ranks_keep b p q s has)
  ranks_all b p q (None, has) answers =
      let (u, (o, gets, e, was, is)) = became (GetsRank A old.triples (suc r)) old new h (p, b, q, None) has in
      elim gets [
        | inl all ↦ (suc r, subst (Contains new.triples) (e ∙ ap (λ k. ranked_as (p, b, q, None) k) all.2) is)
        | inr keep ↦ absurd (keep.1 refl answers)
      ]

  next_upto : (b : List ℕ) (p q s : ℕ) → HasRank new.triples b p q s → s ≤ suc r
  next_upto b p q s has = elim (ranks_from b p q s has) [
    | inl was ↦ let upto = ranked.upto b p q s was in omega arith
    | inr both ↦ let is = both.0 in omega arith
  ]

  pub ranked_next : AreRankedUpto A n (suc r) new.triples
  ranked_next = record {
    right = record {
      at_zero = λ b p q has. elim (ranks_from b p q 0 has) [
        | inl was ↦ ranked.right.at_zero b p q was
        | inr both ↦ let is = both.0 in absurd (omega arith)
      ];
      above_zero = λ b p q s has some. elim (ranks_from b p q s has) [
        | inl was ↦ answers_keep A old.triples new.triples s (λ d p1 q1 t lt h1. ranks_keep d p1 q1 t h1) b p q (ranked.right.above_zero b p q s was some)
        | inr both ↦ answers_keep A old.triples new.triples s (λ d p1 q1 t lt h1. ranks_keep d p1 q1 t h1) b p q (subst (λ (k : ℕ). HasAnswers A old.triples (Some k) b p q) (sym both.0) both.1)
      ];
    };
    upto = next_upto;
    least = λ Y range right b p q s has le. elim (cases_lt s (suc r)) [
      | inl lt ↦
          let old_rank = ranked.least Y range right b p q s has (omega arith) in
          (old_rank.0, ranks_keep b p q old_rank.0 old_rank.1, old_rank.2)
      | inr from ↦
          let answers = answers_below A n r old.triples Y ranked.least range right b p q s (suc r) has (omega arith) le (λ c p' q' t there lt. omega arith) in
          let found = ranks_all b p q (each Y range right b p q (Some s, has)) answers in
          let upto = next_upto b p q found.0 found.1 in
          (found.0, found.1, omega arith)
    ];
  }

-- ---- when a pass gives no rank

module _ (A : Automaton) (n r : ℕ) (X : RankedTriples) (each : HasEachTriple A n X) (ranked : AreRankedUpto A n r X) (all : (b : List ℕ) (p q : ℕ) → HoldsTriple X b p q → HasAnswers A X (Some (suc r)) b p q → (s : ℕ) × HasRank X b p q s) where
  pub ranked_all : (k : ℕ) → HasRanksUpto A n k X
  ranked_all zero Y range right b p q s has le = ranked.least Y range right b p q s has (omega arith)
  ranked_all (suc k) Y range right b p q s has le = elim (cases_lt s (suc r)) [
    | inl lt ↦ ranked.least Y range right b p q s has (omega arith)
    | inr from ↦
        let answers = answers_below A n k X Y (ranked_all k) range right b p q s (suc r) has (omega arith) le (λ c p' q' t there lt. let upto = ranked.upto c p' q' t there in omega arith) in
        let found = all b p q (each Y range right b p q (Some s, has)) answers in
        let upto = ranked.upto b p q found.0 found.1 in
        (found.0, found.1, omega arith)
  ]

-- ---- what is left once ranks are given

pub each_same : (A : Automaton) (n : ℕ) (old new : Ranking) → HasSameTriples old new → HasEachTriple A n old.triples → HasEachTriple A n new.triples
each_same A n old new same each Y range right b p q h = same.forth b p q (each Y range right b p q h)

pub answered_same : (A : Automaton) (old new : Ranking) → HasSameTriples old new → AreAllAnswered A old.triples → AreAllAnswered A new.triples
answered_same A old new same answered t has a p' move more c lt e =
    let was = same.back t.1 t.0 t.2 (t.3, has) in
    let answer = answered (t.0, t.1, t.2, was.0) was.1 a p' move more c lt e in
    (answer.0, answer.1, same.forth c p' answer.0 answer.2)

pub same_then : (R S T : Ranking) → HasSameTriples R S → HasSameTriples S T → HasSameTriples R T
same_then R S T h g = record {
  states = g.states ∙ h.states;
  labels = g.labels ∙ h.labels;
  letters = g.letters ∙ h.letters;
  valid = g.valid;
  len = g.len ∙ h.len;
  forth = λ b p q is. g.forth b p q (h.forth b p q is);
  back = λ b p q is. h.back b p q (g.back b p q is);
}

-- What is answered and ranked and has each triple of right lists is the greatest relation.
pub greatest_of :
    (A : Automaton) (R : Ranking)
    → IsRanking R
    → R.states ≡ A.states
    → R.labels ≡ A.labels
    → AreAllAnswered A R.triples
    → AreRanksRight A R.triples
    → AreAcceptingRanked A R.triples
    → HasEachTriple A R.letters R.triples
    → ((r : ℕ) → HasRanksUpto A R.letters r R.triples)
    → IsGreatestDelayed A R.letters R.triples
greatest_of A R valid size labels answered ranks accepting each least = record {
  in_range = subst (λ s. AreTriplesOf s A.labels R.letters R.triples) size (subst (λ l. AreTriplesOf R.states l R.letters R.triples) labels valid.in_range);
  once = valid.once;
  right = right_of_triples A R.triples (λ x has. record {
    answers = answered x has;
    ranked = accepting x has;
    at_zero = λ e. ranks.at_zero x.1 x.0 x.2 (subst (λ (o : Option ℕ). Contains R.triples (x.0, x.1, x.2, o)) e has);
    above_zero = λ r e some. ranks.above_zero x.1 x.0 x.2 r (subst (λ (o : Option ℕ). Contains R.triples (x.0, x.1, x.2, o)) e has) some;
  });
  has_each = each;
  least = λ Y range right b p q s h. least s Y range right b p q s h (omega arith);
}
