-- Answers with pairs below a bound, and the rule of answers.
use Rattle.std.proofs.Common.{◌≡◌, ℕ, zero, suc, ◌<◌, ◌≤◌, Option, None, Some, List, length, refl, sym, ap, subst, inl, inr, arith}
use Rattle.std.proofs.lemmas.Bool.{cases_eq, cases_lt}
use Rattle.auto_core.specs.Automaton.{Automaton, IsAutomaton, IsBefore, IsBelowPair, IsSuccessors, Moves, trans_at}
use Rattle.auto_core.specs.declared.parts.Trans.{Trans}
use Rattle.auto_core.proofs.MoveLemmas.{number_of, move_at}
use Rattle.delayed_game.specs.Across.{RankedPlacePairs, HoldsPlacePair}
use Rattle.delayed_game.specs.Settling.{AnswersAll}
use Rattle.delayed_game.proofs.CanLemmas.{none_is_some, some_is}
use Rattle.delayed_laws.specs.declared.parts.DelayedPair.{DelayedPair}
use Rattle.delayed_laws.specs.Listed.{place_pairs}
use Rattle.delayed_across.specs.Listed.{IsNumberOf}
use Rattle.delayed_across.specs.Reached.{IsFirstAnswer, IsAnswerBy}
use Rattle.delayed_across.specs.Answered.{HasRightRank, HasRankBelow, KeepsAnswers, HoldsBelow, bound_of}

answers_with : (A B : Automaton) (R S : ℕ → ℕ → Type 0) (p q : ℕ) → ((y s : ℕ) → R y s → S y s) → AnswersAll A B R p q → AnswersAll A B S p q
answers_with A B R S p q more all a y move = let (q', goes, there) = all a y move in (q', goes, more y q' there)

holds_any : (X : RankedPlacePairs) (bound : Option ℕ) (p q : ℕ) → HoldsBelow X bound p q → HoldsPlacePair X p q
holds_any X bound p q (o, has, below) = (o, has)

-- Below a rank above 0.
has_rank_below : (X : RankedPlacePairs) (o : Option ℕ) (r p q : ℕ) → o ≡ Some r → 0 < r → HoldsBelow X (bound_of o) p q → HasRankBelow X r p q
has_rank_below X None r p q e some held = absurd (none_is_some None r refl e)
has_rank_below X (Some zero) r p q e some held = let is : 0 ≡ r = some_is (Some 0) 0 r refl e in absurd (omega arith)
has_rank_below X (Some (suc k)) r p q e some (None, has, below) = absurd below
has_rank_below X (Some (suc k)) r p q e some (Some s, has, below) = let is : suc k ≡ r = some_is (Some (suc k)) (suc k) r refl e in (s, has, omega arith)

pub answers_kept : (A B : Automaton) (X : RankedPlacePairs) (x : DelayedPair) → HasRightRank A B x → AnswersAll A B (HoldsBelow X (bound_of x.rank)) x.left x.right → KeepsAnswers A B X x
answers_kept A B X x rank all = record {
  rank = rank;
  answers = answers_with A B (HoldsBelow X (bound_of x.rank)) (HoldsPlacePair X) x.left x.right (holds_any X (bound_of x.rank)) all;
  above_zero = λ r e some. answers_with A B (HoldsBelow X (bound_of x.rank)) (HasRankBelow X r) x.left x.right (λ y s held. has_rank_below X x.rank r y s e some held) all;
}

answered_below : (A B : Automaton) (X : RankedPlacePairs) (p q : ℕ) (o : Option ℕ) → AnswersAll A B (HoldsPlacePair X) p q → ((r : ℕ) → o ≡ Some r → 0 < r → AnswersAll A B (HasRankBelow X r) p q) → AnswersAll A B (HoldsBelow X (bound_of o)) p q
answered_below A B X p q None all above = answers_with A B (HoldsPlacePair X) (HoldsBelow X None) p q (λ y s (m, has). (m, has, tt)) all
answered_below A B X p q (Some zero) all above = answers_with A B (HoldsPlacePair X) (HoldsBelow X None) p q (λ y s (m, has). (m, has, tt)) all
answered_below A B X p q (Some (suc r)) all above = answers_with A B (HasRankBelow X (suc r)) (HoldsBelow X (Some (suc r))) p q (λ y s (t, has, lt). (Some t, has, lt)) (above (suc r) refl (omega arith))

pub kept_answered : (A B : Automaton) (X : RankedPlacePairs) (x : DelayedPair) → KeepsAnswers A B X x → AnswersAll A B (HoldsBelow X (bound_of x.rank)) x.left x.right
kept_answered A B X x kept = answered_below A B X x.left x.right x.rank kept.answers kept.above_zero

-- ---- the first answer

-- Among the moves by one letter the targets ascend.
target_rises : (t u : Trans) (q a : ℕ) → (t.source ≡ q) × (t.label ≡ a) → (u.source ≡ q) × (u.label ≡ a) → IsBefore t u → t.target < u.target
target_rises t u q a at_t at_u before = let e = at_t.0 in let f = at_t.1 in let g = at_u.0 in let h = at_u.1 in omega arith

-- The first that answers has the least state.
pub least_of_first :
    (B : Automaton) → IsAutomaton B → (q a : ℕ) (X : RankedPlacePairs) (bound : Option ℕ) (y u : ℕ) → u < length B.transitions → ((trans_at B u).source ≡ q) × ((trans_at B u).label ≡ a)
    → HoldsBelow X bound y (trans_at B u).target
    → ((v : ℕ) → v < u → ((trans_at B v).source ≡ q) × ((trans_at B v).label ≡ a) → HoldsBelow X bound y (trans_at B v).target → ⊥)
    → IsFirstAnswer B X bound q a y (trans_at B u).target
least_of_first B valid q a X bound y u within here held none = record {
  move = subst (λ r. Moves B r a (trans_at B u).target) here.0 (subst (λ b. Moves B (trans_at B u).source b (trans_at B u).target) here.1 (move_at B u within));
  held = held;
  least = least;
}
  where
    least : (s : ℕ) → Moves B q a s → HoldsBelow X bound y s → (trans_at B u).target ≤ s
    least s move other =
        let (t, t_in, is) = number_of B q a s move in
        let there : ((trans_at B t).source ≡ q) × ((trans_at B t).label ≡ a) = (ap (λ (x : Trans). x.source) is, ap (λ (x : Trans). x.label) is) in
        let target : (trans_at B t).target ≡ s = ap (λ (x : Trans). x.target) is in
        elim (cases_lt t u) [
          | inl lt ↦ absurd (none t lt there (subst (λ n. HoldsBelow X bound y n) (sym target) other))
          | inr later ↦ elim (cases_eq u t) [
            | inl e ↦ let same : (trans_at B u).target ≡ (trans_at B t).target = ap (λ n. (trans_at B n).target) e in omega arith
            | inr apart ↦
                let less = target_rises (trans_at B u) (trans_at B t) q a here there (valid.in_order u t (omega arith) t_in) in
                omega arith
          ]
        ]

-- The same in the range of the successors.
pub first_is_least :
    (B : Automaton) → IsAutomaton B → (q a begin end : ℕ) → IsSuccessors B q a begin end → (X : RankedPlacePairs) (bound : Option ℕ) (y u : ℕ) → begin ≤ u → u < end
    → HoldsBelow X bound y (trans_at B u).target
    → ((v : ℕ) → begin ≤ v → v < u → HoldsBelow X bound y (trans_at B v).target → ⊥)
    → IsFirstAnswer B X bound q a y (trans_at B u).target
first_is_least B valid q a begin end range X bound y u from upto held none =
    let fits = range.within in
    least_of_first B valid q a X bound y u (omega arith) (range.inside u from upto) held (λ v lt there. none v (low v there) lt)
  where
    not_below : (t : Trans) → (t.source ≡ q) × (t.label ≡ a) → IsBelowPair t q a → ⊥
    not_below t there below = let e = there.0 in let f = there.1 in omega arith

    low : (v : ℕ) → ((trans_at B v).source ≡ q) × ((trans_at B v).label ≡ a) → begin ≤ v
    low v there = elim (cases_lt v begin) [ inl lt ↦ absurd (not_below (trans_at B v) there (range.before v lt)) | inr from_begin ↦ from_begin ]

-- The pair with this number has the state that answers.
pub answer_by :
    (B : Automaton) (pairs : List DelayedPair) (bound : Option ℕ) (q a y r number : ℕ) → IsNumberOf pairs y r number → IsFirstAnswer B (place_pairs pairs) bound q a y r → IsAnswerBy B pairs bound q a y number
answer_by B pairs bound q a y r number is first = record {
  named = record { within = is.within; left = is.left; right = refl };
  answer = subst (λ s. IsFirstAnswer B (place_pairs pairs) bound q a y s) (sym is.right) first;
}
