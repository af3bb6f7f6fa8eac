-- Pairs that keep the rules, and the first rule that is broken.
use Rattle.std.proofs.Common.{◌≡◌, ℕ, ◌<◌, inl, inr, Option, Some, List, length, Contains, refl, ap, subst, arith}
use Rattle.std.proofs.lemmas.Bool.{cases_eq, cases_lt}
use Rattle.auto_core.specs.Automaton.{Automaton}
use Rattle.delayed_game.specs.Across.{RankedPlacePairs, AreWithin, IsRightAcross}
use Rattle.delayed_laws.specs.declared.parts.DelayedPair.{DelayedPair}
use Rattle.delayed_laws.specs.Listed.{delayed_pair, place_pairs, delayed_at, AreDelayedAscending}
use Rattle.delayed_laws.proofs.ListedLemmas.{pair_stands, pair_from, at_place, place_has, ascending_once}
use Rattle.delayed_across.specs.Answered.{IsOfStates, KeepsAnswers}
use Rattle.delayed_across.specs.Refused.{IsFirstNot}
use Rattle.delayed_across.specs.Laws.{RefusalIsOne, SimulationIsNotRefused}
use Rattle.delayed_across.specs.declared.checking.DelayedRefusal.TheVariants.{Range, Start, Answer}

-- What is so of each number is so of each pair.
each_pair : (so : DelayedPair → Type 0) (pairs : List DelayedPair) → ((i : ℕ) → i < length pairs → so (delayed_at pairs i)) → (x : DelayedPair) → Contains pairs x → so x
each_pair so pairs all x there = let (i, within, is) = place_has pairs x there in subst so is (all i within)

-- ---- of states

pub within_by_numbers : (A B : Automaton) (pairs : List DelayedPair) → ((i : ℕ) → i < length pairs → IsOfStates A B (delayed_at pairs i)) → AreWithin A.states B.states (place_pairs pairs)
within_by_numbers A B pairs all p q (o, there) = each_pair (IsOfStates A B) pairs all (delayed_pair p q o) (pair_from pairs p q o there)

pub of_states_at : (A B : Automaton) (pairs : List DelayedPair) → AreWithin A.states B.states (place_pairs pairs) → (i : ℕ) → i < length pairs → IsOfStates A B (delayed_at pairs i)
of_states_at A B pairs within i lt =
    let x = delayed_at pairs i in
    within x.left x.right (x.rank, pair_stands pairs x (at_place pairs i lt))

-- ---- the rule of answers

pub right_by_numbers : (A B : Automaton) (pairs : List DelayedPair) → ((i : ℕ) → i < length pairs → KeepsAnswers A B (place_pairs pairs) (delayed_at pairs i)) → IsRightAcross A B (place_pairs pairs)
right_by_numbers A B pairs all = record {
  answers = λ p q a y (o, there) move. (keeps p q o there).answers a y move;
  ranked = λ p q (o, there) here.
      let (r, e) = (keeps p q o there).rank.ranked here in
      (r, subst (λ m. Contains (place_pairs pairs) (p, q, m)) e there);
  at_zero = λ p q there. (keeps p q (Some 0) there).rank.at_zero refl;
  above_zero = λ p q r a y there some move.
      let (q', goes, (s, has, lt)) = (keeps p q (Some r) there).above_zero r refl some a y move in
      (q', s, goes, has, lt);
}
  where
    keeps : (p q : ℕ) (o : Option ℕ) → Contains (place_pairs pairs) (p, q, o) → KeepsAnswers A B (place_pairs pairs) (delayed_pair p q o)
    keeps p q o there = each_pair (KeepsAnswers A B (place_pairs pairs)) pairs all (delayed_pair p q o) (pair_from pairs p q o there)

pub right_keeps : (A B : Automaton) (pairs : List DelayedPair) → AreDelayedAscending pairs → IsRightAcross A B (place_pairs pairs) → (x : DelayedPair) → Contains pairs x → KeepsAnswers A B (place_pairs pairs) x
right_keeps A B pairs ascending right x has =
    let X : RankedPlacePairs = place_pairs pairs in
    let there : Contains X (x.left, x.right, x.rank) = pair_stands pairs x has in
    record {
      rank = record {
        ranked = λ here.
            let (r, ranked) = right.ranked x.left x.right (x.rank, there) here in
            (r, ascending_once pairs ascending x.left x.right x.rank (Some r) there ranked);
        at_zero = λ e. right.at_zero x.left x.right (subst (λ m. Contains X (x.left, x.right, m)) e there);
      };
      answers = λ a y move. right.answers x.left x.right a y (x.rank, there) move;
      above_zero = λ r e some a y move.
          let (q', s, goes, next, lt) = right.above_zero x.left x.right r a y (subst (λ m. Contains X (x.left, x.right, m)) e there) some move in
          (q', goes, (s, next, lt));
    }

-- ---- refusals

first_is_one : (so : DelayedPair → Type 0) (pairs : List DelayedPair) (i j : ℕ) → IsFirstNot so pairs i → IsFirstNot so pairs j → i ≡ j
first_is_one so pairs i j first other = elim (cases_lt i j) [
  | inl lt ↦ absurd (first.here (other.before i lt))
  | inr from ↦ elim (cases_eq i j) [ inl e ↦ e | inr apart ↦ absurd (other.here (first.before j (omega arith))) ]
]

-- Pairs of states are not refused by the first rule.
none_out : (A B : Automaton) (pairs : List DelayedPair) (i : ℕ) → IsFirstNot (IsOfStates A B) pairs i → AreWithin A.states B.states (place_pairs pairs) → ⊥
none_out A B pairs i first within = first.here (of_states_at A B pairs within i first.within)

pub refusal_is_one : RefusalIsOne
refusal_is_one A B pairs (Range i) (Range j) one two = ap Range (first_is_one (IsOfStates A B) pairs i j one two)
refusal_is_one A B pairs (Range i) Start one two = absurd (none_out A B pairs i one two.0)
refusal_is_one A B pairs (Range i) (Answer j) one two = absurd (none_out A B pairs i one two.0)
refusal_is_one A B pairs Start (Range j) one two = absurd (none_out A B pairs j two one.0)
refusal_is_one A B pairs Start Start one two = refl
refusal_is_one A B pairs Start (Answer j) one two = absurd (one.1 two.1)
refusal_is_one A B pairs (Answer i) (Range j) one two = absurd (none_out A B pairs j two one.0)
refusal_is_one A B pairs (Answer i) Start one two = absurd (two.1 one.1)
refusal_is_one A B pairs (Answer i) (Answer j) one two = ap Answer (first_is_one (KeepsAnswers A B (place_pairs pairs)) pairs i j one.2 two.2)

pub simulation_is_not_refused : SimulationIsNotRefused
simulation_is_not_refused A B pairs (Range i) ascending within is refused = none_out A B pairs i refused within
simulation_is_not_refused A B pairs Start ascending within is refused = refused.1 is.starts
simulation_is_not_refused A B pairs (Answer i) ascending within is refused =
    let first = refused.2 in
    first.here (right_keeps A B pairs ascending is.right (delayed_at pairs i) (at_place pairs i first.within))
