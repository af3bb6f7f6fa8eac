-- The first rule that pairs break which are given.
use Rattle.std.specs.Prelude.{ℕ, ◌<◌, List, length}
use Rattle.auto_core.specs.Automaton.{Automaton}
use Rattle.delayed_game.specs.Across.{HoldsPlacePair, AreWithin}
use Rattle.delayed_laws.specs.declared.parts.DelayedPair.{DelayedPair}
use Rattle.delayed_laws.specs.Listed.{place_pairs, delayed_at}
use Rattle.delayed_across.specs.Answered.{IsOfStates, KeepsAnswers}
use Rattle.delayed_across.specs.declared.checking.DelayedRefusal.{DelayedRefusal}
use Rattle.delayed_across.specs.declared.checking.DelayedRefusal.TheVariants.{Range, Start, Answer}

-- The pair with this number is the first that is not so.
pub record IsFirstNot (so : DelayedPair → Type 0) (pairs : List DelayedPair)
    (number : ℕ) : Type 0 where
  pub within : number < length pairs
  pub before : (i : ℕ) → i < number → so (delayed_at pairs i)
  pub here : so (delayed_at pairs number) → ⊥

-- This is the first rule that the pairs break, in this order: each pair is of states; the pair of
-- the initial states is there; each pair keeps the rule of answers.
abbrev pub IsFirstRefusal : Automaton → Automaton → List DelayedPair → DelayedRefusal → Type 0
IsFirstRefusal A B pairs (Range number) = IsFirstNot (IsOfStates A B) pairs number
IsFirstRefusal A B pairs Start =
    AreWithin A.states B.states (place_pairs pairs)
    × (HoldsPlacePair (place_pairs pairs) A.initial B.initial → ⊥)
IsFirstRefusal A B pairs (Answer number) =
    AreWithin A.states B.states (place_pairs pairs)
    × HoldsPlacePair (place_pairs pairs) A.initial B.initial
    × IsFirstNot (KeepsAnswers A B (place_pairs pairs)) pairs number
