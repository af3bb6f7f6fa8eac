-- What refusals are, and what is reached.
use Rattle.std.specs.Prelude.{◌≡◌, List}
use Rattle.auto_core.specs.Automaton.{Automaton, IsAutomaton}
use Rattle.delayed_game.specs.Across.{AreWithin}
use Rattle.delayed_laws.specs.declared.parts.DelayedPair.{DelayedPair}
use Rattle.delayed_laws.specs.Across.{IsDelayedSimulation}
use Rattle.delayed_laws.specs.Listed.{place_pairs, AreDelayedAscending}
use Rattle.delayed_across.specs.declared.checking.DelayedRefusal.{DelayedRefusal}
use Rattle.delayed_across.specs.Reached.{IsReachedPart}
use Rattle.delayed_across.specs.Refused.{IsFirstRefusal}

-- One rule at most is the first that pairs break.
abbrev pub RefusalIsOne : Type 0
RefusalIsOne =
    (A B : Automaton) (pairs : List DelayedPair) (refusal other : DelayedRefusal)
    → IsFirstRefusal A B pairs refusal → IsFirstRefusal A B pairs other → refusal ≡ other

-- The part of a delayed simulation that is reached is one.
abbrev pub ReachedPartIsSimulation : Type 0
ReachedPartIsSimulation =
    (A B : Automaton) (pairs part : List DelayedPair)
    → IsAutomaton B
    → AreDelayedAscending pairs
    → IsDelayedSimulation A B (place_pairs pairs)
    → IsReachedPart A B pairs part
    → IsDelayedSimulation A B (place_pairs part)

-- A delayed simulation whose pairs are of states and ascend breaks none.
abbrev pub SimulationIsNotRefused : Type 0
SimulationIsNotRefused =
    (A B : Automaton) (pairs : List DelayedPair) (refusal : DelayedRefusal)
    → AreDelayedAscending pairs
    → AreWithin A.states B.states (place_pairs pairs)
    → IsDelayedSimulation A B (place_pairs pairs)
    → IsFirstRefusal A B pairs refusal
    → ⊥
