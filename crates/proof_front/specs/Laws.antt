-- What the front of a proof shows.
use Rattle.std.specs.Prelude.{◌≡◌, true}
use Rattle.auto_core.specs.Automaton.{Automaton, IsAutomaton}
use Rattle.auto_core.specs.Accept.{Includes}
use Rattle.auto_core.specs.declared.parts.Mode.TheVariants.{Buchi}
use Rattle.log_check.specs.declared.ends.Ends.{Ends}
use Rattle.proof_text.specs.declared.types.Front.{Front}
use Rattle.proof_text.specs.ProofText.{is_front}
use Rattle.proof_front.specs.Stages.{HasOneOutcome}
use Rattle.proof_front.specs.Front.{both_become}

-- Where the front keeps its rules for two automata over the same labels, and the second automaton
-- that it makes accepts each lasso that the first one that it makes accepts, that is so of the two.
abbrev pub KeptFrontCarriesOver : Type 0
KeptFrontCarriesOver =
    (A B : Automaton) (front : Front) (ends : Ends)
    → IsAutomaton A
    → IsAutomaton B
    → A.labels ≡ B.labels
    → is_front front ≡ true
    → (both_become A B front).Keeps ends
    → Includes ends.first ends.second Buchi
    → Includes A B Buchi

-- Two automata over the same labels.
pub record AreAlikeLabelled (ends : Ends) : Type 0 where
  pub first : IsAutomaton ends.first
  pub second : IsAutomaton ends.second
  pub labels : ends.first.labels ≡ ends.second.labels

-- What it makes are two automata over the same labels.
abbrev pub KeptFrontMakesAutomata : Type 0
KeptFrontMakesAutomata =
    (A B : Automaton) (front : Front) (ends : Ends)
    → IsAutomaton A
    → IsAutomaton B
    → A.labels ≡ B.labels
    → is_front front ≡ true
    → (both_become A B front).Keeps ends
    → AreAlikeLabelled ends

-- A front makes one thing at most of two automata, or one rule is the first that it breaks.
abbrev pub FrontHasOneOutcome : Type 0
FrontHasOneOutcome =
    (A B : Automaton) (front : Front) → HasOneOutcome (both_become A B front)
