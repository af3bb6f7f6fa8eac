-- What the logs of a certificate show.
use Rattle.std.specs.Prelude.{◌≡◌, ℕ, true, List}
use Rattle.std.specs.List.{list_all}
use Rattle.auto_core.specs.Automaton.{Automaton, IsAutomaton}
use Rattle.auto_core.specs.Accept.{Includes}
use Rattle.auto_core.specs.declared.parts.Mode.{Mode}
use Rattle.cert_value.specs.declared.types.FirstStep.{FirstStep}
use Rattle.cert_value.specs.declared.types.SecondStep.{SecondStep}
use Rattle.cert_value.specs.WellFormed.{is_first_step, is_second_step}
use Rattle.log_check.specs.declared.faults.Refusal.{Refusal}
use Rattle.log_check.specs.declared.ends.Ends.{Ends}
use Rattle.log_check.specs.FirstLog.{FirstLogFollows}
use Rattle.log_check.specs.SecondLog.{SecondLogFollows}
use Rattle.log_check.specs.Ends.{AreEnds, LogsBreak}

-- The automaton that a log leads to is valid, and has the labels of the one that it begins with.
pub record IsEndOf (A B : Automaton) : Type 0 where
  pub valid : IsAutomaton B
  pub labels : B.labels ≡ A.labels

-- What a first log leads to accepts all that the automaton before it accepts.
abbrev pub FirstLogGrows : Type 0
FirstLogGrows =
    (mode : Mode) (A B : Automaton) (item : ℕ) (steps : List FirstStep)
    → IsAutomaton A
    → list_all is_first_step steps ≡ true
    → FirstLogFollows mode A item steps B
    → Includes A B mode × IsEndOf A B

-- What a second log leads to accepts no more than the automaton before it.
abbrev pub SecondLogShrinks : Type 0
SecondLogShrinks =
    (version : ℕ) (mode : Mode) (A B : Automaton) (item : ℕ) (steps : List SecondStep)
    → IsAutomaton A
    → list_all (is_second_step version mode) steps ≡ true
    → SecondLogFollows A item steps B
    → Includes B A mode × IsEndOf A B

-- Two logs lead to one pair of automata at most.
abbrev pub EndsAreOne : Type 0
EndsAreOne =
    (mode : Mode) (A B : Automaton) (firsts : List FirstStep) (seconds : List SecondStep)
    (ends other : Ends)
    → AreEnds mode A B firsts seconds ends
    → AreEnds mode A B firsts seconds other
    → ends ≡ other

-- Two logs break one rule first, at most.
abbrev pub BreakIsOne : Type 0
BreakIsOne =
    (mode : Mode) (A B : Automaton) (firsts : List FirstStep) (seconds : List SecondStep)
    (refusal other : Refusal)
    → LogsBreak mode A B firsts seconds refusal
    → LogsBreak mode A B firsts seconds other
    → refusal ≡ other

-- Where two logs lead to two automata, they break no rule.
abbrev pub NoneBreaksWithEnds : Type 0
NoneBreaksWithEnds =
    (mode : Mode) (A B : Automaton) (firsts : List FirstStep) (seconds : List SecondStep)
    (refusal : Refusal) (ends : Ends)
    → LogsBreak mode A B firsts seconds refusal
    → AreEnds mode A B firsts seconds ends
    → ⊥
