-- Both logs of a certificate, and the automata that they lead to.
use Rattle.std.specs.Prelude.{◌⊎◌, ℕ, ◌+◌, List, length, Result, Ok, Err}
use Rattle.auto_core.specs.Automaton.{Automaton}
use Rattle.auto_core.specs.declared.parts.Mode.{Mode}
use Rattle.cert_value.specs.declared.types.FirstStep.{FirstStep}
use Rattle.cert_value.specs.declared.types.SecondStep.{SecondStep}
use Rattle.log_check.specs.declared.ends.Ends.{Ends}
use Rattle.log_check.specs.declared.faults.Refusal.{Refusal}
use Rattle.log_check.specs.declared.faults.CheckFault.{CheckFault}
use Rattle.log_check.specs.declared.faults.CheckFault.TheVariants.{Refused, Memory}
use Rattle.log_check.specs.FirstLog.{FirstLogFollows, FirstLogBreaks}
use Rattle.log_check.specs.SecondLog.{SecondLogFollows, SecondLogBreaks}

-- The steps of both logs keep their rules from A and B on, and lead to these two. The steps of the
-- first log are the items from 1 on, and those of the second come next.
pub record AreEnds (mode : Mode) (A B : Automaton) (firsts : List FirstStep)
    (seconds : List SecondStep) (ends : Ends) : Type 0 where
  pub first : FirstLogFollows mode A 1 firsts ends.first
  pub second : SecondLogFollows B (1 + length firsts) seconds ends.second

-- The refusal is the first rule that a step of the first log breaks, or of the second where the
-- first keeps them all.
abbrev pub LogsBreak : Mode → Automaton → Automaton → List FirstStep → List SecondStep → Refusal
    → Type 0
LogsBreak mode A B firsts seconds refusal =
    FirstLogBreaks mode A 1 firsts refusal
    ⊎ ((first : Automaton) × FirstLogFollows mode A 1 firsts first
    × SecondLogBreaks B (1 + length firsts) seconds refusal)

-- The number of the item after the steps of both logs.
abbrev pub item_after : List FirstStep → List SecondStep → ℕ
item_after firsts seconds = 1 + (length firsts + length seconds)

-- A test of both logs: with two automata both lead there, and a refusal is the first rule that a
-- step breaks. Memory may be refused.
abbrev pub TellsBothLogs : Mode → Automaton → Automaton → List FirstStep → List SecondStep
    → Result Ends CheckFault → Type 0
TellsBothLogs mode A B firsts seconds (Ok ends) = AreEnds mode A B firsts seconds ends
TellsBothLogs mode A B firsts seconds (Err (Refused refusal)) =
    LogsBreak mode A B firsts seconds refusal
TellsBothLogs mode A B firsts seconds (Err Memory) = Unit {0}
