-- Stages of a check: rules that are tested in order, what is made where they are kept, and what
-- comes after that.
use Rattle.std.specs.Prelude.{◌≡◌, ◌⊎◌, List, Result, Ok, Err}
use Rattle.log_check.specs.declared.faults.Refusal.{Refusal}
use Rattle.log_check.specs.declared.faults.CheckFault.{CheckFault}
use Rattle.log_check.specs.declared.faults.CheckFault.TheVariants.{Refused, Memory}
use Rattle.log_check.specs.Checks.{RuleCheck, AllHold, FirstBroken}

-- A stage: that its rules are kept and it makes this, and which rule is the first that is broken.
pub record Stage (X : Type 0) : Type 1 where
  pub Keeps : X → Type 0
  pub Breaks : Refusal → Type 0

-- These checks, which make nothing.
abbrev pub checked : List RuleCheck → Stage (Unit {0})
checked checks = record { Keeps = λ x. AllHold checks; Breaks = FirstBroken checks }

-- These checks, and where they hold something that is so.
abbrev pub making : {X : Type 0} → List RuleCheck → (X → Type 0) → Stage X
making checks IsMade =
    record { Keeps = λ x. AllHold checks × IsMade x; Breaks = FirstBroken checks }

-- Both stages, the second about what the first one makes.
abbrev pub and_then : {X Y : Type 0} → Stage X → (X → Stage Y) → Stage Y
and_then {X} stage next = record {
  Keeps = λ y. (x : X) × stage.Keeps x × (next x).Keeps y;
  Breaks = λ refusal.
      stage.Breaks refusal ⊎ ((x : X) × stage.Keeps x × (next x).Breaks refusal);
}

-- A test of a stage: what it gives is what the stage makes where its rules are kept, and a refusal
-- is the first rule that is broken. Memory may be refused.
abbrev pub TellsStage : {X : Type 0} → Stage X → Result X CheckFault → Type 0
TellsStage stage (Ok x) = stage.Keeps x
TellsStage stage (Err (Refused refusal)) = stage.Breaks refusal
TellsStage stage (Err Memory) = Unit {0}

-- The stage makes one thing at most, one rule at most is the first that it breaks, and it never
-- does both.
pub record HasOneOutcome {X : Type 0} (stage : Stage X) : Type 0 where
  pub made : (x y : X) → stage.Keeps x → stage.Keeps y → x ≡ y
  pub broken : (refusal other : Refusal) → stage.Breaks refusal → stage.Breaks other
      → refusal ≡ other
  pub either : (refusal : Refusal) (x : X) → stage.Breaks refusal → stage.Keeps x → ⊥
