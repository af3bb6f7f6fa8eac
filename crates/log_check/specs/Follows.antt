-- Logs of steps: each step is tested on the automaton that the steps before it lead to, and then
-- carried out.
use Rattle.std.specs.Prelude.{◌≡◌, ◌⊎◌, ℕ, suc, List, [], ◌∷◌, Result, Ok, Err}
use Rattle.auto_core.specs.Automaton.{Automaton}
use Rattle.log_check.specs.declared.faults.Refusal.{Refusal}
use Rattle.log_check.specs.declared.faults.CheckFault.{CheckFault}
use Rattle.log_check.specs.declared.faults.CheckFault.TheVariants.{Refused, Memory}
use Rattle.log_check.specs.Checks.{RuleCheck, AllHold, FirstBroken}

-- A kind of log: what the rules ask of a step with this item number, on the automaton that it is
-- taken on; and whether the step, carried out on the automaton, leads to another one.
pub record LogRules (S : Type 0) : Type 1 where
  pub checks : Automaton → ℕ → S → List RuleCheck
  pub Leads : Automaton → S → Automaton → Type 0

-- The step keeps its rules on A, and leads to B.
pub record StepFollows (S : Type 0) (rules : LogRules S) (A : Automaton) (item : ℕ) (step : S)
    (B : Automaton) : Type 0 where
  pub holds : AllHold (rules.checks A item step)
  pub leads : rules.Leads A step B

-- Each step keeps its rules on the automaton that those before it lead to, and together they lead
-- from A to B. The first step is the item with this number.
abbrev pub Follows : (S : Type 0) → LogRules S → Automaton → ℕ → List S → Automaton → Type 0
Follows S rules A item [] B = B ≡ A
Follows S rules A item (step ∷ steps) B =
    (C : Automaton) × StepFollows S rules A item step C × Follows S rules C (suc item) steps B

-- The refusal is the first rule that a step breaks, on the automaton that the steps before it lead
-- to.
abbrev pub Breaks : (S : Type 0) → LogRules S → Automaton → ℕ → List S → Refusal → Type 0
Breaks S rules A item [] refusal = ⊥
Breaks S rules A item (step ∷ steps) refusal =
    FirstBroken (rules.checks A item step) refusal
    ⊎ ((C : Automaton) × StepFollows S rules A item step C
    × Breaks S rules C (suc item) steps refusal)

-- A test of a step on A: with an automaton the step keeps its rules and leads there, and a refusal
-- is the first rule that it breaks. Memory may be refused.
abbrev pub TellsStep : (S : Type 0) → LogRules S → Automaton → ℕ → S → Result Automaton CheckFault
    → Type 0
TellsStep S rules A item step (Ok B) = StepFollows S rules A item step B
TellsStep S rules A item step (Err (Refused refusal)) =
    FirstBroken (rules.checks A item step) refusal
TellsStep S rules A item step (Err Memory) = Unit {0}

-- The same of a log.
abbrev pub TellsLog : (S : Type 0) → LogRules S → Automaton → ℕ → List S
    → Result Automaton CheckFault → Type 0
TellsLog S rules A item steps (Ok B) = Follows S rules A item steps B
TellsLog S rules A item steps (Err (Refused refusal)) = Breaks S rules A item steps refusal
TellsLog S rules A item steps (Err Memory) = Unit {0}
