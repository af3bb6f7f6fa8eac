-- Checks in order, and the first of them that does not hold.
use Rattle.std.specs.Prelude.{◌≡◌, ◌⊎◌, ℕ, suc, List, [], ◌∷◌, ◌++◌, Result, Ok, Err}
use Rattle.log_check.specs.declared.faults.Refusal.{Refusal}
use Rattle.log_check.specs.declared.faults.CheckFault.{CheckFault}
use Rattle.log_check.specs.declared.faults.CheckFault.TheVariants.{Refused, Memory}

-- What a rule asks of an item of a certificate. Rules have numbers from 1, items from 0.
pub record RuleCheck : Type 1 where
  pub rule : ℕ
  pub item : ℕ
  pub Met : Type 0

-- The rule asks this of the item.
abbrev pub rule_at : ℕ → ℕ → Type 0 → RuleCheck
rule_at rule item P = record { rule = rule; item = item; Met = P }

-- Each of the checks holds.
abbrev pub AllHold : List RuleCheck → Type 0
AllHold [] = Unit {0}
AllHold (c ∷ cs) = c.Met × AllHold cs

-- The first of the checks that does not hold is that of this rule and item.
abbrev pub FirstBroken : List RuleCheck → Refusal → Type 0
FirstBroken [] refusal = ⊥
FirstBroken (c ∷ cs) refusal =
    ((c.Met → ⊥) × (refusal ≡ record { rule = c.rule; item = c.item }))
    ⊎ (c.Met × FirstBroken cs refusal)

-- The checks of each thing of a list, in order; the first thing has this number.
abbrev pub checks_of_each : {X : Type 0} → (ℕ → X → List RuleCheck) → ℕ → List X → List RuleCheck
checks_of_each checks n [] = []
checks_of_each checks n (x ∷ xs) = checks n x ++ checks_of_each checks (suc n) xs

-- A test of these checks: with a value all of them hold, and a refusal is the first that does not.
-- Memory may be refused.
abbrev pub Tells : {X : Type 0} → List RuleCheck → Result X CheckFault → Type 0
Tells checks (Ok x) = AllHold checks
Tells checks (Err (Refused refusal)) = FirstBroken checks refusal
Tells checks (Err Memory) = Unit {0}
