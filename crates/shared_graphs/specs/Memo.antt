-- Answers about two numbers, as they are remembered.
use Rattle.std.specs.Prelude.{◌≡◌, ℕ, ◌⊎◌, List, Option, Some}
use Rattle.auto_core.specs.Outcome.{At}
use Rattle.shared_graphs.specs.declared.memo.Answer.{Answer}
use Rattle.shared_graphs.specs.declared.memo.Noted.{Noted}

-- Each answer that is remembered fits its two numbers.
abbrev pub AllTold : (ℕ → ℕ → Answer → Type 0) → List (Option Noted) → Type 0
AllTold fits told = (k : ℕ) (t : Noted) → At told k (Some t) → fits t.first t.second t.answer

-- No answer is remembered.
abbrev pub NothingTold : List (Option Noted) → Type 0
NothingTold told = (k : ℕ) (t : Noted) → At told k (Some t) → ⊥

-- This answer about the two numbers is remembered.
pub record HasAnswer (told : List (Option Noted)) (first second : ℕ)
    (answer : Answer) : Type 0 where
  pub place : ℕ
  pub here : Noted
  pub is : At told place (Some here)
  pub first_is : here.first ≡ first
  pub second_is : here.second ≡ second
  pub answer_is : here.answer ≡ answer

-- No answer has come but this one.
abbrev pub HasNoted : ℕ → ℕ → Answer → List (Option Noted) → List (Option Noted) → Type 0
HasNoted first second answer old now =
    (k : ℕ) (t : Noted) → At now k (Some t)
    → At old k (Some t) ⊎ ((t.first ≡ first) × (t.second ≡ second) × (t.answer ≡ answer))

-- Each answer was remembered before: no two numbers have another one.
abbrev pub TellsNothingNew : List (Option Noted) → List (Option Noted) → Type 0
TellsNothingNew old now =
    (k : ℕ) (t : Noted) → At now k (Some t)
    → (j : ℕ) × (was : Noted) × At old j (Some was) × (t.first ≡ was.first)
    × (t.second ≡ was.second) × (t.answer ≡ was.answer)
