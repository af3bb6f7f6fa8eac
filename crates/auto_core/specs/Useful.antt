-- Useful states, and automata that keep some of their states.
use Rattle.std.specs.Prelude.{◌≡◌, ℕ, zero, suc, ◌+◌, ◌≤◌, ◌↔◌, Bool, ◌||◌, List, length, Contains, ◌==◌, if◌then◌else◌}
use Rattle.std.specs.List.{list_any}
use Rattle.auto_core.specs.Automaton.{Automaton, IsAutomaton, Moves, IsAccepting}
use Rattle.auto_core.specs.Run.{Run}
use Rattle.auto_core.specs.declared.parts.Mode.{Mode}
use Rattle.auto_core.specs.declared.parts.Mode.TheVariants.{Buchi, Finite}

-- q is reached from p: a run leads there, maybe with no move.
abbrev pub Reaches : Automaton → ℕ → ℕ → Type 0
Reaches A p q = (w : List ℕ) × (flag : Bool) × Run A p w q flag

-- The state lies on a cycle: a run on a word that is not empty leads back to it.
abbrev pub IsOnCycle : Automaton → ℕ → Type 0
IsOnCycle A p = (w : List ℕ) × (flag : Bool) × (1 ≤ length w) × Run A p w p flag

-- What accepted runs come to: an accepting state, in Büchi mode one that lies on a cycle.
abbrev pub IsGoal : Automaton → Mode → ℕ → Type 0
IsGoal A Buchi p = IsAccepting A p × IsOnCycle A p
IsGoal A Finite p = IsAccepting A p

-- The state is useful: it is reached from the initial state and reaches a goal.
pub record IsUseful (A : Automaton) (mode : Mode) (q : ℕ) : Type 0 where
  pub reached : Reaches A A.initial q
  pub goal : ℕ
  pub reaches : Reaches A q goal
  pub is_goal : IsGoal A mode goal

-- How many of the numbers below n pass the test.
abbrev pub count_below : (ℕ → Bool) → ℕ → ℕ
count_below test zero = 0
count_below test (suc n) = count_below test n + (if test n then 1 else 0)

-- Whether the state stays where these are kept: it is one of them, or the initial state.
abbrev pub stays : Automaton → List ℕ → ℕ → Bool
stays A kept q = list_any (λ x. x == q) kept || q == A.initial

-- The new number of a state that stays: how many that stay stand before it.
abbrev pub new_number : Automaton → List ℕ → ℕ → ℕ
new_number A kept q = count_below (stays A kept) q

-- B has the kept states of A and the initial one, under new numbers in the old order; the
-- transitions with both ends kept; and the accepting states that are kept.
pub record IsKeptPart (A : Automaton) (kept : List ℕ) (B : Automaton) : Type 0 where
  pub valid : IsAutomaton B
  pub states : B.states ≡ count_below (stays A kept) A.states
  pub labels : B.labels ≡ A.labels
  pub initial : B.initial ≡ new_number A kept A.initial
  pub moves : (p a q : ℕ)
      → Moves B p a q
      ↔ ((r s : ℕ) × Contains kept r × Contains kept s × Moves A r a s × (p ≡ new_number A kept r)
      × (q ≡ new_number A kept s))
  pub accepting : (p : ℕ)
      → IsAccepting B p ↔ ((r : ℕ) × Contains kept r × IsAccepting A r × (p ≡ new_number A kept r))

-- The list has just the useful states.
abbrev pub AreUseful : Automaton → Mode → List ℕ → Type 0
AreUseful A mode states = (q : ℕ) → Contains states q ↔ IsUseful A mode q

-- B keeps just the useful states of A, and the initial one in any case.
abbrev pub IsTrimmed : Automaton → Mode → Automaton → Type 0
IsTrimmed A mode B = (kept : List ℕ) × AreUseful A mode kept × IsKeptPart A kept B
