-- The laws of counting: too many numbers repeat, too many flagged blocks make a lasso, and a lasso
-- may be cut into other blocks.
use Rattle.std.specs.Prelude.{◌≡◌, ℕ, ◌<◌, ◌≤◌, Bool, true, List, ◌++◌, length, All, slice_index_or}
use Rattle.auto_core.specs.Automaton.{Automaton, IsAutomaton}
use Rattle.auto_core.specs.Run.{Run, repeated}
use Rattle.auto_core.specs.Accept.{AcceptsLasso}
use Rattle.auto_core.specs.Game.{Chain}

-- A run on the word from p to q passes an accepting state.
abbrev pub RunsPast : Automaton → List ℕ → ℕ → ℕ → Type 0
RunsPast A x p q = Run A p x q true

-- Two places of the list hold the same, the first before the second.
abbrev pub HasPlaces : List ℕ → Type 0
HasPlaces xs =
    (i j : ℕ) × (i < j) × (j < length xs)
    × ((d : ℕ) → slice_index_or xs i d ≡ slice_index_or xs j d)

-- Among more than n numbers below n two places hold the same.
abbrev pub Pigeonhole : Type 0
Pigeonhole = (n : ℕ) (xs : List ℕ) → n < length xs → All (λ x. x < n) xs → HasPlaces xs

-- A run on u, then as many runs on x as there are states, each past an accepting state: then the
-- lasso (u, x) is accepted.
abbrev pub Pumping : Type 0
Pumping = (A : Automaton) → IsAutomaton A → (u x : List ℕ) (p : ℕ) (flag : Bool) (n q : ℕ) →
    Run A A.initial u p flag → A.states ≤ n → Chain (RunsPast A x) n p q → AcceptsLasso A u x

-- If the lasso whose prefix has k turns more and whose loop is m turns is accepted, so is the lasso
-- itself.
abbrev pub Reblocking : Type 0
Reblocking =
    (A : Automaton) (u v : List ℕ) (k m : ℕ) → 1 ≤ m
    → AcceptsLasso A (u ++ repeated v k) (repeated v m) → AcceptsLasso A u v
