-- Classes of states, and the automaton whose states are the classes.
use Rattle.std.specs.Prelude.{◌≡◌, ℕ, ◌<◌, ◌≤◌, ◌↔◌, List, length, slice_index}
use Rattle.auto_core.specs.Automaton.{Automaton, IsAutomaton, Moves, IsAccepting}
use Rattle.auto_core.specs.Game.{Close, Holds}

-- The class of the state. Past the end there is none, and then it is class 0.
abbrev pub class_of : List ℕ → ℕ → ℕ
class_of classes q = slice_index classes q

-- The number of a class for each of at least one state. The classes are numbered in the order in
-- which they appear: each lesser number has appeared before.
pub record AreClasses (classes : List ℕ) : Type 0 where
  pub some : 1 ≤ length classes
  pub in_order : (q c : ℕ) → q < length classes → c < class_of classes q
      → (p : ℕ) × (p < q) × (class_of classes p ≡ c)

-- The classes of n states join two of them just where R relates them both ways.
pub record AreClassesOf (n : ℕ) (R : ℕ → ℕ → Type 0) (classes : List ℕ) : Type 0 where
  pub valid : AreClasses classes
  pub len : length classes ≡ n
  pub joins : (p q : ℕ) → p < n → q < n
      → (class_of classes p ≡ class_of classes q) ↔ (R p q × R q p)

-- B has the classes for states; its transitions are the images of those of A, and a class is
-- accepting if a member is.
pub record IsQuotient (A : Automaton) (classes : List ℕ) (B : Automaton) : Type 0 where
  pub valid : IsAutomaton B
  pub states : (c : ℕ) → c < B.states ↔ ((q : ℕ) × (q < A.states) × (c ≡ class_of classes q))
  pub labels : B.labels ≡ A.labels
  pub initial : B.initial ≡ class_of classes A.initial
  pub moves : (c a d : ℕ)
      → Moves B c a d
      ↔ ((p q : ℕ) × Moves A p a q × (c ≡ class_of classes p) × (d ≡ class_of classes q))
  pub accepting : (c : ℕ) → IsAccepting B c ↔ ((q : ℕ) × IsAccepting A q × (c ≡ class_of classes q))

-- The closure of R relates any two members of a class, and so both ways.
abbrev pub RelatesMembersBy : Automaton → List ℕ → (ℕ → ℕ → Type 0) → Type 0
RelatesMembersBy A classes R =
    (p q : ℕ) → p < A.states → q < A.states → class_of classes p ≡ class_of classes q → Close R p q

-- So does the closure of the pairs of the list.
abbrev pub RelatesMembers : Automaton → List ℕ → List (ℕ × ℕ) → Type 0
RelatesMembers A classes S = RelatesMembersBy A classes (Holds S)
