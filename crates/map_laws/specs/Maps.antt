-- Maps of states that carry an automaton over into another, and classes of letters.
use Rattle.std.specs.Prelude.{◌≡◌, ℕ, ◌<◌, ◌↔◌, List, All, map}
use Rattle.auto_core.specs.Automaton.{Automaton, IsAutomaton, Moves, IsAccepting}
use Rattle.auto_core.specs.Quotient.{class_of}

-- The maps carry A over into B: the initial state becomes the initial one, each move a move by the
-- letter's image, and each accepting state an accepting one.
pub record CarriesOverBy (A B : Automaton) (letter image : ℕ → ℕ) : Type 0 where
  pub initial : B.initial ≡ image A.initial
  pub moves : (p a q : ℕ) → Moves A p a q → Moves B (image p) (letter a) (image q)
  pub accepting : (q : ℕ) → IsAccepting A q → IsAccepting B (image q)

-- The map of states carries A over into B, and each letter stays what it is.
abbrev pub CarriesOver : Automaton → Automaton → (ℕ → ℕ) → Type 0
CarriesOver A B image = CarriesOverBy A B (λ a. a) image

-- The automaton does not tell the two letters apart: they have the same moves.
abbrev pub HasSameColumns : Automaton → ℕ → ℕ → Type 0
HasSameColumns B a b = (p q : ℕ) → Moves B p a q ↔ Moves B p b q

-- Letters of one class have the same moves.
abbrev pub JoinsEqualColumns : Automaton → List ℕ → Type 0
JoinsEqualColumns B classes =
    (a b : ℕ) → a < B.labels → b < B.labels → class_of classes a ≡ class_of classes b
    → HasSameColumns B a b

-- The class of each letter of the word.
abbrev pub classes_in : List ℕ → List ℕ → List ℕ
classes_in classes w = map (class_of classes) w

-- Each letter of the word is one of the labels.
abbrev pub IsWordOver : ℕ → List ℕ → Type 0
IsWordOver labels w = All (λ a. a < labels) w

-- C has the states of A, and the classes for letters: a move for each move of A, by the class of
-- its letter.
pub record IsRenamed (A : Automaton) (classes : List ℕ) (C : Automaton) : Type 0 where
  pub valid : IsAutomaton C
  pub states : C.states ≡ A.states
  pub labels : (c : ℕ) → c < C.labels ↔ ((a : ℕ) × (a < A.labels) × (c ≡ class_of classes a))
  pub initial : C.initial ≡ A.initial
  pub moves : (p c q : ℕ) → Moves C p c q ↔ ((a : ℕ) × Moves A p a q × (c ≡ class_of classes a))
  pub accepting : C.accepting ≡ A.accepting
