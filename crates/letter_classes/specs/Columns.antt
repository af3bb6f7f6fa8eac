-- The moves of an automaton by their letters, and what is wrong with classes of letters.
use Rattle.std.specs.Prelude.{◌≡◌, ℕ, ◌+◌, ◌<◌, ◌≤◌, ◌⊎◌, ◌↔◌, List, length, slice_index}
use Rattle.auto_core.specs.Automaton.{Automaton, IsAutomaton, Moves, trans, trans_at}
use Rattle.auto_core.specs.declared.parts.Trans.{Trans}
use Rattle.auto_core.specs.Quotient.{class_of}
use Rattle.quotient.specs.Counting.{IsCount, AreInOrder}
use Rattle.map_laws.specs.Maps.{HasSameColumns}

-- The transition with its source and its letter exchanged.
abbrev pub exchanged : Trans → Trans
exchanged t = trans t.label t.source t.target

-- T has the moves of A with source and letter exchanged, so that the moves out of a are those of A
-- by the letter a.
pub record IsTurned (A T : Automaton) : Type 0 where
  pub valid : IsAutomaton T
  pub enough : A.labels ≤ T.states
  pub moves : (a p q : ℕ) → Moves T a p q ↔ Moves A p a q

-- The transitions i and j have one label and one target.
abbrev pub AreAlike : Automaton → ℕ → ℕ → Type 0
AreAlike T i j =
    ((trans_at T i).label ≡ (trans_at T j).label) × ((trans_at T i).target ≡ (trans_at T j).target)

-- The transitions from b up to e are, place by place, like those from c up to f, and equally many.
pub record AreSpansAlike (T : Automaton) (b e c f : ℕ) : Type 0 where
  pub len : b + f ≡ c + e
  pub alike : (k : ℕ) → b + k < e → AreAlike T (b + k) (c + k)

-- At a first place k one span has ended and the other has not, or their transitions are unlike.
pub record HasFirstUnlike (T : Automaton) (b e c f : ℕ) : Type 0 where
  pub place : ℕ
  pub before : (k : ℕ) → k < place → (b + k < e) × (c + k < f) × AreAlike T (b + k) (c + k)
  pub here :
      ((b + place < e) × (f ≤ c + place))
      ⊎ ((e ≤ b + place) × (c + place < f))
      ⊎ ((b + place < e) × (c + place < f) × (AreAlike T (b + place) (c + place) → ⊥))

-- Classes of letters, so many: numbered in the order in which they appear.
pub record AreLetterClasses (classes : List ℕ) (count : ℕ) : Type 0 where
  pub counts : IsCount classes (length classes) count
  pub order : AreInOrder classes (length classes)
  pub few : count ≤ length classes

-- A number of the list has a lesser one that does not appear before.
abbrev pub IsOutOfOrder : List ℕ → Type 0
IsOutOfOrder classes =
    (q c : ℕ) × (q < length classes) × (c < class_of classes q)
    × ((p : ℕ) → p < q → class_of classes p ≡ c → ⊥)

-- The first label of each class that the labels below n have.
pub record AreFirsts (classes : List ℕ) (n : ℕ) (firsts : List ℕ) : Type 0 where
  pub counts : IsCount classes n (length firsts)
  pub each : (c : ℕ) → c < length firsts
      → (slice_index firsts c < n) × (class_of classes (slice_index firsts c) ≡ c)

-- The labels below n that are of one class have the same moves.
abbrev pub JoinsEqualBelow : Automaton → List ℕ → ℕ → Type 0
JoinsEqualBelow A classes n =
    (a b : ℕ) → a < n → b < n → class_of classes a ≡ class_of classes b → HasSameColumns A a b

-- The first label that has other moves than a label before it of its class.
pub record IsFirstUnlike (A : Automaton) (classes : List ℕ) (a : ℕ) : Type 0 where
  pub is_label : a < A.labels
  pub like : ℕ
  pub earlier : like < a
  pub class : class_of classes like ≡ class_of classes a
  pub differs : HasSameColumns A like a → ⊥
  pub before : JoinsEqualBelow A classes a

-- Two labels are of one class just where they have the same moves.
pub record AreClassesOfColumns (A : Automaton) (classes : List ℕ) : Type 0 where
  pub len : length classes ≡ A.labels
  pub order : AreInOrder classes (length classes)
  pub joins : (a b : ℕ) → a < A.labels → b < A.labels
      → (class_of classes a ≡ class_of classes b) ↔ HasSameColumns A a b

-- The class of a label: that of the first label that has the same moves, or the next one if there
-- is none.
abbrev pub IsFound : Automaton → List ℕ → ℕ → ℕ → Type 0
IsFound A firsts a class =
    ((class < length firsts) × HasSameColumns A (slice_index firsts class) a)
    ⊎ ((class ≡ length firsts)
    × ((c : ℕ) → c < length firsts → HasSameColumns A (slice_index firsts c) a → ⊥))

-- The transition with the class of its letter.
abbrev pub lettered : List ℕ → Trans → Trans
lettered classes t = trans t.source (class_of classes t.label) t.target
