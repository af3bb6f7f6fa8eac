-- The laws of maps of states and of classes of letters.
use Rattle.std.specs.Prelude.{◌≡◌, ℕ, ◌≤◌, ◌↔◌, List, ◌++◌, map}
use Rattle.auto_core.specs.Automaton.{Automaton, IsAutomaton}
use Rattle.auto_core.specs.Run.{repeated}
use Rattle.auto_core.specs.Accept.{AcceptsLasso, Includes, SeparatesLasso}
use Rattle.auto_core.specs.declared.parts.Mode.{Mode}
use Rattle.map_laws.specs.Maps.{CarriesOverBy, CarriesOver, JoinsEqualColumns, classes_in, IsWordOver, IsRenamed}

-- Whatever the map is: if it carries A over into B, then B accepts what A accepts.
abbrev pub CarriedOverIsIncluded : Type 0
CarriedOverIsIncluded =
    (A B : Automaton) (image : ℕ → ℕ) (mode : Mode) → CarriesOver A B image → Includes A B mode

-- With a map of letters too, B accepts the image of each lasso that A accepts.
abbrev pub ImagesAreAccepted : Type 0
ImagesAreAccepted = (A B : Automaton) (letter image : ℕ → ℕ) → CarriesOverBy A B letter image →
    (u v : List ℕ) → AcceptsLasso A u v → AcceptsLasso B (map letter u) (map letter v)

-- What A accepts is accepted as a lasso of classes by the automaton over classes, whatever the
-- classes are.
abbrev pub ClassesAreAccepted : Type 0
ClassesAreAccepted = (A C : Automaton) (classes : List ℕ) → IsRenamed A classes C →
    (u v : List ℕ) → AcceptsLasso A u v
    → AcceptsLasso C (classes_in classes u) (classes_in classes v)

-- If letters of one class have the same moves, B accepts a lasso exactly where the automaton over
-- classes accepts that of the classes.
abbrev pub ClassesTellTheSame : Type 0
ClassesTellTheSame =
    (B D : Automaton) (classes : List ℕ) → IsAutomaton B → JoinsEqualColumns B classes
    → IsRenamed B classes D →
    (u v : List ℕ) → IsWordOver B.labels u → IsWordOver B.labels v →
    AcceptsLasso B u v ↔ AcceptsLasso D (classes_in classes u) (classes_in classes v)

-- A lasso that A accepts and whose classes read as one lasso of classes: with some turns of the
-- loop in the prefix, and some turns taken as one.
pub record IsLassoOfClasses (A : Automaton) (classes cu cv u v : List ℕ) : Type 0 where
  pub before : ℕ
  pub turns : ℕ
  pub some_turn : 1 ≤ turns
  pub prefix : classes_in classes u ≡ cu ++ repeated cv before
  pub turn : classes_in classes v ≡ repeated cv turns
  pub accepted : AcceptsLasso A u v

-- For each lasso of classes that the automaton over classes accepts A accepts one whose letters are
-- of these classes.
abbrev pub LettersAreFound : Type 0
LettersAreFound = (A C : Automaton) (classes : List ℕ) → IsRenamed A classes C →
    (cu cv : List ℕ) → AcceptsLasso C cu cv → (u v : List ℕ) × IsLassoOfClasses A classes cu cv u v

-- If letters of one class have the same moves in B, then B includes A exactly where this is so over
-- classes.
abbrev pub InclusionOverClasses : Type 0
InclusionOverClasses =
    (A B C D : Automaton) (classes : List ℕ) (mode : Mode) → IsAutomaton A → IsAutomaton B
    → A.labels ≡ B.labels →
    JoinsEqualColumns B classes → IsRenamed A classes C → IsRenamed B classes D →
    Includes A B mode ↔ Includes C D mode

-- A lasso that separates over classes gives one of the same classes that separates, by letters that
-- A reads.
abbrev pub SeparationOverClasses : Type 0
SeparationOverClasses = (A B C D : Automaton) (classes : List ℕ) →
    IsRenamed A classes C → IsRenamed B classes D → (cu cv : List ℕ) → SeparatesLasso C D cu cv →
    (u v : List ℕ) × IsLassoOfClasses A classes cu cv u v × SeparatesLasso A B u v

-- A lasso that A accepts, and whose lasso of classes is not accepted over classes, separates.
abbrev pub SeparationByLetters : Type 0
SeparationByLetters = (A B D : Automaton) (classes : List ℕ) → IsRenamed B classes D →
    (u v : List ℕ) → AcceptsLasso A u v
    → (AcceptsLasso D (classes_in classes u) (classes_in classes v) → ⊥)
    → SeparatesLasso A B u v
