-- The laws of unions and intersections.
use Rattle.std.specs.Prelude.{◌≡◌, ℕ, ◌⊎◌, ◌↔◌, List}
use Rattle.auto_core.specs.Automaton.{Automaton, IsAutomaton}
use Rattle.auto_core.specs.Accept.{AcceptsLasso, AcceptsWord}
use Rattle.auto_core.specs.declared.parts.Mode.{Mode}
use Rattle.auto_core.specs.declared.parts.Mode.TheVariants.{Buchi, Finite}
use Rattle.auto_ops.specs.Limits.{IsSmallResult}
use Rattle.auto_ops.specs.Union.{IsUnion, IsUnionTooLarge}
use Rattle.auto_ops.specs.Intersection.{IsIntersection, IsIntersectionTooLarge}

-- The union accepts a lasso just where one of the two does.
abbrev pub UnionOfLassos : Type 0
UnionOfLassos =
    (A B U : Automaton) → IsAutomaton A → IsAutomaton B → IsUnion Buchi A B U → (u v : List ℕ) →
    AcceptsLasso U u v ↔ (AcceptsLasso A u v ⊎ AcceptsLasso B u v)

-- The union over finite words accepts a word just where one of the two does.
abbrev pub UnionOfWords : Type 0
UnionOfWords =
    (A B U : Automaton) → IsAutomaton A → IsAutomaton B → IsUnion Finite A B U → (w : List ℕ) →
    AcceptsWord U w ↔ (AcceptsWord A w ⊎ AcceptsWord B w)

-- The intersection accepts a lasso just where both do.
abbrev pub IntersectionOfLassos : Type 0
IntersectionOfLassos = (A B C : Automaton) → IsIntersection Buchi A B C → (u v : List ℕ) →
    AcceptsLasso C u v ↔ (AcceptsLasso A u v × AcceptsLasso B u v)

-- The intersection over finite words accepts a word just where both do.
abbrev pub IntersectionOfWords : Type 0
IntersectionOfWords = (A B C : Automaton) → IsIntersection Finite A B C → (w : List ℕ) →
    AcceptsWord C w ↔ (AcceptsWord A w × AcceptsWord B w)

-- There is one union of the two at most.
abbrev pub UnionIsOne : Type 0
UnionIsOne = (mode : Mode) (A B U V : Automaton) → IsUnion mode A B U → IsUnion mode A B V → U ≡ V

-- It is not within the limits of a result if it is too large.
abbrev pub TooLargeUnionIsNotSmall : Type 0
TooLargeUnionIsNotSmall =
    (mode : Mode) (A B U : Automaton) → IsUnion mode A B U → IsUnionTooLarge A B → IsSmallResult U
    → ⊥

-- If it is not too large, there is one, and it is within the limits.
abbrev pub UnionIsThere : Type 0
UnionIsThere =
    (mode : Mode) (A B : Automaton) → IsAutomaton A → IsAutomaton B → A.labels ≡ B.labels
    → (IsUnionTooLarge A B → ⊥) →
    (U : Automaton) × IsUnion mode A B U × IsSmallResult U

-- There is one intersection of the two at most.
abbrev pub IntersectionIsOne : Type 0
IntersectionIsOne =
    (mode : Mode) (A B C D : Automaton) → IsIntersection mode A B C → IsIntersection mode A B D
    → C ≡ D

-- If it is not too large, there is one, and it is within the limits.
abbrev pub IntersectionIsThere : Type 0
IntersectionIsThere =
    (mode : Mode) (A B : Automaton) → IsAutomaton A → IsAutomaton B → A.labels ≡ B.labels
    → (IsIntersectionTooLarge mode A B → ⊥) →
    (C : Automaton) × IsIntersection mode A B C × IsSmallResult C

-- It is not within the limits of a result if it is too large.
abbrev pub TooLargeIntersectionIsNotSmall : Type 0
TooLargeIntersectionIsNotSmall =
    (mode : Mode) (A B C : Automaton) → IsIntersection mode A B C → IsIntersectionTooLarge mode A B
    → IsSmallResult C → ⊥
