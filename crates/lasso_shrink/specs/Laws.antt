-- What is left of a lasso or of a word.
use Rattle.std.specs.Prelude.{◌≡◌, ℕ, List, Contains}
use Rattle.auto_core.specs.Automaton.{Automaton}
use Rattle.auto_core.specs.declared.parts.Lasso.{Lasso}
use Rattle.lasso_shrink.specs.Shrinking.{IsShrunkWord, IsShrunkLasso}

-- One lasso at most is left of a lasso.
abbrev pub ShrunkLassoIsOne : Type 0
ShrunkLassoIsOne =
    (A B : Automaton) (lasso one two : Lasso) → IsShrunkLasso A B lasso one
    → IsShrunkLasso A B lasso two → one ≡ two

-- One word at most is left of a word.
abbrev pub ShrunkWordIsOne : Type 0
ShrunkWordIsOne =
    (A B : Automaton) (word one two : List ℕ) → IsShrunkWord A B word one
    → IsShrunkWord A B word two → one ≡ two

-- The letters that are left of a lasso are its own, in the prefix and in the loop.
abbrev pub ShrinkingALassoAddsNoLetter : Type 0
ShrinkingALassoAddsNoLetter =
    (A B : Automaton) (lasso left : Lasso) (a : ℕ)
    → IsShrunkLasso A B lasso left
    → (Contains left.prefix a → Contains lasso.prefix a)
    × (Contains left.turn a → Contains lasso.turn a)

-- The letters that are left of a word are its own.
abbrev pub ShrinkingAWordAddsNoLetter : Type 0
ShrinkingAWordAddsNoLetter =
    (A B : Automaton) (word left : List ℕ) (a : ℕ) → IsShrunkWord A B word left → Contains left a
    → Contains word a
