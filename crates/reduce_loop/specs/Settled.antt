-- Automata in which no step finds anything to do.
use Rattle.std.specs.Prelude.{◌≡◌, ℕ, ◌<◌, List, Contains}
use Rattle.auto_core.specs.Automaton.{Automaton}
use Rattle.auto_core.specs.Delayed.{RankedTriples, IsGreatestDelayed, AreStateRelated, letters_for}
use Rattle.auto_core.specs.Game.{Close, Holds, IsGreatestForward, IsGreatestBackward}
use Rattle.auto_core.specs.Pruning.{HasBetter, IsGreatestBack, IsGreatestAhead}
use Rattle.auto_core.specs.Useful.{IsTrimmed}
use Rattle.auto_core.specs.declared.parts.Mode.{Mode}
use Rattle.reduce_loop.specs.declared.steps.Foresight.{Foresight}
use Rattle.reduce_loop.specs.declared.steps.Kind.{Kind}
use Rattle.reduce_loop.specs.declared.steps.Kind.TheVariants.{Trim, Forward, Backward, Delayed, Prune}
use Rattle.reduce_loop.specs.Kinds.{kinds_of}

-- No two different states of A are related both ways by R.
abbrev pub HasNoTwins : Automaton → (ℕ → ℕ → Type 0) → Type 0
HasNoTwins A R = (p q : ℕ) → p < A.states → q < A.states → R p q → R q p → p ≡ q

-- No transition of A has a better one by pair n over the closures of the greatest relations at
-- lookahead k.
abbrev pub HasNoneBetter : Automaton → ℕ → ℕ → Type 0
HasNoneBetter A n k =
    (back ahead : List (ℕ × ℕ))
    → IsGreatestBack A n k back
    → IsGreatestAhead A n k ahead
    → (t : ℕ)
    → HasBetter A n (Close (Holds back)) (Close (Holds ahead)) t
    → ⊥

-- A step of this kind has nothing to do: A is its own trimmed automaton; the closure of the
-- greatest relation joins no two states; no transition has a better one.
abbrev pub IsSettledAt : Automaton → Mode → Foresight → Kind → Type 0
IsSettledAt A mode sight Trim = IsTrimmed A mode A
IsSettledAt A mode sight Forward =
    (S : List (ℕ × ℕ)) → IsGreatestForward A sight.look S → HasNoTwins A (Close (Holds S))
IsSettledAt A mode sight Backward =
    (S : List (ℕ × ℕ)) → IsGreatestBackward A sight.look S → HasNoTwins A (Close (Holds S))
IsSettledAt A mode sight Delayed =
    (X : RankedTriples)
    → IsGreatestDelayed A (letters_for A sight.letters) X
    → HasNoTwins A (Close (AreStateRelated A.labels (letters_for A sight.letters) X))
IsSettledAt A mode sight (Prune n) = HasNoneBetter A n sight.look

-- No step of the mode has anything to do.
abbrev pub IsSettled : Automaton → Mode → Foresight → Type 0
IsSettled A mode sight =
    (kind : Kind) → Contains (kinds_of mode) kind → IsSettledAt A mode sight kind
