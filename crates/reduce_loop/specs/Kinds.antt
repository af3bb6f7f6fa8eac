-- The kinds of steps, and what each makes of an automaton.
use Rattle.std.specs.Prelude.{ℕ, ◌↔◌, List, [], ◌∷◌}
use Rattle.auto_core.specs.Automaton.{Automaton}
use Rattle.auto_core.specs.Delayed.{RankedTriples, IsGreatestDelayed, AreStateRelated, letters_for}
use Rattle.auto_core.specs.Game.{Close, Holds, IsGreatestForward, IsGreatestBackward}
use Rattle.auto_core.specs.Pruning.{IsPruned}
use Rattle.auto_core.specs.Useful.{IsTrimmed}
use Rattle.auto_core.specs.Quotient.{AreClassesOf, IsQuotient}
use Rattle.auto_core.specs.declared.parts.Mode.{Mode}
use Rattle.auto_core.specs.declared.parts.Mode.TheVariants.{Buchi, Finite}
use Rattle.reduce_loop.specs.declared.steps.Foresight.{Foresight}
use Rattle.reduce_loop.specs.declared.steps.Kind.{Kind}
use Rattle.reduce_loop.specs.declared.steps.Kind.TheVariants.{Trim, Forward, Backward, Delayed, Prune}

-- The prunings by the four approved pairs, in order.
abbrev pub prunings : List Kind
prunings = Prune 1 ∷ Prune 2 ∷ Prune 3 ∷ Prune 4 ∷ []

-- The steps of one pass, in order.
abbrev pub kinds_of : Mode → List Kind
kinds_of Buchi = Trim ∷ Forward ∷ Backward ∷ Delayed ∷ prunings
kinds_of Finite = Trim ∷ Forward ∷ Backward ∷ prunings

-- B has for its states the classes of A that the closure of a list of pairs, one that is the
-- greatest of its sort, relates both ways.
pub record IsMerged (A : Automaton) (Greatest : List (ℕ × ℕ) → Type 0)
    (B : Automaton) : Type 0 where
  pub pairs : List (ℕ × ℕ)
  pub classes : List ℕ
  pub greatest : Greatest pairs
  pub joined : AreClassesOf A.states (Close (Holds pairs)) classes
  pub quotient : IsQuotient A classes B

-- The list has just the pairs of the state relation of the greatest delayed relation with n
-- announced letters.
abbrev pub AreDelayedPairs : Automaton → ℕ → List (ℕ × ℕ) → Type 0
AreDelayedPairs A n S =
    (X : RankedTriples) × IsGreatestDelayed A n X
    × ((p q : ℕ) → Holds S p q ↔ AreStateRelated A.labels n X p q)

-- B is A after a step of this kind, by the greatest relations of A as it is then: the forward and
-- backward ones at the lookahead, the delayed one with as many letters as are announced on A.
abbrev pub After : Automaton → Mode → Foresight → Kind → Automaton → Type 0
After A mode sight Trim B = IsTrimmed A mode B
After A mode sight Forward B = IsMerged A (IsGreatestForward A sight.look) B
After A mode sight Backward B = IsMerged A (IsGreatestBackward A sight.look) B
After A mode sight Delayed B = IsMerged A (AreDelayedPairs A (letters_for A sight.letters)) B
After A mode sight (Prune n) B = IsPruned A n sight.look B
