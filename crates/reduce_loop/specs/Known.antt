-- The relations that were found of an automaton.
use Rattle.std.specs.Prelude.{ℕ, IfSome}
use Rattle.auto_core.specs.Automaton.{Automaton}
use Rattle.auto_core.specs.Game.{IsGreatestForward, IsGreatestBackward}
use Rattle.reduce_loop.specs.declared.knowing.Known.{Known}
use Rattle.reduce_loop.specs.Logs.{IsRelationOf}

-- Each relation that was found is the greatest of its sort on A, at lookahead k or at lookahead 1.
pub record AreGreatestOn (A : Automaton) (k : ℕ) (known : Known) : Type 0 where
  pub forward : IfSome known.forward (IsRelationOf A (IsGreatestForward A k))
  pub backward : IfSome known.backward (IsRelationOf A (IsGreatestBackward A k))
  pub forward_at_one : IfSome known.forward_at_one (IsRelationOf A (IsGreatestForward A 1))
  pub backward_at_one : IfSome known.backward_at_one (IsRelationOf A (IsGreatestBackward A 1))
