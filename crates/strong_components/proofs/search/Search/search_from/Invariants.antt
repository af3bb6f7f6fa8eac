use Rattle.std.proofs.Common.{length}
use Rattle.strong_components.specs.UnderWay.{IsUnderWay, IsNew}
use Rattle.strong_components.specs.States.{state_of}
use Rattle.strong_components.specs.Steps.{KeepsSeen, work}
use Rattle.strong_components.proofs.search.Search.search_from.Given as goal

abbrev pub invariant-loop-self : goal.invariant-loop-self
invariant-loop-self l =
    IsUnderWay l.starts l.targets (length l.fn.self.rest.items) (state_of l.self)
    × KeepsSeen (state_of l.fn.self) (state_of l.self)
    × (IsNew (state_of l.self) l.root → ⊥)

abbrev pub decreases-loop-self : goal.decreases-loop-self
decreases-loop-self l = work (state_of l.self)
