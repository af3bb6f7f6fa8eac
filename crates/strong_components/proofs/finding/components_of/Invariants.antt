use Rattle.std.proofs.Common.{◌≡◌, ℕ, ◌<◌, length}
use Rattle.strong_components.specs.UnderWay.{IsUnderWay, IsNew}
use Rattle.strong_components.specs.States.{state_of}
use Rattle.strong_components.proofs.finding.components_of.Given as goal

abbrev pub invariant-loop-root : goal.invariant-loop-root
invariant-loop-root l =
    (length l.search.rest.items ≡ l.nodes)
    × IsUnderWay l.starts l.targets l.nodes (state_of l.search)
    × (length l.search.bounds.items ≡ 0)
    × ((v : ℕ) → v < l.root → IsNew (state_of l.search) v → ⊥)
