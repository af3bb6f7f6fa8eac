use Rattle.std.proofs.Common.{◌≡◌, ℕ, ◌+◌, length}
use Rattle.auto_core.specs.Outcome.{At, Entry, IsLeastSubsumer, next_entry}
use Rattle.auto_core.specs.PairOutcome.{pair_rules}
use Rattle.antichain.specs.Kept.{entries_held}
use Rattle.antichain.specs.Made.{AreMade}
use Rattle.antichain.proofs.closing.step_line.Given as goal

abbrev pub invariant-loop-t : goal.invariant-loop-t
invariant-loop-t l = record {
  sets : AreMade l.second l.order.pairs l.sets.made.items;
  size : l.initial.t + length l.by ≡ l.t;
  each : (k j : ℕ) (x : Entry) → At l.by k j → At (entries_held l.first l.family) l.element x
      → IsLeastSubsumer (pair_rules l.first l.second l.order.pairs) (entries_held l.first l.family) (next_entry l.first l.element x (l.initial.t + k)) j;
}
