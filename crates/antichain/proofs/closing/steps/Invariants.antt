use Rattle.std.proofs.Common.{◌≡◌, ℕ, false, map, slice_index_or}
use Rattle.std.specs.Prelude.{filter}
use Rattle.std.specs.List.{range_with_len}
use Rattle.auto_core.specs.Outcome.{At}
use Rattle.auto_core.specs.PairOutcome.{pair_rules}
use Rattle.cert_value.specs.declared.types.StepLine.{StepLine}
use Rattle.antichain.specs.Kept.{entries_held}
use Rattle.antichain.specs.Made.{AreMade}
use Rattle.evidence.specs.Evidence.{IsStepOf}
use Rattle.antichain.proofs.closing.steps.Given as goal

abbrev pub invariant-loop-element : goal.invariant-loop-element
invariant-loop-element l = record {
  sets : AreMade l.second l.order.pairs l.sets.made.items;
  lines : map (λ (s : StepLine). s.element) l.steps ≡ filter (λ e. slice_index_or l.family.live.items e false) (range_with_len 0 l.element);
  each : (k : ℕ) (s : StepLine) → At l.steps k s → IsStepOf (pair_rules l.first l.second l.order.pairs) (entries_held l.first l.family) s;
}
