use Rattle.std.proofs.Common.{◌-◌, ◌≤◌, []}
use Rattle.auto_core.specs.PairOutcome.{pair_rules}
use Rattle.antichain.specs.declared.parts.Fate.TheVariants as fates
use Rattle.antichain.specs.Kept.{HasCome}
use Rattle.antichain.specs.Made.{AreMade}
use Rattle.antichain.proofs.turns.run.Given as goal

abbrev pub invariant-loop-turn : goal.invariant-loop-turn
invariant-loop-turn l = record {
  sets : AreMade l.second l.order.pairs l.sets.made.items;
  come : HasCome l.first l.second l.order.pairs l.limit l.fn.family l.family fates.GoesOn (pair_rules l.first l.second l.order.pairs).starts [] 0 l.turn;
  reached : l.turn ≤ l.limit;
}

abbrev pub decreases-loop-turn : goal.decreases-loop-turn
decreases-loop-turn l = l.limit - l.turn
