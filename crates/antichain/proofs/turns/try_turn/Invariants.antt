use Rattle.std.proofs.Common.{◌+◌, []}
use Rattle.auto_core.specs.Outcome.{At, Entry}
use Rattle.antichain.specs.declared.parts.Fate.TheVariants as fates
use Rattle.antichain.specs.Kept.{HasCome, entries_held}
use Rattle.antichain.specs.Made.{AreMade}
use Rattle.evidence.proofs.RangeLemmas.{extensions_from}
use Rattle.antichain.proofs.turns.try_turn.Given as goal

abbrev pub invariant-loop-t : goal.invariant-loop-t
invariant-loop-t l = record {
  sets : AreMade l.second l.order.pairs l.sets.made.items;
  come : (x : Entry) → At (entries_held l.first l.initial.family) l.turn x
      → HasCome l.first l.second l.order.pairs l.limit l.initial.family l.family fates.GoesOn [] (extensions_from l.first l.turn x l.t l.t-end) l.turn (l.turn + 1);
}
