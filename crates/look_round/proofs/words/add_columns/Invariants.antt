use Rattle.std.proofs.Common.{◌≤◌}
use Rattle.look_round.specs.Words.{AddsColumns}
use Rattle.look_round.proofs.words.add_columns.Given as goal

abbrev pub invariant-loop-a : goal.invariant-loop-a
invariant-loop-a l = AddsColumns l.fn.columns l.columns l.width l.fn.count l.count l.made l.a × (l.count ≤ l.room)
