use Rattle.std.proofs.Common.{ℕ, rules}
use Rattle.auto_core.specs.Game.{Holds}
use Rattle.graph_rows.specs.Block.{block_graph}
use Rattle.graph_rows.specs.Covering.{LacksAnswer}
use Rattle.graph_rows.proofs.covering.is_refused.Goals as goal

pub returns-then-is_row_refused : goal.returns-then-is_row_refused
returns-then-is_row_refused c = λ _ covers.
    let n : ℕ = c.args.order.now.size in
    let lacks : LacksAnswer (Holds c.args.order.now.pairs) (block_graph n c.args.g.now).joined (block_graph n c.args.h.now).joined c.loop-row.row = search rules in
    let (u, found, rel) = covers.joined c.loop-row.row lacks.target lacks.arc in
    lacks.none u found rel
