use Rattle.std.proofs.Common.{ℕ}
use Rattle.auto_core.specs.Reach.{HasArc}
use Rattle.auto_core.specs.Game.{Holds}
use Rattle.graph_rows.proofs.ArcLemmas.{row_marks}
use Rattle.graph_rows.proofs.CoveringLemmas.{meeting_arcs}
use Rattle.graph_rows.proofs.covering.answers.Goals as goal

pub returns-then-flagged-clause-marked : goal.returns-then-flagged-clause-marked
returns-then-flagged-clause-marked c = λ _.
    let n : ℕ = c.args.order.now.size in
    meeting_arcs (HasArc c.args.past.now n c.args.width c.args.row) (Holds c.args.order.now.pairs c.args.target) c.row_at.result.now c.row-wanted.result.now c.meets.result
    (row_marks c.args.past.now c.row_at.result.now n c.args.width c.args.row c.requires.past c.requires.is_row c.row_at.ensures.bits c.row_at.ensures.outside)
    c.row-wanted.ensures.bits c.meets.ensures

pub returns-else-flagged-clause-any : goal.returns-else-flagged-clause-any
returns-else-flagged-clause-any c = λ _.
    let n : ℕ = c.args.order.now.size in
    meeting_arcs (HasArc c.args.joined.now n c.args.width c.args.row) (Holds c.args.order.now.pairs c.args.target) c.row_at-else-flagged.result.now c.row-wanted.result.now
    c.meets-else-flagged.result
    (row_marks c.args.joined.now c.row_at-else-flagged.result.now n c.args.width c.args.row c.requires.joined c.requires.is_row
    c.row_at-else-flagged.ensures.bits c.row_at-else-flagged.ensures.outside)
    c.row-wanted.ensures.bits c.meets-else-flagged.ensures
