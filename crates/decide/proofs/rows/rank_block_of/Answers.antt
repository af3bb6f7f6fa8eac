use Rattle.std.proofs.Common.{sym, subst, arith}
use Rattle.decide.specs.Rows.{AreRankRows}
use Rattle.decide.proofs.RankRowLemmas.{rank_rows_none, rank_rows_more, rank_rows_are_block}
use Rattle.decide.proofs.rows.rank_block_of.Goals as goal

pub loop-at-init : goal.loop-at-init
loop-at-init c = subst (AreRankRows c.args.ranks.now 0) (sym c.new-rows.ensures) (rank_rows_none c.args.ranks.now)

pub loop-at-preserved : goal.loop-at-preserved
loop-at-preserved c =
    let R = c.args.ranks.now in
    subst (AreRankRows R c.row_end-end.result) (sym c.in_ok-push.ensures.ok)
    (rank_rows_more R c.loop-at.at c.row_end-end.result c.loop-at.rows c.in_ok-rank_row.field-0 c.loop-at.invariant c.row_end-end.ensures.onward c.row_end-end.ensures.within c.in_ok-rank_row.ensures
    c.row_end-end.ensures.next)

pub returns : goal.returns
returns c =
    let R = c.args.ranks.now in
    rank_rows_are_block R c.loop-at.at c.loop-at.rows c.requires c.loop-at.invariant (omega (arith, c.loop-at-test.false, c.count.ensures.count))
