use Rattle.std.proofs.Common.{◌+◌, ◌<◌, length, ap, ◌∙◌, arith}
use Rattle.decide.specs.Rows.{code_for}
use Rattle.decide.proofs.RankRowLemmas.{rank_few, rights_on}
use Rattle.decide.proofs.rows.ranked_rights.Goals as goal

pub code_of-requires : goal.code_of-requires
code_of-requires c =
    let R = c.args.ranks.now in
    let lt : c.args.at + c.loop-i.i < length R.triples = omega (arith, c.requires.within, c.loop-i-test.true) in
    rank_few R (c.args.at + c.loop-i.i) c.rank_at.result c.requires.few lt c.rank_at.ensures.rank

pub loop-i-preserved : goal.loop-i-preserved
loop-i-preserved c =
    let R = c.args.ranks.now in
    let lt : c.args.at + c.loop-i.i < length R.triples = omega (arith, c.requires.within, c.loop-i-test.true) in
    c.in_ok-push.ensures.ok
    ∙ rights_on R.triples c.args.at c.loop-i.i c.loop-i.rights c.right.result c.code_of.result lt c.right.ensures.state (c.code_of.ensures ∙ ap code_for c.rank_at.ensures.rank) c.loop-i.invariant
