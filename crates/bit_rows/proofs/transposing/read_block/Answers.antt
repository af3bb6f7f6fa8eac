use Rattle.std.proofs.Common.{arith}
use Rattle.bit_rows.proofs.TransposedLemmas.{read_none, read_more}
use Rattle.bit_rows.proofs.transposing.read_block.Goals as goal

pub loop-k-init : goal.loop-k-init
loop-k-init c = read_none c.args.table.now c.args.width c.args.rows c.args.first c.args.word c.args.block.now c.requires.block

pub loop-k-preserved : goal.loop-k-preserved
loop-k-preserved c =
    read_more c.args.table.now c.args.width c.args.rows c.args.first c.args.word c.loop-k.block c.loop-k.k c.word_at.result
    c.loop-k-test.true c.loop-k.invariant c.word_at.ensures.inside c.word_at.ensures.past

pub returns-clause-len : goal.returns-clause-len
returns-clause-len c = c.loop-k.invariant.len

pub returns-clause-inside : goal.returns-clause-inside
returns-clause-inside c = λ k near. c.loop-k.invariant.inside k (omega (arith, c.loop-k-test.false))

pub returns-clause-past : goal.returns-clause-past
returns-clause-past c = λ k near. c.loop-k.invariant.past k (omega (arith, c.loop-k-test.false))
