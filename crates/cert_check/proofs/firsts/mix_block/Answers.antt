use Rattle.std.proofs.Common.{◌∙◌, rules}
use Rattle.cert_check.proofs.FirstLemmas.{four_more}
use Rattle.cert_check.proofs.firsts.mix_block.Goals as goal

pub loop-at-preserved : goal.loop-at-preserved
loop-at-preserved c = record {
  within = search rules;
  is =
      four_more c.loop-at.now c.mix.result c.mix-in-loop-at.result c.mix-in-loop-at-2.result c.mix-four.result c.mix-now.result c.args.block.now c.loop-at.at (search rules) c.mix.ensures
      c.mix-in-loop-at.ensures c.mix-in-loop-at-2.ensures c.mix-four.ensures c.mix-now.ensures
      ∙ c.loop-at.invariant.is;
}
