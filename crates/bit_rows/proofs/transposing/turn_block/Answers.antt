use Rattle.bit_rows.proofs.TransposedLemmas.{turned_others}
use Rattle.bit_rows.proofs.transposing.turn_block.Goals as goal

pub returns-clause-others : goal.returns-clause-others
returns-clause-others c = λ k r r_in apart.
    turned_others c.args.turned.now c.write_block.new.turned c.args.span c.args.i c.args.j k r r_in apart c.write_block.ensures.others
