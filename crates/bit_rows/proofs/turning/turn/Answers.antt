use Rattle.std.proofs.Common.{rules}
use Rattle.bit_rows.proofs.LoopLemmas.{turned_all}
use Rattle.bit_rows.proofs.turning.turn.Goals as goal

pub returns : goal.returns
returns c = turned_all c.args.table.now c.transpose.new.turned c.args.count c.args.width c.requires.table (search rules) c.transpose.ensures
