use Rattle.std.proofs.Common.{rules}
use Rattle.std.proofs.lemmas.Slice.Eq.{slice_eq-Decides}
use Rattle.reduce_loop.proofs.CopyLemmas.{equal_decides}
use Rattle.reduce_loop.proofs.copying.has_moves.Goals as goal

pub returns : goal.returns
returns c = slice_eq-Decides equal_decides c.args.one.now c.args.other.now c.eq.result (search rules)
