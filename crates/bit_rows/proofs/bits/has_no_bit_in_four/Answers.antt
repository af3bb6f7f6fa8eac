use Rattle.std.proofs.Common.{◌+◌, get_or, bit_or}
use Rattle.std.proofs.lemmas.Bool.{eqb-true}
use Rattle.bit_rows.proofs.WordLemmas.{four_zero}
use Rattle.bit_rows.proofs.bits.has_no_bit_in_four.Goals as goal

pub returns : goal.returns
returns c = λ is k k_from k_in.
    let row = c.args.row.now in
    let at = c.args.at in
    four_zero row at (eqb-true (bit_or (bit_or (bit_or (get_or row at 0) (get_or row (at + 1) 0)) (get_or row (at + 2) 0)) (get_or row (at + 3) 0)) 0 is) k k_from k_in
