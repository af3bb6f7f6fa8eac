use Rattle.std.proofs.Common.{ℕ, bit_or}
use Rattle.std.specs.Int.Bits.{bit_xor}
use Rattle.std.specs.Simd.Lanes.{chunk, fold_l, zip2}
use Rattle.std.proofs.lemmas.Bool.{eqb-true}
use Rattle.bit_rows.proofs.EqualLemmas.{lanes_equal}
use Rattle.bit_rows.proofs.equal.are_four_equal.Goals as goal

pub returns : goal.returns
returns c = λ is.
    let at : ℕ = c.args.at in
    let row = c.args.row.now in
    let other = c.args.other.now in
    lanes_equal at row other c.requires.row c.requires.other (eqb-true (fold_l bit_or 0 (zip2 bit_xor (chunk at 4 row) (chunk at 4 other))) 0 is)
