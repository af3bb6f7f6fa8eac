use Rattle.std.proofs.Common.{ℕ, ◌/◌, map, refl, arith, bit_and, bit_or, w64}
use Rattle.std.specs.Int.{bit_not}
use Rattle.std.specs.Simd.Lanes.{chunk, fold_l, zip2}
use Rattle.std.proofs.lemmas.Bool.{eqb-true}
use Rattle.std.proofs.Math.Facts.{Fits-lt-pow}
use Rattle.auto_core.proofs.BitLemmas.{word_within}
use Rattle.bit_rows.proofs.LaneLemmas.{none_lacking}
use Rattle.bit_rows.proofs.within.are_four_within.Goals as goal

pub returns : goal.returns
returns c = λ is i i_from i_to.
    let at : ℕ = c.args.at in
    let row = c.args.row.now in
    let other = c.args.other.now in
    let none = eqb-true (fold_l bit_or 0 (zip2 bit_and (chunk at 4 row) (map (bit_not w64) (chunk at 4 other)))) 0 is in
    word_within row other (i / 64) (Fits-lt-pow (c.type_inv.row (i / 64))) (Fits-lt-pow (c.type_inv.other (i / 64)))
    (none_lacking at row other c.requires.row c.requires.other none (i / 64) (omega arith) (omega arith)) i refl
