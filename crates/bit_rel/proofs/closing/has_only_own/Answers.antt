use Rattle.std.proofs.Common.{◌≡◌, ℕ, ◌+◌, ◌*◌, ◌/◌, ◌%◌, ◌^◌, get_or}
use Rattle.std.proofs.lemmas.Bool.{eqb-true}
use Rattle.bit_rel.proofs.ClosingLemmas.{own_bit_alone}
use Rattle.bit_rel.proofs.closing.has_only_own.Goals as goal

pub returns : goal.returns
returns c = λ yes q same cell.
    let table = c.args.table.now in
    let w : ℕ = c.args.width in
    let at : ℕ = c.args.at in
    let is : get_or table (at * w + at / 64) 0 ≡ 1 * 2 ^ (at % 64) % 2 ^ 64 = eqb-true (get_or table (at * w + at / 64) 0) (1 * 2 ^ (at % 64) % 2 ^ 64) yes in
    own_bit_alone table w at q is same cell
