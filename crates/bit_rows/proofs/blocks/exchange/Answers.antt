use Rattle.std.proofs.Common.{ℕ, ◌+◌, ◌^◌, ◌<◌, slice_index}
use Rattle.bit_rows.proofs.SquareLemmas.{first_word, second_word, exchanged_first, exchanged_second}
use Rattle.bit_rows.proofs.blocks.exchange.Goals as goal

pub returns-clause-first : goal.returns-clause-first
returns-clause-first c =
    let old = c.args.block.now in
    let k : ℕ = c.args.k in
    let h : ℕ = c.args.h in
    exchanged_first old k h c.args.mask (second_word (slice_index old k) (slice_index old (k + h)) h c.args.mask)
    c.requires.len c.requires.size c.requires.mask c.requires.place c.requires.first

pub returns-clause-second : goal.returns-clause-second
returns-clause-second c =
    let old = c.args.block.now in
    let k : ℕ = c.args.k in
    let h : ℕ = c.args.h in
    let fits : c.args.mask < 2 ^ 64 = c.ranges.mask.fits in
    exchanged_second old k h c.args.mask (first_word (slice_index old k) (slice_index old (k + h)) h c.args.mask)
    c.requires.len c.requires.size c.requires.mask fits c.requires.place c.requires.first
