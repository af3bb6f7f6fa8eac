use Rattle.std.proofs.Common.{◌≡◌, ℕ, ◌*◌, ◌<◌, false, arith, rules}
use Rattle.std.proofs.lemmas.Nat.{row_fits}
use Rattle.auto_core.specs.Rows.{HasBit, bit_of}
use Rattle.auto_core.specs.Reach.{HasArc}
use Rattle.auto_core.proofs.Marking.{visit}
use Rattle.auto_core.proofs.ReachLemmas.{unset_falls, reached_all}
use Rattle.auto_core.proofs.reach.reach.Goals as goal

pub row_at-requires : goal.row_at-requires
row_at-requires c =
    let marked : HasBit c.loop-place.marks c.in-Some.place = search rules in
    omega (arith, row_fits c.in-Some.place c.args.width c.args.count c.args.width (c.loop-place.invariant.below c.in-Some.place marked) (omega arith), c.requires.table.len)

pub loop-place-smaller : goal.loop-place-smaller
loop-place-smaller c =
    let free : bit_of c.loop-place.done c.in-Some.place ≡ false = search rules in
    let near : c.in-Some.place < c.args.width * 64 = search rules in
    unset_falls c.loop-place.done c.set_bit.new.row (c.args.width * 64) c.in-Some.place near free c.set_bit.ensures.here c.set_bit.ensures.others

pub loop-place-preserved : goal.loop-place-preserved
loop-place-preserved c =
    let marked : HasBit c.loop-place.marks c.in-Some.place = search rules in
    visit c.args.table.now c.args.count c.args.width c.args.marks.now c.loop-place.marks c.loop-place.done c.loop-place.invariant c.requires.table
    c.in-Some.place c.row_at.result.now c.add_bits.new.into c.set_bit.new.row marked c.row_at.ensures.bits c.row_at.ensures.outside c.add_bits.ensures c.set_bit.ensures.others

pub returns-clause-reached : goal.returns-clause-reached
returns-clause-reached c =
    let all_done : (q : ℕ) → HasBit c.loop-place.marks q → HasBit c.loop-place.done q = search rules in
    reached_all (HasArc c.args.table.now c.args.count c.args.width) c.args.marks.now c.loop-place.marks c.loop-place.invariant.each c.loop-place.invariant.kept
    (λ p q h a. c.loop-place.invariant.visited p q (all_done p h) a)
