use Rattle.std.proofs.Common.{◌≡◌, ◌<◌, ℕ, List, length, get_or, slice_set, refl, arith}
use Rattle.bisimulation.proofs.SignatureLemmas.{signed_more}
use Rattle.bisimulation.proofs.signing.sign_all.Goals as goal

pub loop-i-preserved : goal.loop-i-preserved
loop-i-preserved c =
    let states : List ℕ = c.args.states.now in
    let i : ℕ = c.loop-i.i in
    let signs : List ℕ = c.loop-i.signs.items in
    let number : ℕ = c.in_ok-number.number in
    let lt : i < length states = omega (arith, c.loop-i-test.true) in
    let size : length signs ≡ length c.args.signs.now.items = c.loop-i.invariant.size in
    let in_range : get_or states i 0 < c.args.automaton.now.states = c.requires.states i 0 lt in
    signed_more c.args.automaton.now c.args.of.now c.args.table.now.keys c.loop-i.table.keys c.number_of.new.table.keys states c.args.signs.now.items signs (slice_set signs (get_or states i 0) number) i number
    c.in_ok-signature.signature.items c.loop-i.invariant lt (omega (arith, c.requires.signs))
    c.in_ok-number.ensures.keeps c.in_ok-number.ensures.different c.in_ok-number.ensures.number.0 c.in_ok-number.ensures.number.1 c.in_ok-signature.ensures refl
