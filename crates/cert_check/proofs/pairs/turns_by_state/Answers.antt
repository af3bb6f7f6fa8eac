use Rattle.std.proofs.Common.{◌≡◌, length, ap, subst, arith}
use Rattle.cert_check.specs.Turns.{AreTurns}
use Rattle.cert_check.proofs.pairs.turns_by_state.Goals as goal

pub returns : goal.returns
returns c =
    let past = c.loop-e-test.false in
    let end = c.loop-e.auto.e-end in
    let few = c.requires.few in
    let size = ap length c.as_slice.ensures in
    let all : c.loop-e.e ≡ length c.args.evidence.now.elements = omega arith in
    subst (λ n. AreTurns c.args.evidence.now c.args.supers.now n c.args.first.now.states c.loop-e.turns.items) all c.loop-e.invariant.0
