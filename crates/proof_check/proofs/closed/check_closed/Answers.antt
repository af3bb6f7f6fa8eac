use Rattle.std.proofs.Common.{arith}
use Rattle.auto_core.specs.declared.parts.Mode.TheVariants.{Buchi}
use Rattle.cert_check.proofs.ClosedLemmas.{lines_fit}
use Rattle.cert_check.proofs.PlaceLemmas.{origin_fits}
use Rattle.proof_check.proofs.EvidenceLemmas.{closed_parts}
use Rattle.proof_check.proofs.closed.check_closed.Goals as goal

pub check_inclusion-requires-clause-few : goal.check_inclusion-requires-clause-few
check_inclusion-requires-clause-few c = (closed_parts c.args.list.now c.requires.formed).few

pub check_inclusion-requires-clause-few_items : goal.check_inclusion-requires-clause-few_items
check_inclusion-requires-clause-few_items c =
    let k = c.args.list.now in
    let parts = closed_parts k c.requires.formed in
    omega (arith, parts.few, lines_fit 0 k.elements k.steps parts.steps, c.requires.low)

pub check_inclusion-requires-clause-few_steps : goal.check_inclusion-requires-clause-few_steps
check_inclusion-requires-clause-few_steps c =
    let k = c.args.list.now in
    let parts = closed_parts k c.requires.formed in
    omega (arith, parts.few, lines_fit 0 k.elements k.steps parts.steps)

pub check_inclusion-requires-clause-begun : goal.check_inclusion-requires-clause-begun
check_inclusion-requires-clause-begun c = λ k d lt. origin_fits Buchi c.args.list.now.elements k d (closed_parts c.args.list.now c.requires.formed).elements lt
