use Rattle.std.proofs.Common.{subst, arith}
use Rattle.log_check.specs.Checks.{Tells}
use Rattle.cert_check.specs.Inclusion.{inclusion_checks}
use Rattle.cert_check.proofs.ClosedLemmas.{yes_parts, log_parts, lines_fit}
use Rattle.cert_check.proofs.PlaceLemmas.{origin_fits}
use Rattle.cert_check.proofs.InclusionLemmas.{after_logs}
use Rattle.cert_check.proofs.checking.check_yes.Goals as goal

pub ends_of-requires : goal.ends_of-requires
ends_of-requires c = record { formed = (c.requires.formed.0, (yes_parts c.requires.formed.0 c.args.mode c.args.evidence.now c.requires.formed.1).logs) }

pub next_item-item-requires : goal.next_item-item-requires
next_item-item-requires c = record { formed = (c.requires.formed.0, (yes_parts c.requires.formed.0 c.args.mode c.args.evidence.now c.requires.formed.1).logs) }

pub check_inclusion-requires-clause-few_items : goal.check_inclusion-requires-clause-few_items
check_inclusion-requires-clause-few_items c =
    let E = c.args.evidence.now in
    let p = yes_parts c.requires.formed.0 c.args.mode E c.requires.formed.1 in
    let logs = log_parts c.requires.formed.0 c.args.mode E.first E.second p.logs in
    let fit = lines_fit 0 E.elements E.steps p.lined in
    omega (arith, p.few, fit, logs.few_first, logs.few_second, c.next_item-item.ensures)

pub check_inclusion-requires-clause-few_steps : goal.check_inclusion-requires-clause-few_steps
check_inclusion-requires-clause-few_steps c =
    let E = c.args.evidence.now in
    let p = yes_parts c.requires.formed.0 c.args.mode E c.requires.formed.1 in
    let fit = lines_fit 0 E.elements E.steps p.lined in
    omega (arith, p.few, fit)

pub check_inclusion-requires-clause-begun : goal.check_inclusion-requires-clause-begun
check_inclusion-requires-clause-begun c = λ k d lt.
    let E = c.args.evidence.now in
    let p = yes_parts c.requires.formed.0 c.args.mode E c.requires.formed.1 in
    origin_fits c.args.mode E.elements k d p.elements lt

pub returns : goal.returns
returns c =
    let E = c.args.evidence.now in
    let ends = c.in_ok-ends.ends in
    after_logs c.args.mode c.args.pair.now E.first E.second (inclusion_checks c.args.mode E) ends c.check_inclusion.result c.in_ok-ends.ensures
    (subst (λ n. Tells (inclusion_checks c.args.mode E n ends.first ends.second) c.check_inclusion.result) c.next_item-item.ensures c.check_inclusion.ensures.tells)
