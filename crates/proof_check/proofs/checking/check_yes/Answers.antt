use Rattle.std.proofs.Common.{◌+◌, List, length, subst}
use Rattle.std.proofs.lemmas.Result.{err_from_is_err_and}
use Rattle.cert_value.specs.declared.types.FirstStep.{FirstStep}
use Rattle.cert_value.specs.declared.types.SecondStep.{SecondStep}
use Rattle.log_check.specs.declared.ends.Ends.{Ends}
use Rattle.log_check.specs.Checks.{Tells}
use Rattle.proof_front.specs.Stages.{checked}
use Rattle.proof_front.specs.Front.{evidence_item, both_become}
use Rattle.proof_front.proofs.StageLemmas.{told_ok, told_err, told_checks}
use Rattle.proof_check.specs.Rules.{evidence_checks}
use Rattle.proof_check.proofs.checking.check_yes.Goals as goal

pub returns-in_err-ends : goal.returns-in_err-ends
returns-in_err-ends c =
    let pair = c.args.pair.now in
    let front = c.args.front.now in
    let e = c.args.evidence.now in
    let p = err_from_is_err_and c.from_residual.result c.from_residual.ensures.1 in
    rw (p.1, p.2)
    (told_err (both_become pair.first pair.second front) (λ (ends : Ends). checked (evidence_checks ends.first ends.second (evidence_item front) e)) c.in_err-ends.field-0.0 c.in_err-ends.ensures)

pub returns : goal.returns
returns c =
    let pair = c.args.pair.now in
    let front = c.args.front.now in
    let e = c.args.evidence.now in
    let ends = c.in_ok-ends.ends in
    let r = c.check_evidence.result in
    let first = subst (λ (l : List FirstStep). Tells (evidence_checks ends.first ends.second (4 + (length c.as_slice.result.now + length l)) e) r) c.as_slice-2.ensures c.check_evidence.ensures in
    let told = subst (λ (l : List SecondStep). Tells (evidence_checks ends.first ends.second (4 + (length l + length front.first)) e) r) c.as_slice.ensures first in
    told_ok (both_become pair.first pair.second front) (λ (x : Ends). checked (evidence_checks x.first x.second (evidence_item front) e)) ends r c.in_ok-ends.ensures
    (told_checks (evidence_checks ends.first ends.second (evidence_item front) e) r told)
