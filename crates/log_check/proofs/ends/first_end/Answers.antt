use Rattle.std.proofs.Common.{◌+◌, Err, subst}
use Rattle.std.proofs.lemmas.Result.{err_from_is_err_and}
use Rattle.cert_value.specs.declared.types.FirstStep.{FirstStep}
use Rattle.log_check.specs.FirstLog.{first_rules}
use Rattle.log_check.specs.Follows.{StepFollows, TellsStep}
use Rattle.log_check.proofs.FollowLemmas.{follows_more, end_fails}
use Rattle.log_check.proofs.ends.first_end.Goals as goal

pub returns-in_err-end-2 : goal.returns-in_err-end-2
returns-in_err-end-2 c =
    let A = c.args.automaton.now in
    let rules = first_rules c.args.mode in
    let steps = c.args.steps.now in
    let p = err_from_is_err_and c.from_residual-in_err-end-2.result c.from_residual-in_err-end-2.ensures.1 in
    let told = end_fails FirstStep rules A c.loop-i.end c.args.item c.loop-i.i steps c.index-steps-i.result c.in_err-end-2.field-0.0 c.loop-i-test.true c.loop-i.invariant
    (subst (λ (s : FirstStep). TellsStep FirstStep rules c.loop-i.end (c.args.item + c.loop-i.i) s (Err c.in_err-end-2.field-0.0)) c.index-steps-i.is c.in_err-end-2.ensures) in
    rw (p.1, p.2) told

pub loop-i-preserved : goal.loop-i-preserved
loop-i-preserved c =
    let rules = first_rules c.args.mode in
    follows_more FirstStep rules c.args.automaton.now c.in_ok-end-2.end c.loop-i.end c.args.item c.loop-i.i c.args.steps.now c.index-steps-i.result c.loop-i-test.true c.loop-i.invariant
    (subst (λ (s : FirstStep). StepFollows FirstStep rules c.loop-i.end (c.args.item + c.loop-i.i) s c.in_ok-end-2.end) c.index-steps-i.is c.in_ok-end-2.ensures)
