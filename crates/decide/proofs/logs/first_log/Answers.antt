use Rattle.std.proofs.Common.{subst}
use Rattle.cert_value.specs.declared.types.FirstStep.{FirstStep}
use Rattle.reduce_loop.specs.declared.steps.Step.{Step}
use Rattle.decide.specs.Written.{IsFirstWritten}
use Rattle.decide.proofs.WrittenLemmas.{written_more}
use Rattle.decide.proofs.logs.first_log.Goals as goal

pub loop-step-preserved : goal.loop-step-preserved
loop-step-preserved c =
    written_more Step FirstStep IsFirstWritten c.args.log.now c.loop-step.step-index c.step-item.result c.loop-step.steps c.push.new.self c.in_ok-first_step.field-0 c.loop-step-test.true c.loop-step.invariant
    (subst (λ (s : Step). IsFirstWritten s c.in_ok-first_step.field-0) c.step-item.is c.in_ok-first_step.ensures) c.in_ok-push.ensures.ok
