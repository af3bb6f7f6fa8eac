use Rattle.std.proofs.Common.{subst}
use Rattle.cert_value.specs.declared.types.SecondStep.{SecondStep}
use Rattle.reduce_loop.specs.declared.steps.Step.{Step}
use Rattle.decide.specs.Written.{IsSecondWritten}
use Rattle.decide.proofs.WrittenLemmas.{written_more}
use Rattle.decide.proofs.logs.second_log.Goals as goal

pub loop-step-preserved : goal.loop-step-preserved
loop-step-preserved c =
    written_more Step SecondStep IsSecondWritten c.args.log.now c.loop-step.step-index c.step-item.result c.loop-step.steps c.push.new.self c.in_ok-second_step.field-0 c.loop-step-test.true c.loop-step.invariant
    (subst (λ (s : Step). IsSecondWritten s c.in_ok-second_step.field-0) c.step-item.is c.in_ok-second_step.ensures) c.in_ok-push.ensures.ok
