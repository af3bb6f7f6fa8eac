use Rattle.std.proofs.Common.{ℕ, ◌+◌, List, MatchOption, slice_index_or, subst}
use Rattle.std.specs.Prelude.{Option}
use Rattle.cert_value.specs.declared.types.YesBody.{YesBody}
use Rattle.cert_value.specs.declared.types.StepLine.{StepLine}
use Rattle.log_check.specs.Checks.{RuleCheck, AllHold, FirstBroken}
use Rattle.cert_check.specs.Inclusion.{step_checks}
use Rattle.log_check.proofs.CheckLemmas.{more_of, broken_of}
use Rattle.cert_check.proofs.steps.check_steps.Goals as goal

pub returns-in-Some-clause-tells : goal.returns-in-Some-clause-tells
returns-in-Some-clause-tells c =
    let E : YesBody = c.args.evidence.now in
    let k : ℕ = c.loop-k.k in
    let checks : ℕ → StepLine → List RuleCheck = step_checks c.args.mode c.args.first.now c.args.second.now E c.args.item in
    let line : StepLine = c.index-lines-k.result in
    let told : FirstBroken (checks k line) (record { rule = c.in-Some.rule; item = c.args.item + k }) =
    subst (λ (r : Option ℕ). MatchOption r (AllHold (checks k line)) (λ rule. FirstBroken (checks k line) (record { rule = rule; item = c.args.item + k })))
    c.in-Some.is (c.in_ok-broken.ensures.told c.args.item k) in
    let broken : FirstBroken (checks k (slice_index_or c.as_slice-lines.result.now k line)) (record { rule = c.in-Some.rule; item = c.args.item + k }) =
    subst (λ (s : StepLine). FirstBroken (checks k s) (record { rule = c.in-Some.rule; item = c.args.item + k })) c.index-lines-k.is told in
    broken_of checks k E.steps c.as_slice-lines.result.now line (record { rule = c.in-Some.rule; item = c.args.item + k }) c.as_slice-lines.ensures c.loop-k-test.true c.loop-k.invariant.0 broken

pub loop-k-preserved : goal.loop-k-preserved
loop-k-preserved c =
    let E : YesBody = c.args.evidence.now in
    let k : ℕ = c.loop-k.k in
    let checks : ℕ → StepLine → List RuleCheck = step_checks c.args.mode c.args.first.now c.args.second.now E c.args.item in
    let line : StepLine = c.index-lines-k.result in
    let told : AllHold (checks k line) =
    subst (λ (r : Option ℕ). MatchOption r (AllHold (checks k line)) (λ rule. FirstBroken (checks k line) (record { rule = rule; item = c.args.item + k })))
    c.in-None.is (c.in_ok-broken.ensures.told c.args.item k) in (
      more_of checks k E.steps c.as_slice-lines.result.now line c.as_slice-lines.ensures c.loop-k-test.true c.loop-k.invariant.0 (subst (λ (s : StepLine). AllHold (checks k s)) c.index-lines-k.is told),
      c.in_ok-broken.ensures.supers,
      c.in_ok-broken.ensures.order,
    )
