use Rattle.std.proofs.Common.{◌≡◌, List, ℕ, sym, ap, ◌∙◌, subst}
use Rattle.cert_value.specs.declared.types.FirstStep.{FirstStep}
use Rattle.cert_value.specs.declared.types.FirstStep.TheVariants.{Merge, Cut}
use Rattle.cert_value.specs.declared.types.GoneBy.{GoneBy}
use Rattle.cert_value.specs.declared.types.RelBlock.{RelBlock}
use Rattle.log_check.specs.FirstLog.{first_rules}
use Rattle.log_check.specs.Follows.{TellsStep}
use Rattle.log_check.proofs.first.first_step.Goals as goal

pub returns-in-Merge : goal.returns-in-Merge
returns-in-Merge c =
    let is : ◌≡◌ {A = FirstStep} (Merge c.as_slice-in-Merge.result.now) c.args.step.now = ap (λ (l : List ℕ). Merge l) c.as_slice-in-Merge.ensures ∙ sym c.in-Merge.is in
    subst (λ (s : FirstStep). TellsStep FirstStep (first_rules c.args.mode) c.args.automaton.now c.args.item s c.merge_by.result) is (c.merge_by.ensures c.args.mode)

pub returns-in-Cut : goal.returns-in-Cut
returns-in-Cut c =
    let pair = c.in-Cut.pair in
    let look = c.in-Cut.look in
    let is : ◌≡◌ {A = FirstStep} (Cut pair look c.as_slice-in-Cut.result.now c.as_slice-in-Cut-2.result.now) c.args.step.now =
    ap (λ (l : List GoneBy). Cut pair look l c.as_slice-in-Cut-2.result.now) c.as_slice-in-Cut.ensures
    ∙ ap (λ (l : List RelBlock). Cut pair look c.in-Cut.gone l) c.as_slice-in-Cut-2.ensures ∙ sym c.in-Cut.is in
    subst (λ (s : FirstStep). TellsStep FirstStep (first_rules c.args.mode) c.args.automaton.now c.args.item s c.cut_by.result) is (c.cut_by.ensures c.args.mode)
