use Rattle.std.proofs.Common.{ℕ, ◌+◌, List, length, Err, subst}
use Rattle.std.proofs.lemmas.Result.{err_from_is_err_and}
use Rattle.auto_core.specs.Automaton.{Automaton}
use Rattle.auto_core.specs.declared.parts.Mode.TheVariants.{Buchi}
use Rattle.cert_value.specs.declared.types.FirstStep.{FirstStep}
use Rattle.cert_value.specs.declared.types.SecondStep.{SecondStep}
use Rattle.log_check.specs.FirstLog.{first_rules}
use Rattle.log_check.specs.Follows.{TellsLog}
use Rattle.proof_front.specs.Stages.{TellsStage}
use Rattle.proof_front.specs.Front.{map_item, accepting_item, mapped, accepting_classes}
use Rattle.proof_front.proofs.StageLemmas.{accepting_fails, log_last}
use Rattle.proof_front.proofs.becoming.first_becomes.Goals as goal

pub returns-in_err-trimmed : goal.returns-in_err-trimmed
returns-in_err-trimmed c =
    let A = c.args.automaton.now in
    let front = c.args.front.now in
    let Q = c.in_ok-merged.merged in
    let e = c.in_err-trimmed.field-0.0 in
    let p = err_from_is_err_and c.from_residual-in_err-trimmed.result c.from_residual-in_err-trimmed.ensures.1 in
    let merged = subst (λ (l : List ℕ). (mapped A l (map_item front)).Keeps Q) c.as_slice-2.ensures c.in_ok-merged.ensures in
    let counted = subst (λ (l : List SecondStep). TellsStage {X = Automaton} (accepting_classes Q c.as_slice-3.result.now (3 + length l)) (Err e)) c.as_slice.ensures c.in_err-trimmed.ensures in
    let told = subst (λ (l : List ℕ). TellsStage {X = Automaton} (accepting_classes Q l (accepting_item front)) (Err e)) c.as_slice-3.ensures counted in
    rw (p.1, p.2) (accepting_fails A Q front merged e told)

pub returns : goal.returns
returns c =
    let A = c.args.automaton.now in
    let front = c.args.front.now in
    let Q = c.in_ok-merged.merged in
    let C = c.in_ok-trimmed.trimmed in
    let r = c.first_end.result in
    let merged = subst (λ (l : List ℕ). (mapped A l (map_item front)).Keeps Q) c.as_slice-2.ensures c.in_ok-merged.ensures in
    let accepts = subst (λ (l : List ℕ). (accepting_classes Q l (accepting_item front)).Keeps C) c.as_slice-3.ensures c.in_ok-trimmed.ensures in
    let counted = subst (λ (l : List SecondStep). TellsLog FirstStep (first_rules Buchi) C (4 + length l) c.as_slice-4.result.now r) c.as_slice.ensures c.first_end.ensures in
    let told = subst (λ (l : List FirstStep). TellsLog FirstStep (first_rules Buchi) C (4 + length front.second) l r) c.as_slice-4.ensures counted in
    log_last A Q front merged C r accepts told
