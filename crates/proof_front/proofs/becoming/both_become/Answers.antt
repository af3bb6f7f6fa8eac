use Rattle.std.proofs.Common.{◌≡◌, ℕ, ◌+◌, true, List, length, Err, refl, sym, ◌∙◌, subst}
use Rattle.std.specs.List.{list_all}
use Rattle.std.proofs.lemmas.Result.{err_from_is_err_and}
use Rattle.auto_core.specs.declared.parts.Mode.TheVariants.{Buchi}
use Rattle.cert_value.specs.declared.types.SecondStep.{SecondStep}
use Rattle.cert_value.specs.WellFormed.{is_second_step}
use Rattle.log_check.specs.declared.ends.Ends.{Ends}
use Rattle.log_check.proofs.LawLemmas.{second_log_shrinks}
use Rattle.proof_front.specs.Stages.{TellsStage}
use Rattle.proof_front.specs.Front.{letters_item, second_log, over_letters}
use Rattle.proof_front.proofs.StageLemmas.{letters_fail, becoming_fails}
use Rattle.proof_front.proofs.TruthLemmas.{front_parts}
use Rattle.proof_front.proofs.becoming.both_become.Goals as goal

pub second_end-requires-clause-formed : goal.second_end-requires-clause-formed
second_end-requires-clause-formed c =
    (2, Buchi, subst (λ (l : List SecondStep). list_all (is_second_step 2 Buchi) l ≡ true) (sym c.as_slice-steps.ensures) (front_parts c.args.front.now c.requires.formed).second_steps)

pub over_letters-requires : goal.over_letters-requires
over_letters-requires c =
    let B = c.args.second.now in
    let C = c.in_ok-reduced.reduced in
    let front = c.args.front.now in
    let log = subst (λ (l : List SecondStep). (second_log B 1 l).Keeps C) c.as_slice-steps.ensures c.in_ok-reduced.ensures in
    let shrinks = second_log_shrinks 2 Buchi B C 1 front.second c.states-states.ensures.valid (front_parts front c.requires.formed).second_steps log in
    c.requires.labels ∙ sym shrinks.1.labels

pub returns-in_err-over : goal.returns-in_err-over
returns-in_err-over c =
    let A = c.args.first.now in
    let B = c.args.second.now in
    let C = c.in_ok-reduced.reduced in
    let front = c.args.front.now in
    let e = c.in_err-over.field-0.0 in
    let p = err_from_is_err_and c.from_residual-in_err-over.result c.from_residual-in_err-over.ensures.1 in
    let log = subst (λ (l : List SecondStep). (second_log B 1 l).Keeps C) c.as_slice-steps.ensures c.in_ok-reduced.ensures in
    let counted = subst (λ (l : List SecondStep). TellsStage {X = Ends} (over_letters A C c.as_slice.result.now (1 + length l)) (Err e)) c.as_slice-steps.ensures c.in_err-over.ensures in
    let told = subst (λ (l : List ℕ). TellsStage {X = Ends} (over_letters A C l (letters_item front)) (Err e)) c.as_slice.ensures counted in
    rw (p.1, p.2) (letters_fail A B C front log e told)

pub returns-in_err-first : goal.returns-in_err-first
returns-in_err-first c =
    let A = c.args.first.now in
    let B = c.args.second.now in
    let C = c.in_ok-reduced.reduced in
    let front = c.args.front.now in
    let over = c.in_ok-over.over in
    let p = err_from_is_err_and c.from_residual-in_err-first.result c.from_residual-in_err-first.ensures.1 in
    let log = subst (λ (l : List SecondStep). (second_log B 1 l).Keeps C) c.as_slice-steps.ensures c.in_ok-reduced.ensures in
    let letters = subst (λ (l : List ℕ). (over_letters A C l (letters_item front)).Keeps over) c.as_slice.ensures c.in_ok-over.ensures in
    rw (p.1, p.2) (becoming_fails A B C front log over c.in_err-first.field-0.0 letters c.in_err-first.ensures)

pub returns : goal.returns
returns c =
    let A = c.args.first.now in
    let B = c.args.second.now in
    let C = c.in_ok-reduced.reduced in
    let front = c.args.front.now in
    let over = c.in_ok-over.over in
    let log = subst (λ (l : List SecondStep). (second_log B 1 l).Keeps C) c.as_slice-steps.ensures c.in_ok-reduced.ensures in
    let letters = subst (λ (l : List ℕ). (over_letters A C l (letters_item front)).Keeps over) c.as_slice.ensures c.in_ok-over.ensures in
    (C, log, (over, letters, (c.in_ok-first.ensures, refl)))
