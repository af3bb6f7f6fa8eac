use Rattle.std.proofs.Common.{ℕ, ◌+◌, List, length, Err, subst}
use Rattle.std.proofs.lemmas.Result.{err_from_is_err_and}
use Rattle.cert_value.specs.declared.types.Element.{Element}
use Rattle.log_check.specs.Checks.{AllHold, Tells, checks_of_each}
use Rattle.cert_check.specs.Inclusion.{no_element, element_checks, cover_checks, step_checks}
use Rattle.auto_core.specs.Automaton.{IsAutomaton}
use Rattle.cert_check.specs.declared.elements.Supers.{Supers}
use Rattle.log_check.proofs.CheckLemmas.{each_of}
use Rattle.cert_check.proofs.SuperLemmas.{any_ok}
use Rattle.cert_check.proofs.InclusionLemmas.{fault_in_elements, fault_in_under, fault_in_cover, fault_in_steps, pairs_last}
use Rattle.cert_check.proofs.inclusion.check_inclusion.Goals as goal

pub returns-in_err-supers : goal.returns-in_err-supers
returns-in_err-supers c =
    let p = err_from_is_err_and c.from_residual-in_err-supers.result c.from_residual-in_err-supers.ensures.1 in
    let told = fault_in_elements c.args.mode c.args.item c.args.first.now c.args.second.now c.args.evidence.now Supers c.in_err-supers.field-0.0 c.in_ok-order.ensures.tells c.in_err-supers.ensures.tells in
    record { tells = rw (p.1, p.2) told; automaton = rw (p.1) tt }

pub check_under-requires-clause-names : goal.check_under-requires-clause-names
check_under-requires-clause-names c = λ e lt.
    (each_of (element_checks c.args.first.now c.args.evidence.now.elements (c.args.item + 1)) e c.args.evidence.now.elements no_element lt c.in_ok-supers.ensures.tells).0.1

pub check_under-requires-clause-order : goal.check_under-requires-clause-order
check_under-requires-clause-order c = c.in_ok-order.ensures.order c.in_ok-supers.supers.graphs.graphs.items

pub returns-in_err-check_under : goal.returns-in_err-check_under
returns-in_err-check_under c =
    let p = err_from_is_err_and c.from_residual-in_err-check_under.result c.from_residual-in_err-check_under.ensures.1 in
    let told = fault_in_under c.args.mode c.args.item c.args.first.now c.args.second.now c.args.evidence.now (Unit {0}) c.in_err-check_under.field-0.0 c.in_ok-order.ensures.tells c.in_ok-supers.ensures.tells c.in_err-check_under.ensures.tells in
    record { tells = rw (p.1, p.2) told; automaton = rw (p.1) tt }

pub returns-in_err-check_cover : goal.returns-in_err-check_cover
returns-in_err-check_cover c =
    let A = c.args.first.now in
    let B = c.args.second.now in
    let E = c.args.evidence.now in
    let n : ℕ = c.args.item in
    let p = err_from_is_err_and c.from_residual-in_err-check_cover.result c.from_residual-in_err-check_cover.ensures.1 in
    let cover = subst (λ (l : List Element). Tells {X = Unit {0}} (cover_checks c.args.mode A B E (n + 1 + length l)) (Err c.in_err-check_cover.field-0.0)) c.as_slice.ensures c.in_err-check_cover.ensures.tells in
    let told = fault_in_cover c.args.mode n A B E (Unit {0}) c.in_err-check_cover.field-0.0 c.in_ok-order.ensures.tells c.in_ok-supers.ensures.tells c.in_ok-check_under.ensures.tells cover in
    record { tells = rw (p.1, p.2) told; automaton = rw (p.1) tt }

pub returns-in_err-check_steps : goal.returns-in_err-check_steps
returns-in_err-check_steps c =
    let A = c.args.first.now in
    let B = c.args.second.now in
    let E = c.args.evidence.now in
    let n : ℕ = c.args.item in
    let p = err_from_is_err_and c.from_residual-in_err-check_steps.result c.from_residual-in_err-check_steps.ensures.1 in
    let cover = subst (λ (l : List Element). AllHold (cover_checks c.args.mode A B E (n + 1 + length l))) c.as_slice.ensures c.in_ok-check_cover.ensures.tells in
    let steps = subst (λ (l : List Element). Tells {X = Unit {0}} (checks_of_each (step_checks c.args.mode A B E (n + 2 + length l)) 0 E.steps) (Err c.in_err-check_steps.field-0.0)) c.as_slice.ensures c.in_err-check_steps.ensures.tells in
    let told = fault_in_steps c.args.mode n A B E (Unit {0}) c.in_err-check_steps.field-0.0 c.in_ok-order.ensures.tells c.in_ok-supers.ensures.tells c.in_ok-check_under.ensures.tells cover steps in
    record { tells = rw (p.1, p.2) told; automaton = rw (p.1) tt }

pub returns : goal.returns
returns c =
    let A = c.args.first.now in
    let B = c.args.second.now in
    let E = c.args.evidence.now in
    let n : ℕ = c.args.item in
    let cover = subst (λ (l : List Element). AllHold (cover_checks c.args.mode A B E (n + 1 + length l))) c.as_slice.ensures c.in_ok-check_cover.ensures.tells in
    let steps = subst (λ (l : List Element). AllHold (checks_of_each (step_checks c.args.mode A B E (n + 2 + length l)) 0 E.steps)) c.as_slice.ensures c.in_ok-check_steps.ensures.tells in
    record {
      tells = pairs_last c.args.mode n A B E c.check_passing.result c.in_ok-order.ensures.tells c.in_ok-supers.ensures.tells c.in_ok-check_under.ensures.tells cover steps c.check_passing.ensures;
      automaton = any_ok c.check_passing.result (IsAutomaton B) c.states-states.ensures.valid;
    }
