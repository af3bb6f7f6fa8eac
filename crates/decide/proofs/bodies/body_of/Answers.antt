use Rattle.std.proofs.Common.{ℕ, List, sym, subst}
use Rattle.auto_core.specs.Automaton.{Automaton}
use Rattle.auto_core.specs.Outcome.{Closed, Apart, Limit, ComesOut}
use Rattle.auto_core.specs.declared.parts.Mode.{Mode}
use Rattle.ramsey_search.specs.declared.parts.Outcome.TheVariants as end
use Rattle.ramsey_search.specs.Ends.{IsOutcomeOf}
use Rattle.evidence.specs.Evidence.{IsEvidenceOf}
use Rattle.decide.specs.declared.terms.Terms.{Terms}
use Rattle.decide.specs.Searches.{rules_in}
use Rattle.decide.specs.Answer.{IsLassoOf, IsWordOf}
use Rattle.decide.specs.Bodies.{IsFoundBody, IsYesWith}
use Rattle.decide.proofs.MadeLemmas.{made_yes, made_lasso, made_word, made_list, of_each_body}
use Rattle.antichain.specs.declared.parts.WordOutcome.TheVariants as word_end
use Rattle.antichain.specs.Ends.{IsWordOutcomeOf}
use Rattle.decide.proofs.bodies.body_of.Goals as goal

pub returns-in-Closed : goal.returns-in-Closed
returns-in-Closed c =
    let A : Automaton = c.args.first.now in
    let B : Automaton = c.args.second.now in
    let S : List (ℕ × ℕ) = c.args.order.now.pairs in
    let terms : Terms = c.args.terms in
    let found : IsOutcomeOf A B S terms.limit (end.Closed c.in-Closed.closure) = subst (IsOutcomeOf A B S terms.limit) c.in-Closed.is c.in_ok-closure-in-Buchi.ensures.answer in
    let ends : ComesOut (rules_in terms.mode A B S) terms.limit (Closed found.0) = subst (λ (m : Mode). ComesOut (rules_in m A B S) terms.limit (Closed found.0)) (sym c.in-Buchi.is) found.1 in
    let closure : IsEvidenceOf (rules_in terms.mode A B S) found.0 c.in-Closed.closure = subst (λ (m : Mode). IsEvidenceOf (rules_in m A B S) found.0 c.in-Closed.closure) (sym c.in-Buchi.is) found.2 in
    of_each_body (IsYesWith c.args.logs S c.in-Closed.closure) (IsFoundBody A B c.args.logs terms S) c.yes_of.result
    (λ body is. made_yes A B c.args.logs terms S found.0 c.in-Closed.closure body ends closure is) c.yes_of.ensures

pub returns-in-Apart : goal.returns-in-Apart
returns-in-Apart c =
    let A : Automaton = c.args.first.now in
    let B : Automaton = c.args.second.now in
    let S : List (ℕ × ℕ) = c.args.order.now.pairs in
    let terms : Terms = c.args.terms in
    let found : IsOutcomeOf A B S terms.limit (end.Apart c.in-Apart.lasso) = subst (IsOutcomeOf A B S terms.limit) c.in-Apart.is c.in_ok-closure-in-Buchi.ensures.answer in
    let ends : ComesOut (rules_in terms.mode A B S) terms.limit (Apart found.0 found.1) = subst (λ (m : Mode). ComesOut (rules_in m A B S) terms.limit (Apart found.0 found.1)) (sym c.in-Buchi.is) found.2 in
    let is : IsLassoOf terms.mode found.0 found.1 c.in-Apart.lasso = subst (λ (m : Mode). IsLassoOf m found.0 found.1 c.in-Apart.lasso) (sym c.in-Buchi.is) (found.3, found.4) in
    made_lasso A B c.args.logs terms S found.0 found.1 c.in-Apart.lasso ends is

pub returns-in-Limit : goal.returns-in-Limit
returns-in-Limit c =
    let A : Automaton = c.args.first.now in
    let B : Automaton = c.args.second.now in
    let S : List (ℕ × ℕ) = c.args.order.now.pairs in
    let terms : Terms = c.args.terms in
    let found : IsOutcomeOf A B S terms.limit (end.Limit c.in-Limit.origins) = subst (IsOutcomeOf A B S terms.limit) c.in-Limit.is c.in_ok-closure-in-Buchi.ensures.answer in
    let ends : ComesOut (rules_in terms.mode A B S) terms.limit (Limit found.0) = subst (λ (m : Mode). ComesOut (rules_in m A B S) terms.limit (Limit found.0)) (sym c.in-Buchi.is) found.1 in
    made_list A B c.args.logs terms S found.0 c.in-Limit.origins c.list_of.result ends found.2 c.list_of.ensures

pub returns-in-Closed-2 : goal.returns-in-Closed-2
returns-in-Closed-2 c =
    let A : Automaton = c.args.first.now in
    let B : Automaton = c.args.second.now in
    let S : List (ℕ × ℕ) = c.args.order.now.pairs in
    let terms : Terms = c.args.terms in
    let found : IsWordOutcomeOf A B S terms.limit (word_end.Closed c.in-Closed-2.closure) = subst (IsWordOutcomeOf A B S terms.limit) c.in-Closed-2.is c.in_ok-closure-in-Finite.ensures.answer in
    let ends : ComesOut (rules_in terms.mode A B S) terms.limit (Closed found.0) = subst (λ (m : Mode). ComesOut (rules_in m A B S) terms.limit (Closed found.0)) (sym c.in-Finite.is) found.1 in
    let closure : IsEvidenceOf (rules_in terms.mode A B S) found.0 c.in-Closed-2.closure = subst (λ (m : Mode). IsEvidenceOf (rules_in m A B S) found.0 c.in-Closed-2.closure) (sym c.in-Finite.is) found.2 in
    of_each_body (IsYesWith c.args.logs S c.in-Closed-2.closure) (IsFoundBody A B c.args.logs terms S) c.yes_of-in-Closed-2.result
    (λ body is. made_yes A B c.args.logs terms S found.0 c.in-Closed-2.closure body ends closure is) c.yes_of-in-Closed-2.ensures

pub returns-in-Apart-2 : goal.returns-in-Apart-2
returns-in-Apart-2 c =
    let A : Automaton = c.args.first.now in
    let B : Automaton = c.args.second.now in
    let S : List (ℕ × ℕ) = c.args.order.now.pairs in
    let terms : Terms = c.args.terms in
    let found : IsWordOutcomeOf A B S terms.limit (word_end.Apart c.in-Apart-2.word) = subst (IsWordOutcomeOf A B S terms.limit) c.in-Apart-2.is c.in_ok-closure-in-Finite.ensures.answer in
    let ends : ComesOut (rules_in terms.mode A B S) terms.limit (Apart found.0 found.0) = subst (λ (m : Mode). ComesOut (rules_in m A B S) terms.limit (Apart found.0 found.0)) (sym c.in-Finite.is) found.1 in
    let is : IsWordOf terms.mode found.0 c.in-Apart-2.word = subst (λ (m : Mode). IsWordOf m found.0 c.in-Apart-2.word) (sym c.in-Finite.is) found.2 in
    made_word A B c.args.logs terms S found.0 found.0 c.in-Apart-2.word ends is

pub returns-in-Limit-2 : goal.returns-in-Limit-2
returns-in-Limit-2 c =
    let A : Automaton = c.args.first.now in
    let B : Automaton = c.args.second.now in
    let S : List (ℕ × ℕ) = c.args.order.now.pairs in
    let terms : Terms = c.args.terms in
    let found : IsWordOutcomeOf A B S terms.limit (word_end.Limit c.in-Limit-2.origins) = subst (IsWordOutcomeOf A B S terms.limit) c.in-Limit-2.is c.in_ok-closure-in-Finite.ensures.answer in
    let ends : ComesOut (rules_in terms.mode A B S) terms.limit (Limit found.0) = subst (λ (m : Mode). ComesOut (rules_in m A B S) terms.limit (Limit found.0)) (sym c.in-Finite.is) found.1 in
    made_list A B c.args.logs terms S found.0 c.in-Limit-2.origins c.list_of-in-Limit-2.result ends found.2 c.list_of-in-Limit-2.ensures
