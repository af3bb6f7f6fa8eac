use Rattle.std.proofs.Common.{ℕ, inl, inr, List, get_or, sym, subst, arith}
use Rattle.std.proofs.lemmas.Bool.{cases_eq}
use Rattle.auto_core.proofs.MoveLemmas.{moves_in_successors}
use Rattle.auto_core.specs.Automaton.{trans, trans_at}
use Rattle.auto_core.specs.declared.parts.Trans.{Trans}
use Rattle.delayed_laws.specs.Listed.{place_pairs}
use Rattle.delayed_across.specs.Answered.{HoldsBelow}
use Rattle.delayed_across.specs.Listed.{IsNumberOf}
use Rattle.delayed_across.proofs.AnswerLemmas.{first_is_least, answer_by}
use Rattle.delayed_across.proofs.LookupLemmas.{number_holds_below}
use Rattle.delayed_across.proofs.answers.first_answer.Goals as goal

pub loop-u-preserved : goal.loop-u-preserved
loop-u-preserved c = λ v from lt held.
    let B = c.args.second.now in
    let Here : ℕ → Type 0 = λ q'. HoldsBelow (place_pairs c.args.pairs.now) c.args.bound c.args.step.target q' in
    elim (cases_eq v c.loop-u.u) [
      | inl e ↦
          let here : Here (trans_at B c.loop-u.u).target = subst (λ x. Here (trans_at B x).target) e held in
          let Q : List Trans → Type 0 = λ ts. Here (get_or ts c.loop-u.u (trans 0 0 0)).target in
          c.in-None.ensures.none (subst Q (sym c.transitions.ensures.list) here)
      | inr apart ↦ c.loop-u.invariant v from (omega arith) held
    ]

pub returns-in-Some-clause-some : goal.returns-in-Some-clause-some
returns-in-Some-clause-some c =
    let B = c.args.second.now in
    let pairs = c.args.pairs.now in
    let u : ℕ = c.loop-u.u in
    let at : ℕ = c.in-Some.at in
    let Q : List Trans → Type 0 = λ ts. IsNumberOf pairs c.args.step.target (get_or ts u (trans 0 0 0)).target at in
    let is : IsNumberOf pairs c.args.step.target (trans_at B u).target at = subst Q c.transitions.ensures.list c.in-Some.ensures.some.0 in
    let held = number_holds_below pairs at c.args.step.target (trans_at B u).target c.args.bound is c.in-Some.ensures.some.1 in
    let span = c.successors-span.result in
    let first = first_is_least B c.successors-span.ensures.valid c.args.right c.args.step.label span.begin span.end c.successors-span.ensures.range (place_pairs pairs) c.args.bound c.args.step.target u c.loop-u.auto.u c.loop-u-test.true held c.loop-u.invariant in
    answer_by B pairs c.args.bound c.args.right c.args.step.label c.args.step.target (trans_at B u).target at is first

pub returns-clause-none : goal.returns-clause-none
returns-clause-none c = λ answer.
    let B = c.args.second.now in
    let Here : ℕ → Type 0 = λ q'. HoldsBelow (place_pairs c.args.pairs.now) c.args.bound c.args.step.target q' in
    let (t, from, below, is) = moves_in_successors B c.args.right c.args.step.label c.successors-span.result.begin c.successors-span.result.end c.successors-span.ensures.range answer.0 answer.1 in
    c.loop-u.invariant t from (omega (arith, below, c.loop-u-test.false)) (subst Here (sym is) answer.2)
