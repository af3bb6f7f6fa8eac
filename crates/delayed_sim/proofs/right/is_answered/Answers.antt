use Rattle.std.proofs.Common.{ℕ, inl, inr, List, get_or, refl, sym, subst, arith}
use Rattle.std.proofs.lemmas.Bool.{cases_eq, iff_false, false≢true}
use Rattle.auto_core.proofs.MoveLemmas.{successor_moves, moves_in_successors}
use Rattle.auto_core.specs.Automaton.{trans, trans_at}
use Rattle.auto_core.specs.declared.parts.Trans.{Trans}
use Rattle.delayed_sim.specs.Right.{Suits}
use Rattle.delayed_sim.proofs.RightLemmas.{answer_by, answer_parts}
use Rattle.delayed_sim.proofs.right.is_answered.Goals as goal

pub loop-u-preserved : goal.loop-u-preserved
loop-u-preserved c = λ v from lt held.
    let A = c.args.automaton.now in
    let Here : ℕ → Type 0 = λ q'. Suits c.args.delayed.now.triples c.args.below c.args.ahead.now c.args.step.target q' in
    elim (cases_eq v c.loop-u.u) [
      | inl e ↦
          let here : Here (trans_at A c.loop-u.u).target = subst (λ x. Here (trans_at A x).target) e held in
          let Q : List Trans → Type 0 = λ ts. Here (get_or ts c.loop-u.u (trans 0 0 0)).target in
          iff_false c.suits.ensures c.if-suits.false (subst Q (sym c.transitions.ensures.list) here)
      | inr apart ↦ c.loop-u.invariant v from (omega arith) held
    ]

pub returns-then-suits : goal.returns-then-suits
returns-then-suits c =
    let A = c.args.automaton.now in
    let Here : ℕ → Type 0 = λ q'. Suits c.args.delayed.now.triples c.args.below c.args.ahead.now c.args.step.target q' in
    let Q : List Trans → Type 0 = λ ts. Here (get_or ts c.loop-u.u (trans 0 0 0)).target in
    let here : Here (trans_at A c.loop-u.u).target = subst Q c.transitions.ensures.list (c.suits.ensures.0 c.if-suits.true) in
    let move = successor_moves A c.args.q c.args.step.label c.successors-span.result.begin c.successors-span.result.end c.successors-span.ensures.range c.loop-u.u c.loop-u.auto.u c.loop-u-test.true in
    ((λ t. answer_by A c.args.delayed.now.triples c.args.below c.args.ahead.now c.args.q c.args.step.label c.args.step.target (trans_at A c.loop-u.u).target move here), λ answer. refl)

pub returns : goal.returns
returns c =
    let A = c.args.automaton.now in
    let Here : ℕ → Type 0 = λ q'. Suits c.args.delayed.now.triples c.args.below c.args.ahead.now c.args.step.target q' in (
      (λ t. absurd (false≢true t)),
      λ answered.
          let answer = answer_parts A c.args.delayed.now.triples c.args.below c.args.ahead.now c.args.q c.args.step.label c.args.step.target answered in
          let (t, from, below, is) = moves_in_successors A c.args.q c.args.step.label c.successors-span.result.begin c.successors-span.result.end c.successors-span.ensures.range answer.0 answer.1 in
          absurd (c.loop-u.invariant t from (omega (arith, below, c.loop-u-test.false)) (subst Here (sym is) answer.2)),
    )
