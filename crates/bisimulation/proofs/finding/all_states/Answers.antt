use Rattle.std.proofs.Common.{ℕ, ◌<◌, List, inl, inr, Contains, arith, sym, subst}
use Rattle.std.proofs.lemmas.Bool.{cases_eq}
use Rattle.bisimulation.proofs.PutLemmas.{put_below, put_keeps, put_has}
use Rattle.bisimulation.proofs.finding.all_states.Goals as goal

pub loop-state-preserved : goal.loop-state-preserved
loop-state-preserved c =
    let old : List ℕ = c.loop-state.due.keys in
    let new : List ℕ = c.insert.new.self.keys in
    let state : ℕ = c.loop-state.state in
    let made = c.in_ok-insert.ensures.keys in
    let lt : state < c.args.automaton.now.states = omega (arith, c.loop-state-test.true, c.states-state-end.ensures.count) in (
      put_below c.args.automaton.now.states old new state made lt c.loop-state.invariant.0,
      λ p p_lt. elim (cases_eq p state) [
        | inl e ↦ subst (Contains new) (sym e) (put_has old new state made)
        | inr apart ↦ put_keeps old new state p made (c.loop-state.invariant.1 p (omega arith))
      ],
    )

pub returns-clause-below : goal.returns-clause-below
returns-clause-below c = c.loop-state.invariant.0

pub returns-clause-all : goal.returns-clause-all
returns-clause-all c = λ p p_in. c.loop-state.invariant.1 p (omega (arith, c.loop-state-test.false, c.states-state-end.ensures.count))
