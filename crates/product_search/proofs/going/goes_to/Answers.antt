use Rattle.std.proofs.Common.{inl, inr, sym, subst, get_or, le_refl, arith}
use Rattle.auto_core.specs.Automaton.{Moves, trans}
use Rattle.auto_core.proofs.MoveLemmas.{successor_moves, moves_in_successors, move_in_range}
use Rattle.product_search.proofs.going.goes_to.Goals as goal

pub returns-then-state-states-clause-goes : goal.returns-then-state-states-clause-goes
returns-then-state-states-clause-goes c = inr (omega (arith, c.if-state-states.true), λ t move. let lt = (move_in_range c.args.second.now c.states.ensures.valid c.args.state c.args.letter t move).0 in absurd (omega (arith, lt, c.if-state-states.true)))

pub returns-then-span-clause-goes : goal.returns-then-span-clause-goes
returns-then-span-clause-goes c = inr (
  c.states-then-span.ensures.count,
  λ t move.
      let (k, from, below, is) = moves_in_successors c.args.second.now c.args.state c.args.letter c.successors-span.result.begin c.successors-span.result.end c.successors-span.ensures.range t move in
      absurd (omega (arith, from, below, c.if-span.true)),
)

pub returns-clause-goes : goal.returns-clause-goes
returns-clause-goes c =
    let A = c.args.second.now in
    let span = c.successors-span.result in
    let range = c.successors-span.ensures.range in
    let rising = range.is_range in
    inl (subst (λ ts. Moves A c.args.state c.args.letter (get_or ts span.begin (trans 0 0 0)).target) (sym c.transitions.ensures.list)
    (successor_moves A c.args.state c.args.letter span.begin span.end range span.begin (le_refl span.begin) (omega (arith, c.if-span.false))))
