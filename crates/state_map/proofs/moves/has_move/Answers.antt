use Rattle.std.proofs.Common.{ℕ, subst}
use Rattle.auto_core.specs.Automaton.{Moves}
use Rattle.auto_core.proofs.MoveLemmas.{successor_moves, moves_in_successors}
use Rattle.state_map.proofs.MapLemmas.{rising}
use Rattle.state_map.proofs.moves.has_move.Goals as goal

pub has_target-requires-clause-rising : goal.has_target-requires-clause-rising
has_target-requires-clause-rising c =
    rising c.args.automaton.now c.successors-span.ensures.valid c.args.step.source c.args.step.label c.successors-span.result.begin c.successors-span.result.end c.successors-span.ensures.range

pub returns : goal.returns
returns c =
    let A = c.args.automaton.now in
    let p : ℕ = c.args.step.source in
    let a : ℕ = c.args.step.label in
    let q : ℕ = c.args.step.target in
    let b : ℕ = c.successors-span.result.begin in
    let e : ℕ = c.successors-span.result.end in
    let s = c.successors-span.ensures.range in (
      λ is.
          let (t, from, below, at) = c.has_target.ensures.0 is in
          subst (λ x. Moves A p a x) at (successor_moves A p a b e s t from below),
      λ m. c.has_target.ensures.1 (moves_in_successors A p a b e s q m),
    )
