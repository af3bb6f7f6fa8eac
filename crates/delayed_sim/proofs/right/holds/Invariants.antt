use Rattle.std.proofs.Common.{ℕ, ◌<◌}
use Rattle.delayed_sim.specs.Rankings.{triple_at}
use Rattle.delayed_sim.specs.Right.{IsTripleRight}
use Rattle.delayed_sim.proofs.right.holds.Given as goal

abbrev pub invariant-loop-at : goal.invariant-loop-at
invariant-loop-at l = (i : ℕ) → i < l.at → IsTripleRight l.automaton l.delayed.triples (triple_at l.delayed.triples i)
