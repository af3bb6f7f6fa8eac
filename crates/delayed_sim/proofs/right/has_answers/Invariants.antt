use Rattle.std.proofs.Common.{ℕ, ◌<◌, ◌≤◌}
use Rattle.auto_core.specs.Automaton.{trans_at}
use Rattle.delayed_sim.specs.Right.{IsAnsweredAhead}
use Rattle.delayed_sim.proofs.right.has_answers.Given as goal

abbrev pub invariant-loop-t : goal.invariant-loop-t
invariant-loop-t l = (v : ℕ) → l.initial.t ≤ v → v < l.t → IsAnsweredAhead l.automaton l.delayed.triples l.below l.ahead l.q (trans_at l.automaton v).label (trans_at l.automaton v).target
