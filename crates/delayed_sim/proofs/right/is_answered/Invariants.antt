use Rattle.std.proofs.Common.{ℕ, ◌<◌, ◌≤◌}
use Rattle.auto_core.specs.Automaton.{trans_at}
use Rattle.delayed_sim.specs.Right.{Suits}
use Rattle.delayed_sim.proofs.right.is_answered.Given as goal

abbrev pub invariant-loop-u : goal.invariant-loop-u
invariant-loop-u l = (v : ℕ) → l.initial.u ≤ v → v < l.u → Suits l.delayed.triples l.below l.ahead l.step.target (trans_at l.automaton v).target → ⊥
