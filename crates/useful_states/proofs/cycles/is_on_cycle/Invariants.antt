use Rattle.std.proofs.Common.{◌≡◌, ℕ, ◌<◌, ◌≤◌}
use Rattle.auto_core.specs.Automaton.{trans_at}
use Rattle.strong_components.specs.Graph.{at}
use Rattle.useful_states.proofs.cycles.is_on_cycle.Given as goal

abbrev pub invariant-loop-t : goal.invariant-loop-t
invariant-loop-t l = (k : ℕ) → l.initial.t ≤ k → k < l.t → at l.numbers (trans_at l.automaton k).target ≡ at l.numbers l.state → ⊥
