use Rattle.std.proofs.Common.{ℕ, ◌<◌}
use Rattle.auto_core.specs.Automaton.{IsAccepting}
use Rattle.proof_front.proofs.states.still_accept.Given as goal

abbrev pub invariant-loop-state : goal.invariant-loop-state
invariant-loop-state l = (q : ℕ) → q < l.state → IsAccepting l.automaton q → IsAccepting l.other q
