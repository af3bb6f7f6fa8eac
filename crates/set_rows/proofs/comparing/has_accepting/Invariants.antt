use Rattle.std.proofs.Common.{ℕ, ◌<◌}
use Rattle.auto_core.specs.Automaton.{IsAccepting}
use Rattle.auto_core.specs.Rows.{HasBit}
use Rattle.set_rows.proofs.comparing.has_accepting.Given as goal

abbrev pub invariant-loop-state : goal.invariant-loop-state
invariant-loop-state l = (q : ℕ) → q < l.state → HasBit l.row q → IsAccepting l.automaton q → ⊥
