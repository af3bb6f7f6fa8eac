use Rattle.std.proofs.Common.{◌≡◌, ◌<◌, ℕ}
use Rattle.auto_core.specs.Automaton.{is_accepting}
use Rattle.reduce_loop.proofs.copying.has_accepting.Given as goal

abbrev pub invariant-loop-state : goal.invariant-loop-state
invariant-loop-state l = (q : ℕ) → q < l.state → is_accepting l.one q ≡ is_accepting l.other q
