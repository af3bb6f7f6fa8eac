use Rattle.std.proofs.Common.{ℕ, ◌+◌, ◌<◌, get_or}
use Rattle.auto_core.specs.Automaton.{IsBefore, trans}
use Rattle.auto_core.proofs.tables.is_ascending.Given as goal

abbrev pub invariant-loop-i : goal.invariant-loop-i
invariant-loop-i l = (k : ℕ) → k + 1 < l.i → IsBefore (get_or l.transitions k (trans 0 0 0)) (get_or l.transitions (k + 1) (trans 0 0 0))
