use Rattle.std.proofs.Common.{◌⊎◌, ◌↔◌, ℕ}
use Rattle.auto_core.specs.Rows.{HasBit}
use Rattle.set_rows.proofs.MoveLemmas.{IsTarget}
use Rattle.set_rows.proofs.moving.add_moves.Given as goal

abbrev pub invariant-loop-t : goal.invariant-loop-t
invariant-loop-t l = (q : ℕ) → HasBit l.out q ↔ (HasBit l.fn.out q ⊎ IsTarget l.automaton l.initial.t l.t q)
