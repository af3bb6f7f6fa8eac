use Rattle.std.proofs.Common.{◌↔◌, ℕ}
use Rattle.auto_core.specs.Automaton.{Moves}
use Rattle.auto_core.specs.Rows.{HasBit}
use Rattle.set_rows.proofs.SetLemmas.{Through}
use Rattle.set_rows.specs.Sets.{IsRow}
use Rattle.set_rows.proofs.moving.write_after.Given as goal

abbrev pub invariant-loop-state : goal.invariant-loop-state
invariant-loop-state l = record {
  row : IsRow l.automaton.states l.out;
  members : (q : ℕ) → HasBit l.out q ↔ Through (HasBit l.from) l.state (λ m r. Moves l.automaton m l.label r) q;
}
