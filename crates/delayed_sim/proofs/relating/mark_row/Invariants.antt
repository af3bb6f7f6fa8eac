use Rattle.std.proofs.Common.{ℕ, ◌⊎◌, ◌↔◌}
use Rattle.auto_core.specs.Rows.{HasBit}
use Rattle.delayed_sim.proofs.RelateLemmas.{IsPlaced}
use Rattle.delayed_sim.proofs.relating.mark_row.Given as goal

abbrev pub invariant-loop-at : goal.invariant-loop-at
invariant-loop-at l = (s : ℕ) → HasBit l.row s ↔ (HasBit l.fn.row s ⊎ IsPlaced l.delayed.triples l.begin l.end l.at s)
