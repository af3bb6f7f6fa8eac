use Rattle.std.proofs.Common.{ℕ, ◌<◌, ◌≤◌}
use Rattle.auto_core.specs.Automaton.{trans_at}
use Rattle.auto_core.specs.Rows.{HasBit}
use Rattle.delayed_game.proofs.mending.leads_to.Given as goal

abbrev pub invariant-loop-t : goal.invariant-loop-t
invariant-loop-t l = (u : ℕ) → l.initial.t ≤ u → u < l.t → HasBit l.ends (trans_at l.automaton u).target → ⊥
