use Rattle.std.proofs.Common.{ℕ, ◌<◌, ◌↔◌}
use Rattle.auto_core.specs.Automaton.{IsAccepting}
use Rattle.auto_core.specs.Rows.{HasBit}
use Rattle.delayed_game.proofs.levels.write_accepting.Given as goal

abbrev pub invariant-loop-q : goal.invariant-loop-q
invariant-loop-q l = (k : ℕ) → HasBit l.row k ↔ ((k < l.q) × IsAccepting l.automaton k)
