use Rattle.delayed_game.proofs.MendLemmas.{IsClearedUpto}
use Rattle.delayed_game.proofs.mending.clear_before.Given as goal

abbrev pub invariant-loop-i : goal.invariant-loop-i
invariant-loop-i l = IsClearedUpto l.automaton l.before l.ends l.fn.made l.made l.width l.i
