use Rattle.delayed_game.specs.Settling.{IsPlaceUnderWay, Tries}
use Rattle.delayed_game.proofs.SettleLemmas.{HasAnswered}
use Rattle.delayed_game.proofs.settling.try_into.Given as goal

abbrev pub invariant-loop-i : goal.invariant-loop-i
invariant-loop-i l =
    Tries l.places l.automaton l.fn.board l.board l.fn.marks l.marks l.any × IsPlaceUnderWay l.places l.automaton l.to l.fn.board l.board l.marks × HasAnswered l.places l.automaton l.to l.before l.fn.board l.board l.i
