use Rattle.auto_core.specs.Automaton.{IsAccepting}
use Rattle.auto_core.specs.Game.{Holds}
use Rattle.delayed_game.proofs.BeforeLemmas.{GivesUpto}
use Rattle.delayed_game.proofs.levels.rank_accepting.Given as goal

abbrev pub invariant-loop-p : goal.invariant-loop-p
invariant-loop-p l = GivesUpto l.places l.automaton (λ p q. Holds l.fn.unranked.pairs p q × IsAccepting l.automaton q) 0 l.fn.unranked l.fn.ranks l.unranked l.ranks l.fresh l.p
