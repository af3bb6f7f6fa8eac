use Rattle.bit_rel.specs.Relation.{IsRelation}
use Rattle.look_game.proofs.RowLemmas.{HasRowsUpto}
use Rattle.look_game.proofs.rounds.matching.Given as goal

abbrev pub invariant-loop-p : goal.invariant-loop-p
invariant-loop-p g l = IsRelation l.rel × HasRowsUpto (g.S.Side.matches l.side l.automaton) l.automaton.states l.p l.rel
