use Rattle.std.proofs.Common.{◌≤◌, length}
use Rattle.product_search.specs.Found.{Grows}
use Rattle.lasso_reading.specs.Made.{ArePairs, AreMoves}
use Rattle.lasso_reading.proofs.MadeLemmas.{DoneIn}
use Rattle.lasso_reading.proofs.made.Made.expand.Given as goal

abbrev pub invariant-loop-t : goal.invariant-loop-t
invariant-loop-t l =
    ArePairs l.factors.automaton.now l.factors.classes.now l.factors.prefix.now l.factors.turn.now l.self.pairs.keys
    × Grows l.initial.self.pairs.keys l.self.pairs.keys
    × (length l.self.pairs.keys ≤ l.limit)
    × AreMoves l.factors.automaton.now l.factors.classes.now l.factors.prefix.now l.factors.turn.now (DoneIn l.factors.automaton.now l.from l.t) l.self.pairs.keys l.self.moves.items
