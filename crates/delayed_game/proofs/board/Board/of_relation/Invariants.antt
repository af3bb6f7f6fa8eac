use Rattle.delayed_game.proofs.BoardLemmas.{HasRowsOf}
use Rattle.delayed_game.proofs.board.Board.of_relation.Given as goal

abbrev pub invariant-loop-x : goal.invariant-loop-x
invariant-loop-x l = HasRowsOf l.rel l.words l.table.items l.width l.x
