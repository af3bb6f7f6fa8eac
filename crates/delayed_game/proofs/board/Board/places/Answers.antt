use Rattle.std.proofs.Common.{subst}
use Rattle.delayed_game.specs.Pairings.{Pairing, IsPairing}
use Rattle.delayed_game.proofs.BoardLemmas.{valid_table}
use Rattle.delayed_game.proofs.board.Board.places.Goals as goal

pub returns-clause-valid : goal.returns-clause-valid
returns-clause-valid c =
    let P : Pairing → Type 0 = λ R. IsPairing R in
    subst P c.self.view_is (valid_table c.self.inside.table.items c.self.inside.width c.self.inside.places c.self.inside.states)
