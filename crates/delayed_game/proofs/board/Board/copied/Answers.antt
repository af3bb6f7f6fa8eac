use Rattle.std.proofs.Common.{◌∙◌, ℕ, List, ap, subst}
use Rattle.delayed_game.specs.Pairings.{Pairing, IsPairing, table_pairing}
use Rattle.delayed_game.proofs.BoardLemmas.{valid_table}
use Rattle.delayed_game.proofs.board.Board.copied.Goals as goal

pub returns-clause-same : goal.returns-clause-same
returns-clause-same c =
    let made : List ℕ → Pairing = λ t. table_pairing t c.self.inside.width c.self.inside.places c.self.inside.states in
    let items = c.in_ok-to_vec.ensures.items_if_clones_equal (λ x y e. e) in
    ap made (items ∙ c.deref.ensures.value) ∙ c.self.view_is

pub returns-clause-valid : goal.returns-clause-valid
returns-clause-valid c =
    let P : Pairing → Type 0 = λ R. IsPairing R in
    subst P c.self.view_is (valid_table c.self.inside.table.items c.self.inside.width c.self.inside.places c.self.inside.states)
