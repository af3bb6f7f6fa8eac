use Rattle.std.proofs.Common.{◌≡◌, ◌+◌, ◌*◌, ◌/◌, ◌<◌, ◌≤◌, ◌↔◌, ℕ, List, sym, subst, arith}
use Rattle.auto_core.specs.Rows.{HasBit, bit_of, cell_of}
use Rattle.auto_core.specs.Game.{Holds}
use Rattle.delayed_game.specs.Pairings.{Pairing, IsPairing}
use Rattle.delayed_game.proofs.BoardLemmas.{valid_table, row_pairs}
use Rattle.delayed_game.proofs.board.Board.row.Goals as goal

pub returns-clause-bits : goal.returns-clause-bits
returns-clause-bits c =
    let table = c.self.inside.table.items in
    let width : ℕ = c.self.inside.width in
    let m = c.self.inside.places in
    let n : ℕ = c.self.inside.states in
    let x = c.args.x in
    let row = c.row_at.result.now in
    let wide : width ≡ (n + 63) / 64 = c.self.invariant.width in
    let room : n ≤ width * 64 = omega arith in
    let P : Pairing → Type 0 = λ R. x < R.places in
    let x_in : x < m = subst P (sym c.self.view_is) c.requires in
    let F : List ℕ → Type 0 = λ t. (q : ℕ) → q < width * 64 → bit_of row q ≡ cell_of t width x q in
    let bits = subst F c.deref.ensures.value c.row_at.ensures.bits in
    let T : Pairing → Type 0 = λ R. (q : ℕ) → HasBit row q ↔ Holds R.pairs x q in
    subst T c.self.view_is (row_pairs table row width m n x room c.self.invariant.columns x_in bits c.row_at.ensures.outside)

pub returns-clause-valid : goal.returns-clause-valid
returns-clause-valid c =
    let P : Pairing → Type 0 = λ R. IsPairing R in
    subst P c.self.view_is (valid_table c.self.inside.table.items c.self.inside.width c.self.inside.places c.self.inside.states)
