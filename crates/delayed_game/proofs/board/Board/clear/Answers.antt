use Rattle.std.proofs.Common.{◌≡◌, ℕ, ◌+◌, ◌*◌, ◌/◌, ◌<◌, ◌≤◌, List, sym, subst, rules, length, arith}
use Rattle.std.proofs.lemmas.List.{with_items_is}
use Rattle.std.specs.Vec.{with_items}
use Rattle.auto_core.specs.Rows.{cell_of}
use Rattle.delayed_game.specs.Pairings.{Pairing, Removes, table_pairing}
use Rattle.delayed_game.proofs.BoardLemmas.{valid_table, lost}
use Rattle.delayed_game.proofs.board.Board.clear.Goals as goal

pub returns-clause-pairs : goal.returns-clause-pairs
returns-clause-pairs c =
    let width : ℕ = c.self.inside.width in
    let m = c.self.inside.places in
    let n : ℕ = c.self.inside.states in
    let v = c.self.inside.table in
    let new = c.clear_cell.new.table in
    let x = c.args.x in
    let q = c.args.q in
    let wide : width ≡ (n + 63) / 64 = c.self.invariant.width in
    let room : n ≤ width * 64 = omega arith in
    let same_len : length new ≡ v.len = search rules in
    let items : (with_items v new).items ≡ new = with_items_is v new same_len in
    let F : List ℕ → Type 0 = λ t. (r s : ℕ) → s < width * 64 → ¬ ((r ≡ x) × (s ≡ q)) → cell_of new width r s ≡ cell_of t width r s in
    let others = subst F c.deref_mut.ensures.value c.clear_cell.ensures.others in
    let S : List ℕ → Type 0 = λ t. Removes (table_pairing v.items width m n) (table_pairing t width m n) x q in
    let T : Pairing → Type 0 = λ R. Removes R (table_pairing (with_items v new).items width m n) x q in
    subst T c.self.view_is (subst S (sym items) (lost v.items new width m n x q room others c.clear_cell.ensures.here))

pub returns-clause-valid : goal.returns-clause-valid
returns-clause-valid c = valid_table (with_items c.self.inside.table c.clear_cell.new.table).items c.self.inside.width c.self.inside.places c.self.inside.states
