use Rattle.std.proofs.Common.{◌≡◌, ℕ, ◌+◌, ◌*◌, ◌/◌, ◌<◌, ◌≤◌, ◌&&◌, List, sym, subst, rules, length, arith}
use Rattle.std.proofs.lemmas.List.{with_items_is}
use Rattle.std.specs.Vec.{with_items}
use Rattle.auto_core.specs.Rows.{bit_of, cell_of, HasCell}
use Rattle.delayed_game.specs.Pairings.{Pairing, IsNarrowed, table_pairing}
use Rattle.delayed_game.proofs.BoardLemmas.{valid_table, narrowed, columns_narrowed}
use Rattle.delayed_game.proofs.board.Board.narrow.Goals as goal

pub invariant_of-self : goal.invariant_of-self
invariant_of-self c =
    let width : ℕ = c.self.inside.width in
    let m = c.self.inside.places in
    let n : ℕ = c.self.inside.states in
    let v = c.self.inside.table in
    let new = c.and_row.new.table in
    let x = c.args.x in
    let row = c.args.row.now in
    let same_len : length new ≡ v.len = search rules in
    let items : (with_items v new).items ≡ new = with_items_is v new same_len in
    let all : length (with_items v new).items ≡ m * width = search rules in
    let H : List ℕ → Type 0 = λ t. (q : ℕ) → q < width * 64 → cell_of new width x q ≡ (cell_of t width x q && bit_of row q) in
    let here = subst H c.deref_mut.ensures.value c.and_row.ensures.here in
    let F : List ℕ → Type 0 = λ t. (r q : ℕ) → q < width * 64 → ¬ (r ≡ x) → cell_of new width r q ≡ cell_of t width r q in
    let others = subst F c.deref_mut.ensures.value c.and_row.ensures.others in
    record {
      width = c.self.invariant.width;
      len = all;
      columns = subst (λ t. (y s : ℕ) → y < m → s < width * 64 → HasCell t width y s → s < n) (sym items)
          (columns_narrowed v.items new row width m n x here others c.self.invariant.columns);
    }

pub returns-clause-pairs : goal.returns-clause-pairs
returns-clause-pairs c =
    let width : ℕ = c.self.inside.width in
    let m = c.self.inside.places in
    let n : ℕ = c.self.inside.states in
    let v = c.self.inside.table in
    let new = c.and_row.new.table in
    let x = c.args.x in
    let row = c.args.row.now in
    let wide : width ≡ (n + 63) / 64 = c.self.invariant.width in
    let room : n ≤ width * 64 = omega arith in
    let same_len : length new ≡ v.len = search rules in
    let items : (with_items v new).items ≡ new = with_items_is v new same_len in
    let H : List ℕ → Type 0 = λ t. (q : ℕ) → q < width * 64 → cell_of new width x q ≡ (cell_of t width x q && bit_of row q) in
    let here = subst H c.deref_mut.ensures.value c.and_row.ensures.here in
    let F : List ℕ → Type 0 = λ t. (r q : ℕ) → q < width * 64 → ¬ (r ≡ x) → cell_of new width r q ≡ cell_of t width r q in
    let others = subst F c.deref_mut.ensures.value c.and_row.ensures.others in
    let S : List ℕ → Type 0 = λ t. IsNarrowed (table_pairing v.items width m n) (table_pairing t width m n) x row in
    let T : Pairing → Type 0 = λ R. IsNarrowed R (table_pairing (with_items v new).items width m n) x row in
    subst T c.self.view_is (subst S (sym items) (narrowed v.items new row width m n x room here others))

pub returns-clause-valid : goal.returns-clause-valid
returns-clause-valid c = valid_table (with_items c.self.inside.table c.and_row.new.table).items c.self.inside.width c.self.inside.places c.self.inside.states
