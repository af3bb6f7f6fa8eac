use Rattle.std.proofs.Common.{◌≡◌, ℕ, ◌+◌, ◌*◌, ◌/◌, ◌<◌, ◌≤◌, ◌↔◌, List, rules, length, refl, sym, ap, subst, arith}
use Rattle.std.proofs.lemmas.List.{with_items_is}
use Rattle.std.specs.Vec.{with_items}
use Rattle.auto_core.specs.Rows.{cell_of}
use Rattle.auto_core.specs.Game.{Holds}
use Rattle.delayed_game.specs.Pairings.{table_pairing}
use Rattle.delayed_game.proofs.BoardLemmas.{HasRowsOf, rows_more, rows_columns, rows_have, valid_table}
use Rattle.delayed_game.proofs.board.Board.of_relation.Goals as goal

pub loop-x-init : goal.loop-x-init
loop-x-init c = λ y q lt. absurd (omega arith)

pub loop-x-preserved : goal.loop-x-preserved
loop-x-preserved c =
    let R = c.args.rel.now in
    let w : ℕ = c.words_for-width.result in
    let words : ℕ = c.args.words in
    let x : ℕ = c.loop-x.x in
    let v = c.loop-x.table in
    let new = c.write_row.new.table in
    let row = c.row.result.now in
    let same_len : length new ≡ v.len = search rules in
    let items : (with_items v new).items ≡ new = with_items_is v new same_len in
    let F : List ℕ → Type 0 = λ t. (r q : ℕ) → q < w * 64 → ¬ (r ≡ x) → cell_of new w r q ≡ cell_of t w r q in
    let others = subst F c.deref_mut.ensures.value c.write_row.ensures.others in
    subst (λ t. HasRowsOf R words t w (x + 1)) (sym items)
    (rows_more R words v.items new row w x (x / words) refl c.loop-x.invariant c.row.ensures.bits c.write_row.ensures.here others)

pub invariant_of-result : goal.invariant_of-result
invariant_of-result c =
    let R = c.args.rel.now in
    let w : ℕ = c.words_for-width.result in
    let words : ℕ = c.args.words in
    let n : ℕ = c.size-states.result in
    let m : ℕ = n * words in
    let t = c.loop-x.table.items in
    let end : c.loop-x.x ≡ m = omega (arith, c.loop-x-test.false, c.loop-x.auto.x-end) in
    let rows : HasRowsOf R words t w m = subst (λ i. HasRowsOf R words t w i) end c.loop-x.invariant in
    let all : length t ≡ m * w = search rules in
    record {
      width = c.words_for-width.ensures;
      len = all;
      columns = λ x q x_in near cell. subst (λ s. q < s) (sym c.size-states.ensures.count) (rows_columns R words t w m c.size-states.ensures.valid rows x q x_in near cell);
    }

pub returns-clause-valid : goal.returns-clause-valid
returns-clause-valid c = valid_table c.loop-x.table.items c.words_for-width.result (c.size-states.result * c.args.words) c.size-states.result

pub returns-clause-pairs : goal.returns-clause-pairs
returns-clause-pairs c = λ x q x_in.
    let R = c.args.rel.now in
    let w : ℕ = c.words_for-width.result in
    let words : ℕ = c.args.words in
    let n : ℕ = c.size-states.result in
    let m : ℕ = n * words in
    let t = c.loop-x.table.items in
    let same : n ≡ R.size = c.size-states.ensures.count in
    let end : c.loop-x.x ≡ m = omega (arith, c.loop-x-test.false, c.loop-x.auto.x-end) in
    let rows : HasRowsOf R words t w m = subst (λ i. HasRowsOf R words t w i) end c.loop-x.invariant in
    let wide : w ≡ (n + 63) / 64 = c.words_for-width.ensures in
    let room : R.size ≤ w * 64 = omega arith in
    let inside : x < m = omega (arith, ap (λ s. s * words) same) in
    subst (λ s. Holds (table_pairing t w m s).pairs x q ↔ Holds R.pairs (x / words) q) (sym same) (rows_have R words t w m c.size-states.ensures.valid room rows x q inside)
