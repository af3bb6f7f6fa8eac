use Rattle.std.proofs.Common.{◌≡◌, ℕ, ◌+◌, ◌*◌, ◌/◌, ◌<◌, ◌≤◌, ◌↔◌, List, rules, length, sym, ap, ◌∙◌, subst, arith}
use Rattle.std.proofs.Math.Nat.{mul-le-mul_right}
use Rattle.std.proofs.lemmas.List.{with_items_is}
use Rattle.std.specs.Vec.{with_items}
use Rattle.auto_core.specs.Rows.{cell_of, HasBit}
use Rattle.delayed_game.proofs.BoardLemmas.{HasFullRows, full_more, full_has, valid_table}
use Rattle.delayed_game.proofs.board.Board.full.Goals as goal

pub write_row-requires-clause-row : goal.write_row-requires-clause-row
write_row-requires-clause-row c =
    let w : ℕ = c.words_for-width.result in
    let le : (c.loop-x.x + 1) * w ≤ c.args.places * w = mul-le-mul_right w (let lt = c.loop-x-test.true in omega arith) in
    let len : length c.deref_mut.result.now ≡ c.args.places * w = ap (λ (l : List ℕ). length l) c.deref_mut.ensures.value ∙ c.loop-x.invariant.1 in
    let one : (c.loop-x.x + 1) * w ≡ c.loop-x.x * w + w = omega arith in
    omega (arith, le, len, one)

pub loop-x-init : goal.loop-x-init
loop-x-init c = ((λ y q lt. absurd (omega arith)), search rules)

pub loop-x-preserved : goal.loop-x-preserved
loop-x-preserved c =
    let w : ℕ = c.words_for-width.result in
    let x : ℕ = c.loop-x.x in
    let v = c.loop-x.table in
    let new = c.write_row.new.table in
    let same_len : length new ≡ v.len = search rules in
    let v_len : length v.items ≡ v.len = search rules in
    let items : (with_items v new).items ≡ new = with_items_is v new same_len in
    let F : List ℕ → Type 0 = λ t. (r q : ℕ) → q < w * 64 → ¬ (r ≡ x) → cell_of new w r q ≡ cell_of t w r q in
    let others = subst F c.deref_mut.ensures.value c.write_row.ensures.others in
    let bits : (q : ℕ) → HasBit c.deref.result.now q ↔ (q < c.args.states) = subst (λ (l : List ℕ). (q : ℕ) → HasBit l q ↔ (q < c.args.states)) (sym c.deref.ensures.value) c.in_ok-row.ensures.bits in
    let len : length new ≡ c.args.places * w = same_len ∙ sym v_len ∙ c.loop-x.invariant.1 in (
      subst (λ t. HasFullRows c.args.states t w (x + 1)) (sym items)
          (full_more c.args.states v.items new c.deref.result.now w x c.loop-x.invariant.0 bits c.write_row.ensures.here others),
      subst (λ (t : List ℕ). length t ≡ c.args.places * w) (sym items) len,
    )

pub invariant_of-result : goal.invariant_of-result
invariant_of-result c =
    let w : ℕ = c.words_for-width.result in
    let m : ℕ = c.args.places in
    let t = c.loop-x.table.items in
    let end : c.loop-x.x ≡ m = omega (arith, c.loop-x-test.false, c.loop-x.auto.x-end) in
    let rows : HasFullRows c.args.states t w m = subst (λ i. HasFullRows c.args.states t w i) end c.loop-x.invariant.0 in
    record {
      width = c.words_for-width.ensures;
      len = c.loop-x.invariant.1;
      columns = λ x q x_in near cell. (rows x q x_in near).0 cell;
    }

pub returns-clause-valid : goal.returns-clause-valid
returns-clause-valid c = valid_table c.loop-x.table.items c.words_for-width.result c.args.places c.args.states

pub returns-clause-pairs : goal.returns-clause-pairs
returns-clause-pairs c =
    let w : ℕ = c.words_for-width.result in
    let m : ℕ = c.args.places in
    let t = c.loop-x.table.items in
    let end : c.loop-x.x ≡ m = omega (arith, c.loop-x-test.false, c.loop-x.auto.x-end) in
    let rows : HasFullRows c.args.states t w m = subst (λ i. HasFullRows c.args.states t w i) end c.loop-x.invariant.0 in
    let wide : w ≡ (c.args.states + 63) / 64 = c.words_for-width.ensures in
    let room : c.args.states ≤ w * 64 = omega arith in
    full_has c.args.states t w m room rows
