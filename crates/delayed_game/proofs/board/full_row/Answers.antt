use Rattle.std.proofs.Common.{◌≡◌, ℕ, ◌<◌, ◌↔◌, List, rules, length, get_or, sym, subst}
use Rattle.std.proofs.lemmas.List.{with_items_is}
use Rattle.std.specs.Vec.{with_items}
use Rattle.auto_core.specs.Rows.{HasBit}
use Rattle.delayed_game.proofs.BoardLemmas.{full_bits}
use Rattle.delayed_game.proofs.board.full_row.Goals as goal

pub returns-clause-bits : goal.returns-clause-bits
returns-clause-bits c =
    let v = c.in_ok-row.row in
    let new = c.mark_below.new.row in
    let same_len : length new ≡ v.len = search rules in
    let items : (with_items v new).items ≡ new = with_items_is v new same_len in
    let none : (i : ℕ) → get_or c.deref_mut.result.now i 0 ≡ 0 = subst (λ (l : List ℕ). (i : ℕ) → get_or l i 0 ≡ 0) (sym c.deref_mut.ensures.value) c.in_ok-row.ensures.none in
    subst (λ (l : List ℕ). (q : ℕ) → HasBit l q ↔ (q < c.args.states)) (sym items) (full_bits c.args.states c.deref_mut.result.now new none c.mark_below.ensures)
