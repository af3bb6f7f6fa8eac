use Rattle.std.proofs.Common.{◌≡◌, ℕ, ◌+◌, ◌/◌, ◌↔◌, List, length, drop, sym, ap, ◌∙◌, subst}
use Rattle.auto_core.specs.Automaton.{Automaton}
use Rattle.auto_core.specs.Game.{Holds}
use Rattle.auto_core.specs.Rows.{HasBit}
use Rattle.auto_core.specs.Pairs.{set_after}
use Rattle.std.specs.Vec.{with_items}
use Rattle.set_rows.specs.Sets.{IsRow, IsSubset, IsCovered}
use Rattle.antichain.specs.declared.sets.Made.{Made}
use Rattle.auto_laws.proofs.PlaceLemmas.{take_front}
use Rattle.antichain.proofs.sets.make.Goals as goal

pub returns-clause-made : goal.returns-clause-made
returns-clause-made c =
    let B : Automaton = c.args.second.now in
    let S : List (ℕ × ℕ) = c.args.order.now.pairs in
    let out : List ℕ = c.write_after.new.out in
    let m : Made = record { from = c.in_ok-to_vec.field-0; label = c.args.label; members = with_items c.in_ok-members.members out; below = c.in_ok-below.below } in
    let size : c.in_ok-members.members.len ≡ length out = c.in_ok-members.ensures.len ∙ c.words_for.ensures ∙ ap (λ n. (n + 63) / 64) c.states.ensures.count ∙ sym c.write_after.ensures.row.len in
    let items : out ≡ m.members.items = sym (take_front c.in_ok-members.members.len out (drop (length out) c.in_ok-members.members.items) size) in
    let from : m.from.items ≡ c.args.from.now = c.in_ok-to_vec.ensures.items_if_clones_equal (λ x y e. e) in
    let seen : c.deref.result.now ≡ m.members.items = c.deref.ensures.value in
    record {
      row = subst (IsRow B.states) items c.write_after.ensures.row;
      below = subst (λ k. IsRow k m.below.items) c.requires.order_size c.in_ok-below.ensures.row;
      members = subst (λ l. (q : ℕ) → HasBit l q ↔ set_after B (HasBit m.from.items) c.args.label q) items
          (subst (λ l. (q : ℕ) → HasBit out q ↔ set_after B (HasBit l) c.args.label q) (sym from) c.write_after.ensures.members);
      covering = subst (λ l. (other : List ℕ) → IsSubset other m.below.items ↔ IsCovered (Holds S) other l) seen c.in_ok-below.ensures.covering;
    }

pub returns-clause-from : goal.returns-clause-from
returns-clause-from c = c.in_ok-to_vec.ensures.items_if_clones_equal (λ x y e. e)
