use Rattle.std.proofs.Common.{◌≡◌, ℕ, ◌+◌, ◌/◌, ◌↔◌, List, length, drop, slice_index_or, refl, sym, ap, ◌∙◌, subst}
use Rattle.auto_core.specs.Automaton.{Automaton}
use Rattle.auto_core.specs.Game.{Holds}
use Rattle.auto_core.specs.Rows.{HasBit}
use Rattle.auto_core.specs.declared.parts.Origin.TheVariants.{Start}
use Rattle.std.specs.Vec.{with_items}
use Rattle.set_rows.specs.Sets.{IsRow, IsSubset, IsCovered}
use Rattle.antichain.specs.declared.parts.Held.{Held}
use Rattle.antichain.specs.Kept.{IsPrepared}
use Rattle.auto_laws.proofs.PlaceLemmas.{take_front}
use Rattle.antichain.proofs.KeptLemmas.{start_kept, prepared_by}
use Rattle.antichain.proofs.candidates.start_candidate.Goals as goal

pub returns : goal.returns
returns c =
    let A : Automaton = c.args.first.now in
    let B : Automaton = c.args.second.now in
    let S : List (ℕ × ℕ) = c.args.order.now.pairs in
    let out : List ℕ = c.write_one.new.out in
    let h : Held = record { origin = Start; state = c.initial-2.result; members = with_items c.in_ok-members.members out; below = c.in_ok-below.below; head = c.head_of-head.result; below_head = c.head_of-below_head.result } in
    let row : IsRow c.states-2.result out = c.write_one.ensures.row in
    let is_row : IsRow B.states out = subst (λ n. IsRow n out) c.states-2.ensures.count row in
    let size : c.in_ok-members.members.len ≡ length out = c.in_ok-members.ensures.len ∙ c.words_for.ensures ∙ ap (λ n. (n + 63) / 64) c.states.ensures.count ∙ sym is_row.len in
    let items : out ≡ h.members.items = sym (take_front c.in_ok-members.members.len out (drop (length out) c.in_ok-members.members.items) size) in
    let seen : c.deref.result.now ≡ h.members.items = c.deref.ensures.value in
    let prepared : IsPrepared B.states S h = prepared_by B.states S h c.args.order.now.size c.requires.order_size (subst (IsRow B.states) items is_row) c.in_ok-below.ensures.row
    (subst (λ l. (other : List ℕ) → IsSubset other c.in_ok-below.below.items ↔ IsCovered (Holds S) other l) seen c.in_ok-below.ensures.covering)
    (c.head_of-head.ensures ∙ ap (λ l. slice_index_or l 0 0) c.deref-2.ensures.value) (c.head_of-below_head.ensures ∙ ap (λ l. slice_index_or l 0 0) c.deref-3.ensures.value) in
    start_kept A B S h refl c.initial-2.ensures.state prepared
    (subst (λ l. (q : ℕ) → HasBit l q ↔ (q ≡ B.initial)) items
    (subst (λ s. (q : ℕ) → HasBit out q ↔ (q ≡ s)) c.initial.ensures.state c.write_one.ensures.members))
