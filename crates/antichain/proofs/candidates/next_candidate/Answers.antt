use Rattle.std.proofs.Common.{◌≡◌, ℕ, ◌↔◌, List, slice_index_or, refl, sym, ap, ◌∙◌, subst, arith}
use Rattle.auto_core.specs.Automaton.{Automaton, trans, trans_at}
use Rattle.auto_core.specs.Game.{Holds}
use Rattle.auto_core.specs.Rows.{HasBit}
use Rattle.auto_core.specs.Outcome.{At}
use Rattle.auto_core.specs.Pairs.{set_after}
use Rattle.auto_core.specs.declared.parts.Trans.{Trans}
use Rattle.auto_core.specs.declared.parts.Origin.TheVariants.{Next}
use Rattle.auto_laws.proofs.PlaceLemmas.{at_same, at_within, read_at}
use Rattle.set_rows.specs.Sets.{IsRow, IsSubset, IsCovered}
use Rattle.antichain.specs.declared.parts.Held.{Held}
use Rattle.antichain.specs.declared.sets.Made.{Made}
use Rattle.antichain.specs.Made.{IsMade, IsRemembered}
use Rattle.antichain.proofs.KeptLemmas.{next_kept}
use Rattle.antichain.proofs.candidates.next_candidate.Goals as goal

pub index-made-requires : goal.index-made-requires
index-made-requires c =
    let known = c.in_ok-number.ensures.known in
    let within = at_within c.after.new.self.made.items c.in_ok-number.number known.element known.is in
    omega arith

pub returns-clause-candidate : goal.returns-clause-candidate
returns-clause-candidate c = λ x kept.
    let A : Automaton = c.args.first.now in
    let B : Automaton = c.args.second.now in
    let S : List (ℕ × ℕ) = c.args.order.now.pairs in
    let t : ℕ = c.args.t in
    let step : Trans = slice_index_or c.transitions.result.now t (trans 0 0 0) in
    let is_step : step ≡ trans_at A t = ap (λ (l : List Trans). slice_index_or l t (trans 0 0 0)) c.transitions.ensures.list in
    let h : Held = record { origin = Next c.args.element t; state = step.target; members = c.in_ok-members.members; below = c.in_ok-below.below; head = c.head_of-head.result; below_head = c.head_of-below_head.result } in
    let known : IsRemembered c.after.new.self.made.items step.label c.deref.result.now c.in_ok-number.number = c.in_ok-number.ensures.known in
    let within = at_within c.after.new.self.made.items c.in_ok-number.number known.element known.is in
    let seen : Made = c.index-made.result.now in
    let seen_is : At c.after.new.self.made.items c.in_ok-number.number seen = read_at c.after.new.self.made.items c.in_ok-number.number seen seen within c.index-made.ensures in
    let same : known.element ≡ seen = at_same c.after.new.self.made.items c.in_ok-number.number known.element seen known.is seen_is in
    let made : IsMade B S seen = c.in_ok-number.ensures.made c.in_ok-number.number seen seen_is in
    let label : seen.label ≡ (trans_at A t).label = subst (λ (m : Made). m.label ≡ step.label) same known.label_is ∙ ap (λ (u : Trans). u.label) is_step in
    let from : seen.from.items ≡ c.args.from.now.members.items = subst (λ (m : Made). m.from.items ≡ c.deref.result.now) same known.from_is ∙ c.deref.ensures.value in
    let members : h.members.items ≡ seen.members.items = c.in_ok-members.ensures.items_if_clones_equal (λ x y e. e) ∙ c.deref-2.ensures.value in
    let below : h.below.items ≡ seen.below.items = c.in_ok-below.ensures.items_if_clones_equal (λ x y e. e) ∙ c.deref-3.ensures.value in
    next_kept A B S c.args.element t c.args.from.now h x kept refl (ap (λ (u : Trans). u.target) is_step)
    (record {
      row = subst (IsRow B.states) (sym members) made.row;
      below = subst (IsRow B.states) (sym below) made.below;
      covering = subst (λ l. (other : List ℕ) → IsSubset other h.below.items ↔ IsCovered (Holds S) other l) (sym members)
          (subst (λ l. (other : List ℕ) → IsSubset other l ↔ IsCovered (Holds S) other seen.members.items) (sym below) made.covering);
      head = c.head_of-head.ensures ∙ ap (λ l. slice_index_or l 0 0) c.deref-4.ensures.value;
      below_head = c.head_of-below_head.ensures ∙ ap (λ l. slice_index_or l 0 0) c.deref-5.ensures.value;
    })
    (subst (λ l. (q : ℕ) → HasBit l q ↔ set_after B (HasBit c.args.from.now.members.items) (trans_at A t).label q) (sym members)
    (subst (λ l. (q : ℕ) → HasBit seen.members.items q ↔ set_after B (HasBit l) (trans_at A t).label q) from
    (subst (λ a. (q : ℕ) → HasBit seen.members.items q ↔ set_after B (HasBit seen.from.items) a q) label made.members)))
