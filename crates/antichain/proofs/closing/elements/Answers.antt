use Rattle.std.proofs.Common.{◌≡◌, ℕ, ◌+◌, ◌<◌, false, List, [], ◌∷◌, ◌++◌, length, vec_len, slice_index_or, refl, sym, ◌∙◌, subst, arith}
use Rattle.std.proofs.lemmas.List.{get_or_default}
use Rattle.auto_core.specs.Outcome.{At}
use Rattle.cert_value.specs.declared.types.Element.{Element}
use Rattle.antichain.specs.declared.parts.Held.{Held}
use Rattle.antichain.specs.declared.family.Family.{Family}
use Rattle.antichain.specs.Marks.{IsHeldMark, AreMarked}
use Rattle.auto_laws.proofs.PlaceLemmas.{read_at}
use Rattle.antichain.proofs.ClosureLemmas.{marked_more}
use Rattle.antichain.proofs.closing.elements.Goals as goal
use Rattle.antichain.proofs.closing.elements.Goals.{then-index, else-index}

pub loop-number-preserved : goal.loop-number-preserved
loop-number-preserved c =
    let S : List (ℕ × ℕ) = c.args.order.now.pairs in
    let f : Family = c.args.family.now in
    let i : ℕ = c.loop-number.number in
    let h : Held = c.index-element.result.now in
    let items : vec_len f.held ≡ length f.held.items = f.held.ok.0 in
    let count = c.len-number-end.ensures in
    let test = c.loop-number-test.true in
    let lt : i < length f.held.items = omega arith in
    let h_is : At f.held.items i h = read_at f.held.items i h h lt c.index-element.ensures in
    let flags : length f.live.items ≡ length f.held.items = c.requires.fits.live_size in
    let flag : slice_index_or f.live.items i false ≡ c.index.result.now = get_or_default f.live.items i false c.index.result.now (omega arith) ∙ sym c.index.ensures in
    let m : Element = record { mark = c.if-index.mark; origin = h.origin } in
    let pushed : c.push.new.self ≡ c.loop-number.elements ++ m ∷ [] = c.in_ok-push.ensures.ok in
    let mark : IsHeldMark S f h (slice_index_or f.live.items i false) c.if-index.mark = elim c.if-index.branch [
      | then-index w ↦ subst (IsHeldMark S f h (slice_index_or f.live.items i false)) (sym w.mark-is) (flag ∙ w.if-index.true)
      | else-index w ↦ subst (IsHeldMark S f h (slice_index_or f.live.items i false)) (sym w.mark-is) (flag ∙ w.if-index.false, w.coverer.ensures)
    ] in
    subst (AreMarked S f (i + 1)) (sym pushed) (marked_more S f i c.loop-number.elements m h h_is refl mark c.loop-number.invariant)
