use Rattle.std.proofs.Common.{◌≡◌, ℕ, ◌<◌, ◌≤◌, [], ◌∷◌, ◌++◌, length, slice_set, slice_index_or, sym, ap, ◌∙◌, subst, arith}
use Rattle.std.proofs.lemmas.Grind.{get_or_default_zero}
use Rattle.evidence.specs.Tables.{numbers_at}
use Rattle.evidence.proofs.TableLemmas.{numbers_is}
use Rattle.ramsey_search.specs.EndLists.{HasPut, list_at, lists_in}
use Rattle.ramsey_search.proofs.EndListLemmas.{pair_below, list_is, list_changed}
use Rattle.ramsey_search.proofs.end_lists.EndLists.push.Goals as goal

pub returns : goal.returns
returns c =
    let lists = c.self.inside.lists.items in
    let places = c.self.inside.places.items in
    let pair : ℕ = c.args.pair in
    let pair_in : pair < length places = pair_below lists places c.args.self.now pair c.self.view_is c.requires in
    let place_is : c.index.result.now ≡ slice_index_or places pair 0 = c.index.ensures ∙ get_or_default_zero places pair c.index.result.now pair_in in
    let some = c.if-place-eq0.false in
    let own : 1 ≤ slice_index_or places pair 0 = omega (arith, some, place_is) in
    let place_in : c.index.result.now < length lists = subst (λ k. k < length lists) (sym place_is) (c.self.invariant.within pair pair_in) in
    let was : list_at (lists_in lists places) pair ≡ c.index_mut.result.now.items =
    list_is lists places pair pair_in ∙ ap (numbers_at lists) (sym place_is) ∙ numbers_is lists c.index.result.now c.index_mut.result.now place_in c.index_mut.ensures.value in
    let items : c.push.new.self.items ≡ list_at (lists_in lists places) pair ++ c.args.number ∷ [] = c.in_ok-push.ensures.items ∙ ap (λ l. l ++ c.args.number ∷ []) (sym was) in
    subst (λ old. HasPut old (lists_in (slice_set lists c.index.result.now c.push.new.self) places) pair (list_at old pair ++ c.args.number ∷ [])) c.self.view_is
    (subst (λ k. HasPut (lists_in lists places) (lists_in (slice_set lists k c.push.new.self) places) pair (list_at (lists_in lists places) pair ++ c.args.number ∷ [])) (sym place_is)
    (subst (λ l. HasPut (lists_in lists places) (lists_in (slice_set lists (slice_index_or places pair 0) c.push.new.self) places) pair l) items
    (list_changed lists places c.self.invariant pair c.push.new.self pair_in own)))
