use Rattle.std.proofs.Common.{◌≡◌, ℕ, ◌<◌, ◌≤◌, length, slice_set, slice_index_or, sym, ◌∙◌, subst, arith}
use Rattle.std.proofs.lemmas.Grind.{get_or_default_zero}
use Rattle.ramsey_search.specs.EndLists.{HasPut, lists_in}
use Rattle.ramsey_search.proofs.EndListLemmas.{pair_below, list_changed}
use Rattle.ramsey_search.proofs.end_lists.EndLists.put.Goals as goal

pub returns : goal.returns
returns c =
    let lists = c.self.inside.lists.items in
    let places = c.self.inside.places.items in
    let pair : ℕ = c.args.pair in
    let pair_in : pair < length places = pair_below lists places c.args.self.now pair c.self.view_is c.requires in
    let place_is : c.index.result.now ≡ slice_index_or places pair 0 = c.index.ensures ∙ get_or_default_zero places pair c.index.result.now pair_in in
    let some = c.if-place-eq0.false in
    let own : 1 ≤ slice_index_or places pair 0 = omega (arith, some, place_is) in
    subst (λ old. HasPut old (lists_in (slice_set lists c.index.result.now c.args.list) places) pair c.args.list.items) c.self.view_is
    (subst (λ k. HasPut (lists_in lists places) (lists_in (slice_set lists k c.args.list) places) pair c.args.list.items) (sym place_is)
    (list_changed lists places c.self.invariant pair c.args.list pair_in own))
