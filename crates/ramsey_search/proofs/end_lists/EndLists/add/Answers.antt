use Rattle.std.proofs.Common.{◌≡◌, ℕ, ◌<◌, [], ◌∷◌, ◌++◌, length, slice_set, sym, ◌∙◌, subst}
use Rattle.ramsey_search.specs.EndLists.{HasPut, lists_in}
use Rattle.ramsey_search.proofs.EndListLemmas.{pair_below, list_added}
use Rattle.ramsey_search.proofs.end_lists.EndLists.add.Goals as goal

pub returns : goal.returns
returns c =
    let lists = c.self.inside.lists.items in
    let places = c.self.inside.places.items in
    let pair : ℕ = c.args.pair in
    let pair_in : pair < length places = pair_below lists places c.args.self.now pair c.self.view_is c.requires in
    let last : c.len-place.result ≡ length lists = c.len-place.ensures ∙ c.self.inside.lists.ok.0 in
    subst (λ old. HasPut old (lists_in c.push.new.self.items (slice_set places pair c.len-place.result)) pair c.args.list.items) c.self.view_is
    (subst (λ l. HasPut (lists_in lists places) (lists_in l (slice_set places pair c.len-place.result)) pair c.args.list.items) (sym c.in_ok-push.ensures.items)
    (subst (λ n. HasPut (lists_in lists places) (lists_in (lists ++ c.args.list ∷ []) (slice_set places pair n)) pair c.args.list.items) (sym last)
    (list_added lists places c.self.invariant pair c.args.list pair_in)))
