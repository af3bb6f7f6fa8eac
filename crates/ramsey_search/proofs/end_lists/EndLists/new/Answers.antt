use Rattle.std.proofs.Common.{◌≡◌, [], ◌∷◌, ◌++◌, replicate, slice_index_or, sym, ap, ◌∙◌, subst}
use Rattle.evidence.specs.Tables.{numbers_at}
use Rattle.ramsey_search.proofs.EndListLemmas.{all_empty, zeros}
use Rattle.ramsey_search.proofs.end_lists.EndLists.new.Goals as goal

pub returns-clause-empty : goal.returns-clause-empty
returns-clause-empty c =
    let places = c.in_ok-places.places.items in
    let only : c.push.new.self.items ≡ c.new.result ∷ [] = c.in_ok-push.ensures.items ∙ ap (λ l. l ++ c.new.result ∷ []) c.new-lists.ensures.items in
    let zero_each : places ≡ replicate c.args.pairs 0 = c.in_ok-places.ensures.items_if_clones_equal (λ y e. e) in
    all_empty c.push.new.self.items places (ap (λ l. numbers_at l 0) only ∙ c.new.ensures.items)
    (λ k. subst (λ l. slice_index_or l k 0 ≡ 0) (sym zero_each) (zeros c.args.pairs k))
