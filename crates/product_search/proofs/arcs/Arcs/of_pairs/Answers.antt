use Rattle.std.proofs.Common.{◌++◌, ◌∷◌, [], ap, ◌∙◌}
use Rattle.product_search.proofs.ArcLemmas.{first_arcs}
use Rattle.product_search.proofs.arcs.Arcs.of_pairs.Goals as goal

pub loop-from-init : goal.loop-from-init
loop-from-init c =
    first_arcs c.args.first.now c.args.second.now c.args.pairs.now.keys c.push.new.self.items c.new.result.items c.new-2.result.items
    (c.in_ok-push.ensures.items ∙ ap (λ l. l ++ 0 ∷ []) c.new-starts.ensures.items) c.new.ensures.items c.new-2.ensures.items
