use Rattle.std.proofs.Common.{◌≡◌}
use Rattle.product_search.proofs.ArcLemmas.{IsRow}
use Rattle.product_search.proofs.arcs.Arcs.push_all.Given as goal

abbrev pub invariant-loop-t : goal.invariant-loop-t
invariant-loop-t l =
    IsRow l.first l.second l.pairs.keys l.initial.self.targets.items l.initial.self.letters.items l.from l.initial.t l.t l.self.targets.items l.self.letters.items
    × (l.self.starts.items ≡ l.initial.self.starts.items)
