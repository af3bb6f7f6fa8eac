use Rattle.product_search.specs.Arcs.{AreArcs}
use Rattle.product_search.proofs.arcs.Arcs.of_pairs.Given as goal

abbrev pub invariant-loop-from : goal.invariant-loop-from
invariant-loop-from l = AreArcs l.first l.second l.pairs.keys l.from l.arcs.starts.items l.arcs.targets.items l.arcs.letters.items
