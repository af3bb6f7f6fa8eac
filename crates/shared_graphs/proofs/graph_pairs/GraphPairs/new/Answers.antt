use Rattle.std.proofs.Common.{[], ◌∙◌, subst, arith}
use Rattle.auto_core.specs.Outcome.{At}
use Rattle.auto_laws.proofs.PlaceLemmas.{at_within}
use Rattle.shared_graphs.proofs.graph_pairs.GraphPairs.new.Goals as goal

pub returns : goal.returns
returns c = λ B S graphs same. record {
  covers = c.in_ok-new.ensures B.states S graphs;
  lassos = record { glimpses = λ k x is. let within = at_within [] k x (subst (λ l. At l k x) c.new-2.ensures.items is) in absurd (omega arith); room = c.in_ok-new-2.ensures ∙ same };
}
