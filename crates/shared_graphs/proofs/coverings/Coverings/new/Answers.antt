use Rattle.std.proofs.Common.{[], subst, arith}
use Rattle.auto_core.specs.Outcome.{At}
use Rattle.auto_laws.proofs.PlaceLemmas.{at_within}
use Rattle.shared_graphs.specs.GraphPairs.{FitsCovering}
use Rattle.shared_graphs.proofs.GraphsLemmas.{told_none}
use Rattle.shared_graphs.proofs.coverings.Coverings.new.Goals as goal

pub returns : goal.returns
returns c = λ n S graphs. record {
  prints = λ k print is. let within = at_within [] k print (subst (λ l. At l k print) c.new.ensures.items is) in absurd (omega arith);
  told = told_none (FitsCovering n S graphs) c.in_ok-new.field-0.told.items c.in_ok-new.ensures;
}
