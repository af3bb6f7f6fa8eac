use Rattle.product_search.proofs.TrimLemmas.{trimmed_reach_goals as law}
use Rattle.product_search.proofs.laws.trimmed_reach_goals.Goals as goal

pub returns : goal.returns
returns c = law
