use Rattle.auto_laws.proofs.PairOutcomeLemmas.{limit_lists_pairs as law}
use Rattle.auto_laws.proofs.pairs.limit_lists_pairs.Goals as goal

pub returns : goal.returns
returns c = law
