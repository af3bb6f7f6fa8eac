use Rattle.auto_laws.proofs.PairOutcomeLemmas.{closed_list_is_closed_pairs as law}
use Rattle.auto_laws.proofs.pairs.closed_list_is_closed_pairs.Goals as goal

pub returns : goal.returns
returns c = law
