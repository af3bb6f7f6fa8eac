use Rattle.auto_laws.proofs.PairOutcomeLemmas.{closed_list_includes_words as law}
use Rattle.auto_laws.proofs.pairs.closed_list_includes_words.Goals as goal

pub returns : goal.returns
returns c = law
