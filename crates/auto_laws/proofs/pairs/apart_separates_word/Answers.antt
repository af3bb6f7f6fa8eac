use Rattle.auto_laws.proofs.PairOutcomeLemmas.{apart_separates_word as law}
use Rattle.auto_laws.proofs.pairs.apart_separates_word.Goals as goal

pub returns : goal.returns
returns c = law
