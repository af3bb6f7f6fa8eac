use Rattle.ba_format.proofs.LawLemmas.{joins_as_one}
use Rattle.ba_format.proofs.laws.two_automata_join_as_one.Goals as goal

pub returns : goal.returns
returns c = joins_as_one
