use Rattle.reduce_loop.proofs.TellLemmas.{settled_text_tells as law}
use Rattle.reduce_loop.proofs.text_laws.a_settled_text_tells_the_automaton.Goals as goal

pub returns : goal.returns
returns c = law
