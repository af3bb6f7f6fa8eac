use Rattle.proof_check.proofs.ListLemmas.{delayed_keeps as law}
use Rattle.proof_check.proofs.laws.delayed_simulations_keep_the_rules.Goals as goal

pub returns : goal.returns
returns c = law
