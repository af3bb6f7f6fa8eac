use Rattle.cert_check.proofs.RuleLemmas.{one_rule as law}
use Rattle.cert_check.proofs.laws.one_rule_breaks.Goals as goal

pub returns : goal.returns
returns c = law
