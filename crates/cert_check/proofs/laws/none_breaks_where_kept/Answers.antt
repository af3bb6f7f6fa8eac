use Rattle.cert_check.proofs.RuleLemmas.{none_kept as law}
use Rattle.cert_check.proofs.laws.none_breaks_where_kept.Goals as goal

pub returns : goal.returns
returns c = law
