use Rattle.cert_check.proofs.RuleLemmas.{upgrade_alike}
use Rattle.cert_check.proofs.laws.upgrade_is_checked_alike.Goals as goal

pub returns : goal.returns
returns c = upgrade_alike
