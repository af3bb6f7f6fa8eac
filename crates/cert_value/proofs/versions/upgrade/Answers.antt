use Rattle.cert_value.proofs.UpgradeLemmas.{text_up}
use Rattle.cert_value.proofs.versions.upgrade.Goals as goal

pub returns-clause-formed : goal.returns-clause-formed
returns-clause-formed c w = text_up c.args.cert w
