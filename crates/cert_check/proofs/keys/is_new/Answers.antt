use Rattle.cert_check.proofs.KeyLemmas.{one_added}
use Rattle.cert_check.proofs.keys.is_new.Goals as goal

pub returns-in-Ok-clause-added : goal.returns-in-Ok-clause-added
returns-in-Ok-clause-added g c = one_added c.args.keys.now c.insert.new.self c.args.key c.in-Ok.ensures.updates.0
