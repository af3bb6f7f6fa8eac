use Rattle.auto_laws.proofs.TransferLemmas.{delayed_transfer as accepted}
use Rattle.auto_laws.proofs.transfer.delayed_transfer.Goals as goal

pub returns : goal.returns
returns c = accepted
