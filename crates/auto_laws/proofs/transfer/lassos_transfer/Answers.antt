use Rattle.auto_laws.proofs.TransferLemmas.{transfer}
use Rattle.auto_laws.proofs.transfer.lassos_transfer.Goals as goal

pub returns : goal.returns
returns c = transfer
