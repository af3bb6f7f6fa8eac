use Rattle.auto_laws.proofs.TransferLemmas.{transfer_words}
use Rattle.auto_laws.proofs.transfer.words_transfer.Goals as goal

pub returns : goal.returns
returns c = transfer_words
