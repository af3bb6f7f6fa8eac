use Rattle.ba_format.proofs.LabelLemmas.{labels_fit}
use Rattle.ba_format.proofs.laws.labels_of_a_text_can_be_written.Goals as goal

pub returns : goal.returns
returns c = labels_fit
