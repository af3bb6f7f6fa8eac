use Rattle.ba_format.proofs.CountLemmas.{written_counts}
use Rattle.ba_format.proofs.laws.a_written_text_brings_one_state_more_at_most.Goals as goal

pub returns : goal.returns
returns c = written_counts
