use Rattle.ba_format.proofs.CountLemmas.{written_is_read}
use Rattle.ba_format.proofs.laws.a_written_text_reads_where_there_is_room.Goals as goal

pub returns : goal.returns
returns c = written_is_read
