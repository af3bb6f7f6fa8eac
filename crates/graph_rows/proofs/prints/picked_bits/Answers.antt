use Rattle.std.proofs.Common.{List, ℕ, slice_index_or}
use Rattle.graph_rows.proofs.PrintLemmas.{one_word}
use Rattle.graph_rows.proofs.prints.picked_bits.Goals as goal

pub returns : goal.returns
returns c =
    let own : List ℕ = c.mark_picked.new.own in
    let answered : List ℕ = c.mark_picked.new.answered in
    record {
      own = c.mark_picked.ensures.own (slice_index_or own 0 0) (one_word own c.mark_picked.auto.own);
      answered = c.mark_picked.ensures.answered (slice_index_or answered 0 0) (one_word answered c.mark_picked.auto.answered);
    }
