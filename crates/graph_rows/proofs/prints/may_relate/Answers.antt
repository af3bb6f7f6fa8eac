use Rattle.std.proofs.Common.{◌≡◌, ℕ, ◌≤◌, List, length, slice_index_or, subst, arith}
use Rattle.auto_core.specs.Rows.{HasBit}
use Rattle.graph_rows.proofs.PrintLemmas.{one_word}
use Rattle.graph_rows.proofs.TurnLemmas.{no_other_bit}
use Rattle.graph_rows.proofs.prints.may_relate.Goals as goal

pub returns : goal.returns
returns c = λ alone u rel.
    let row : List ℕ = c.row.result.now in
    let few : c.args.order.now.size ≤ 64 = c.requires.few in
    let len : length row ≡ 1 = omega (arith, c.row.ensures.len, c.requires.is_state) in
    no_other_bit (slice_index_or row 0 0) c.args.q alone u (subst (λ l. HasBit l u) (one_word row len) ((c.row.ensures.bits u).1 rel))
