use Rattle.std.proofs.Common.{◌*◌}
use Rattle.bit_rel.proofs.TableLemmas.{no_pairs}
use Rattle.bit_rel.proofs.relation.Rel.empty.Goals as goal

pub returns : goal.returns
returns c =
    let n = c.args.n in
    let w = c.words_for-width.result in
    no_pairs c.in_ok-table.table.items (n * w) w n (c.in_ok-table.ensures.items_if_clones_equal (λ y e. e))
