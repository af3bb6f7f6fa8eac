use Rattle.std.proofs.Common.{ℕ, ◌<◌, ◌↔◌, List, length, subst}
use Rattle.std.specs.Prelude.{IsTrue}
use Rattle.auto_core.specs.Game.{Holds}
use Rattle.auto_core.specs.Graph.{Covers}
use Rattle.graph_rows.specs.Block.{block_graph}
use Rattle.shared_graphs.specs.declared.memo.Answer.TheVariants.{Truth}
use Rattle.shared_graphs.specs.Graphs.{block_at}
use Rattle.shared_graphs.specs.Memo.{HasAnswer}
use Rattle.shared_graphs.specs.GraphPairs.{FitsCovering}
use Rattle.shared_graphs.proofs.GraphsLemmas.{told_found, told_more}
use Rattle.shared_graphs.proofs.coverings.covers.Goals as goal

pub returns-in-Some-Truth-clause-covers : goal.returns-in-Some-Truth-clause-covers
returns-in-Some-Truth-clause-covers c =
    (told_found (FitsCovering c.args.order.now.size c.args.order.now.pairs c.args.graphs.now.items) c.args.memo.now.told.items c.args.g c.args.h (Truth c.in-Some-Truth.holds) c.requires.told
    (subst (HasAnswer c.args.memo.now.told.items c.args.g c.args.h) c.in-Some-Truth.field-0-is c.in-Some-Truth.ensures)).2

pub returns-then-are_there-clause-told : goal.returns-then-are_there-clause-told
returns-then-are_there-clause-told c =
    let n : ℕ = c.args.order.now.size in
    let S : List (ℕ × ℕ) = c.args.order.now.pairs in
    let graphs : List (List ℕ) = c.args.graphs.now.items in
    let there : (c.args.g < length graphs) × (c.args.h < length graphs) = c.are_there.ensures c.if-are_there.true in
    let fits : IsTrue c.covers-holds.result ↔ Covers (Holds S) (block_graph n (block_at graphs c.args.g)) (block_graph n (block_at graphs c.args.h)) =
    subst (λ l. IsTrue c.covers-holds.result ↔ Covers (Holds S) (block_graph n l) (block_graph n (block_at graphs c.args.h))) c.block.ensures
    (subst (λ l. IsTrue c.covers-holds.result ↔ Covers (Holds S) (block_graph n c.block.result.now) (block_graph n l)) c.block-2.ensures c.covers-holds.ensures) in
    told_more (FitsCovering n S graphs) c.args.memo.now.told.items c.note.new.self.told.items c.args.g c.args.h (Truth c.covers-holds.result) c.requires.told (there.0, there.1, fits) c.note.ensures
