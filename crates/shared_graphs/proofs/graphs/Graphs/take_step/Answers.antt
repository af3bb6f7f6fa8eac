use Rattle.std.proofs.Common.{◌<◌, ℕ, Vec, Global, length, sym, ◌∙◌, ap, subst, arith}
use Rattle.auto_core.specs.Graph.{extended}
use Rattle.graph_rows.specs.Block.{block_graph}
use Rattle.shared_graphs.specs.GraphBlocks.{Blocks}
use Rattle.shared_graphs.specs.Memo.{AllTold}
use Rattle.shared_graphs.specs.Graphs.{FitsLetter, FitsStep, HasGrown, HasNumber, IsGraphOf, IsStock, block_at}
use Rattle.shared_graphs.specs.declared.graphs.Graphs.{Graphs}
use Rattle.shared_graphs.specs.declared.memo.Memo.{Memo}
use Rattle.shared_graphs.proofs.GraphsLemmas.{formed_there, graph_numbered, step_more, stock_numbered}
use Rattle.shared_graphs.proofs.graphs.Graphs.take_step.Goals as goal

pub returns-clause-is : goal.returns-clause-is
returns-clause-is c = λ B keeping block.
    let old : Graphs = c.args.self.now in
    let graph = extended B (block_graph B.states (block_at old.graphs.items c.args.from)) c.args.label in
    subst (λ (b : Blocks). IsGraphOf B keeping graph b.items c.in_ok-number.number) (sym c.make_room.ensures.graphs)
    (graph_numbered B keeping graph old.graphs.fresh old c.number_of_fresh.new.self c.in_ok-number.number c.in_ok-number.ensures.number block)

pub returns-clause-grown : goal.returns-clause-grown
returns-clause-grown c = subst (λ (b : Blocks). HasGrown c.args.self.now.graphs.items b.items) (sym c.make_room.ensures.graphs) c.in_ok-number.ensures.number.grown

pub returns-clause-stock : goal.returns-clause-stock
returns-clause-stock c = λ B keeping stock formed block.
    let old : Graphs = c.args.self.now in
    let now : Graphs = c.number_of_fresh.new.self in
    let from : ℕ = c.args.from in
    let k : ℕ = c.in_ok-number.number in
    let has : HasNumber old.graphs.fresh old now k = c.in_ok-number.ensures.number in
    let still : IsStock B keeping now = stock_numbered B keeping old now old.graphs.fresh k stock c.number_of_fresh.ensures.pool has in
    let there : from < length old.graphs.items = formed_there B.states old.graphs.items from stock.some formed in
    let size = has.grown.size in
    let graph : IsGraphOf B keeping (extended B (block_graph B.states (block_at now.graphs.items from)) c.args.label) now.graphs.items k =
    subst (λ l. IsGraphOf B keeping (extended B (block_graph B.states l) c.args.label) now.graphs.items k) (sym (has.grown.same from there))
    (graph_numbered B keeping (extended B (block_graph B.states (block_at old.graphs.items from)) c.args.label) old.graphs.fresh old now k has block) in
    let steps : AllTold (FitsStep B keeping now.graphs.items) c.note.new.self.told.items =
    step_more B keeping now from c.args.label k c.make_room.new.self.steps.told.items c.note.new.self.told.items still (omega arith) graph c.in_ok-make_room.ensures.steps c.note.ensures in
    let blocks = c.make_room.ensures.graphs in
    record {
      some = still.some;
      size = ap (λ (b : Blocks). b.words) blocks ∙ still.size;
      letter_block = ap (λ (v : Vec ℕ Global). length v.items) c.make_room.ensures.letter_block ∙ still.letter_block ∙ ap (λ (b : Blocks). b.words) (sym blocks);
      letters = subst (λ (b : Blocks). AllTold (FitsLetter B keeping b.items) c.make_room.new.self.letters.told.items) (sym blocks)
          (subst (λ (m : Memo). AllTold (FitsLetter B keeping now.graphs.items) m.told.items) (sym c.make_room.ensures.letters) still.letters);
      steps = subst (λ (b : Blocks). AllTold (FitsStep B keeping b.items) c.note.new.self.told.items) (sym blocks) steps;
    }
