use Rattle.std.proofs.Common.{ℕ}
use Rattle.auto_core.specs.Graph.{letter_graph}
use Rattle.shared_graphs.specs.Graphs.{FitsLetter, IsStock, kept_under}
use Rattle.shared_graphs.specs.declared.memo.Answer.TheVariants.{Number}
use Rattle.shared_graphs.specs.declared.graphs.Graphs.{Graphs}
use Rattle.shared_graphs.proofs.GraphsLemmas.{graph_numbered, stock_numbered, told_more}
use Rattle.shared_graphs.proofs.graphs.Graphs.take_letter.Goals as goal

pub returns-clause-is : goal.returns-clause-is
returns-clause-is c = λ B keeping block.
    graph_numbered B keeping (letter_graph B c.args.label) c.args.self.now.graphs.fresh c.args.self.now c.number_of_fresh.new.self c.in_ok-number.number c.in_ok-number.ensures.number block

pub returns-clause-stock : goal.returns-clause-stock
returns-clause-stock c = λ B keeping stock block.
    let old : Graphs = c.args.self.now in
    let now : Graphs = c.number_of_fresh.new.self in
    let k : ℕ = c.in_ok-number.number in
    let still : IsStock B keeping now = stock_numbered B keeping old now old.graphs.fresh k stock c.number_of_fresh.ensures.pool c.in_ok-number.ensures.number in
    record {
      some = still.some;
      size = still.size;
      letter_block = still.letter_block;
      letters = told_more (FitsLetter B keeping now.graphs.items) now.letters.told.items c.note.new.self.told.items c.args.under c.args.label (Number k) still.letters
          (graph_numbered B (kept_under keeping c.args.under) (letter_graph B c.args.label) old.graphs.fresh old now k c.in_ok-number.ensures.number block) c.note.ensures;
      steps = still.steps;
    }
