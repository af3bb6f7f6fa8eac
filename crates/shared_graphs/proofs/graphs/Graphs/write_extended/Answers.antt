use Rattle.std.proofs.Common.{sym, subst}
use Rattle.graph_rows.specs.Block.{IsFormed}
use Rattle.shared_graphs.specs.GraphBlocks.{Blocks}
use Rattle.shared_graphs.specs.Graphs.{block_at}
use Rattle.shared_graphs.proofs.GraphsLemmas.{formed_there}
use Rattle.shared_graphs.proofs.graphs.Graphs.write_extended.Goals as goal

pub write_extension-requires-clause-within : goal.write_extension-requires-clause-within
write_extension-requires-clause-within c =
    formed_there c.args.second.now.states c.write_letter_block.new.self.graphs.items c.args.from c.requires.stock.1.some
    (subst (λ (b : Blocks). IsFormed c.args.second.now.states (block_at b.items c.args.from)) (sym c.write_letter_block.ensures.graphs) c.requires.formed)
