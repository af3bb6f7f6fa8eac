use Rattle.std.proofs.Common.{ℕ, ◌<◌, length, subst, rules}
use Rattle.graph_rows.specs.Block.{block_graph}
use Rattle.shared_graphs.specs.Graphs.{block_at}
use Rattle.shared_graphs.specs.Glimpses.{IsGlimpse}
use Rattle.shared_graphs.proofs.GlimpseLemmas.{glimpse_set}
use Rattle.shared_graphs.proofs.graph_pairs.GraphPairs.mark.Goals as goal

pub returns-clause-told : goal.returns-clause-told
returns-clause-told c =
    let n : ℕ = c.args.second.now.states in
    let there : c.args.h < length c.args.graphs.now.items = search rules in
    let is : IsGlimpse c.args.second.now (block_graph n (block_at c.args.graphs.now.items c.args.h)) c.in_ok-glimpse.glimpse =
    subst (λ l. IsGlimpse c.args.second.now (block_graph n l) c.in_ok-glimpse.glimpse) c.block.ensures c.in_ok-glimpse.ensures.glimpse in
    record {
      glimpses = glimpse_set c.args.second.now c.args.graphs.now.items c.args.self.now.glimpses.items c.args.h c.in_ok-glimpse.glimpse there is c.requires.told.glimpses;
      room = c.glimpse_of.ensures.kept;
    }
