use Rattle.std.proofs.Common.{◌≡◌, ℕ, ◌<◌, length, subst, rules}
use Rattle.graph_rows.specs.Block.{block_graph}
use Rattle.shared_graphs.specs.Graphs.{block_at}
use Rattle.shared_graphs.specs.Glimpses.{IsGlimpse}
use Rattle.shared_graphs.proofs.GlimpseLemmas.{glimpses_more}
use Rattle.shared_graphs.proofs.graph_pairs.GraphPairs.glimpse.Goals as goal

pub returns-clause-told : goal.returns-clause-told
returns-clause-told c =
    let n : ℕ = c.args.second.now.states in
    let next : c.args.h ≡ length c.args.self.now.glimpses.items = search rules in
    let there : c.args.h < length c.args.graphs.now.items = search rules in
    let is : IsGlimpse c.args.second.now (block_graph n (block_at c.args.graphs.now.items c.args.h)) c.unmarked-glimpse.result =
    subst (λ l. IsGlimpse c.args.second.now (block_graph n l) c.unmarked-glimpse.result) c.block.ensures c.unmarked-glimpse.ensures in
    record {
      glimpses = glimpses_more c.args.second.now c.args.graphs.now.items c.args.self.now.glimpses.items c.push.new.self.items c.unmarked-glimpse.result c.in_ok-push.ensures.items
          (subst (λ k. k < length c.args.graphs.now.items) next there)
          (subst (λ k. IsGlimpse c.args.second.now (block_graph n (block_at c.args.graphs.now.items k)) c.unmarked-glimpse.result) next is)
          c.requires.told.glimpses;
      room = c.requires.told.room;
    }
