use Rattle.std.proofs.Common.{◌≡◌, ℕ, List, [], length, Option, sym, ap, ◌∙◌, subst}
use Rattle.std.specs.FinMap as map
use Rattle.std.specs.List.{refill}
use Rattle.std.specs.Option.{unwrap_or}
use Rattle.auto_core.specs.Game.{Holds}
use Rattle.graph_rows.specs.Block.{IsFormed, block_graph}
use Rattle.supergraph.specs.Minimal.{CoverEachOther}
use Rattle.shared_graphs.specs.Graphs.{IsMinimised}
use Rattle.shared_graphs.specs.GraphBlocks.{Blocks}
use Rattle.shared_graphs.specs.PoolShares.{handles, words_under}
use Rattle.shared_graphs.proofs.ShareLemmas.{last_live, fresh_written, written_over}
use Rattle.shared_graphs.proofs.graph_blocks.GraphBlocks.minimise.Goals as goal
use Rattle.shared_graphs.proofs.graph_blocks.GraphBlocks.minimise.Goals.{After-minimise}

pub block_mut-requires : goal.block_mut-requires
block_mut-requires c = last_live (handles c.self.inside.blocks.items) c.self.inside.pool.blocks c.self.inside.fresh.0 c.self.invariant.live

pub invariant_of-self : goal.invariant_of-self
invariant_of-self c = record { live = (fresh_written c.self.inside c.args.self.now _ c.self.view_is c.self.invariant).0; enough = c.self.invariant.enough }

pub returns-clause-pool : goal.returns-clause-pool
returns-clause-pool c = (fresh_written c.self.inside c.args.self.now _ c.self.view_is c.self.invariant).1

pub returns-clause-items : goal.returns-clause-items
returns-clause-items c = (fresh_written c.self.inside c.args.self.now _ c.self.view_is c.self.invariant).2

-- The words of the fresh block, before and after.
before : (c : goal.After-minimise) → c.block_mut.result.now ≡ c.args.self.now.fresh
before c = ap (λ (o : Option (List ℕ)). unwrap_or o []) c.block_mut.ensures.words ∙ ap (λ (b : Blocks). b.fresh) c.self.view_is

after : (c : goal.After-minimise) → words_under (map.insert c.self.inside.pool.blocks c.self.inside.fresh.0 (refill c.self.inside.pool.words (unwrap_or (map.get c.self.inside.pool.blocks c.self.inside.fresh.0) []) c.minimise.new.g)) c.self.inside.fresh.0 ≡ c.minimise.new.g
after c =
    let old : List ℕ = unwrap_or (map.get c.self.inside.pool.blocks c.self.inside.fresh.0) [] in
    let now : List ℕ = refill c.self.inside.pool.words old c.minimise.new.g in
    let size : length c.minimise.new.g ≡ c.self.inside.pool.words =
    c.minimise.ensures.formed.len ∙ sym c.requires.formed.len ∙ ap (λ (l : List ℕ). length l) (sym (before c)) ∙ c.block_mut.ensures.size in
    (fresh_written c.self.inside c.args.self.now now c.self.view_is c.self.invariant).3 ∙ written_over c.self.inside.pool.words old c.minimise.new.g size

pub returns-clause-formed : goal.returns-clause-formed
returns-clause-formed c = subst (λ (l : List ℕ). IsFormed c.args.order.now.size l) (sym (after (goal.at.returns-clause-formed c).After-minimise)) c.minimise.ensures.formed

pub returns-clause-minimised : goal.returns-clause-minimised
returns-clause-minimised c =
    let S : List (ℕ × ℕ) = c.args.order.now.pairs in
    let n : ℕ = c.args.order.now.size in
    let path = (goal.at.returns-clause-minimised c).After-minimise in
    let cover : CoverEachOther (Holds S) (block_graph n c.args.self.now.fresh) (block_graph n c.minimise.new.g) =
    subst (λ (l : List ℕ). CoverEachOther (Holds S) (block_graph n l) (block_graph n c.minimise.new.g)) (before path) c.minimise.ensures.cover in
    subst (λ (l : List ℕ). IsMinimised S (block_graph n l) (block_graph n c.args.self.now.fresh)) (sym (after path)) (record { cover = cover; minimal = c.minimise.ensures.minimal })
