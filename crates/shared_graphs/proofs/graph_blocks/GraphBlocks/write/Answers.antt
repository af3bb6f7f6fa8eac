use Rattle.std.proofs.Common.{ℕ, List, [], sym, ap, ◌∙◌}
use Rattle.std.specs.FinMap as map
use Rattle.std.specs.List.{refill}
use Rattle.std.specs.Option.{unwrap_or}
use Rattle.shared_graphs.specs.GraphBlocks.{Blocks}
use Rattle.shared_graphs.specs.PoolShares.{handles}
use Rattle.shared_graphs.proofs.ShareLemmas.{last_live, fresh_written, written_over}
use Rattle.shared_graphs.proofs.graph_blocks.GraphBlocks.write.Goals as goal

pub block_mut-requires : goal.block_mut-requires
block_mut-requires c = last_live (handles c.self.inside.blocks.items) c.self.inside.pool.blocks c.self.inside.fresh.0 c.self.invariant.live

pub invariant_of-self : goal.invariant_of-self
invariant_of-self c = record { live = (fresh_written c.self.inside c.args.self.now _ c.self.view_is c.self.invariant).0; enough = c.self.invariant.enough }

pub returns-clause-pool : goal.returns-clause-pool
returns-clause-pool c = (fresh_written c.self.inside c.args.self.now _ c.self.view_is c.self.invariant).1

pub returns-clause-items : goal.returns-clause-items
returns-clause-items c = (fresh_written c.self.inside c.args.self.now _ c.self.view_is c.self.invariant).2

pub returns-clause-fresh : goal.returns-clause-fresh
returns-clause-fresh c =
    let old : List ℕ = unwrap_or (map.get c.self.inside.pool.blocks c.self.inside.fresh.0) [] in
    let now : List ℕ = refill c.self.inside.pool.words old c.copy_from_slice.new.self in
    let written = fresh_written c.self.inside c.args.self.now now c.self.view_is c.self.invariant in
    written.3 ∙ ap (λ (l : List ℕ). refill c.self.inside.pool.words old l) c.copy_from_slice.ensures.after
    ∙ written_over c.self.inside.pool.words old c.args.words.now (c.requires ∙ ap (λ (b : Blocks). b.words) (sym c.self.view_is))
