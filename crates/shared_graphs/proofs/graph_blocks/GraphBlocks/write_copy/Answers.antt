use Rattle.std.proofs.Common.{◌≡◌, ℕ, List, [], Option, ap, ◌∙◌}
use Rattle.std.specs.FinMap as map
use Rattle.std.specs.List.{refill}
use Rattle.std.specs.Option.{unwrap_or}
use Rattle.shared_graphs.specs.Graphs.{block_at}
use Rattle.shared_graphs.proofs.ShareLemmas.{fresh_written, pair_lives, written_over}
use Rattle.shared_graphs.proofs.graph_blocks.GraphBlocks.write_copy.Goals as goal
use Rattle.shared_graphs.proofs.graph_blocks.GraphBlocks.write_copy.Goals.{After-pair-fresh}

pub pair-fresh-requires : goal.pair-fresh-requires
pair-fresh-requires c = let lives = pair_lives c.self.inside c.args.self.now c.args.number c.index.result.now c.self.view_is c.self.invariant c.requires c.index.ensures in record { apart = lives.0; kept = lives.1; fresh = lives.2 }

-- The words that are read are those of the graph.
kept_is : (c : goal.After-pair-fresh) → c.pair-fresh.result.0.now ≡ block_at c.args.self.now.items c.args.number
kept_is c = ap (λ (o : Option (List ℕ)). unwrap_or o []) c.pair-fresh.ensures.kept ∙ (pair_lives c.self.inside c.args.self.now c.args.number c.index.result.now c.self.view_is c.self.invariant c.requires c.index.ensures).3

pub invariant_of-self : goal.invariant_of-self
invariant_of-self c = record { live = (fresh_written c.self.inside c.args.self.now _ c.self.view_is c.self.invariant).0; enough = c.self.invariant.enough }

pub returns-clause-pool : goal.returns-clause-pool
returns-clause-pool c = (fresh_written c.self.inside c.args.self.now _ c.self.view_is c.self.invariant).1

pub returns-clause-items : goal.returns-clause-items
returns-clause-items c = (fresh_written c.self.inside c.args.self.now _ c.self.view_is c.self.invariant).2

pub returns-clause-fresh : goal.returns-clause-fresh
returns-clause-fresh c =
    let old : List ℕ = unwrap_or (map.get c.self.inside.pool.blocks c.self.inside.fresh.0) [] in
    let now : List ℕ = refill c.self.inside.pool.words old c.copy_from_slice.new.self in
    let written = fresh_written c.self.inside c.args.self.now now c.self.view_is c.self.invariant in
    let kept = kept_is (goal.at.returns-clause-fresh c).After-pair-fresh in
    written.3 ∙ ap (λ (l : List ℕ). refill c.self.inside.pool.words old l) c.copy_from_slice.ensures.after
    ∙ written_over c.self.inside.pool.words old c.pair-fresh.result.0.now c.pair-fresh.ensures.kept_size ∙ kept
