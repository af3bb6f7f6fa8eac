use Rattle.std.proofs.Common.{◌≡◌, ℕ, List, [], length, sym, ap, ◌∙◌, subst}
use Rattle.std.specs.FinMap as map
use Rattle.std.specs.List.{refill}
use Rattle.std.specs.Option.{unwrap_or}
use Rattle.auto_core.specs.Graph.{letter_graph}
use Rattle.shared_graphs.specs.Graphs.{AsTheyAre, IsBlockOf}
use Rattle.shared_graphs.specs.GraphBlocks.{Blocks}
use Rattle.shared_graphs.specs.PoolShares.{handles, words_under}
use Rattle.shared_graphs.proofs.ShareLemmas.{last_live, fresh_written, written_over}
use Rattle.shared_graphs.proofs.graph_blocks.GraphBlocks.write_letter.Goals as goal

pub block_mut-requires : goal.block_mut-requires
block_mut-requires c = last_live (handles c.self.inside.blocks.items) c.self.inside.pool.blocks c.self.inside.fresh.0 c.self.invariant.live

pub invariant_of-self : goal.invariant_of-self
invariant_of-self c = record { live = (fresh_written c.self.inside c.args.self.now _ c.self.view_is c.self.invariant).0; enough = c.self.invariant.enough }

pub returns-clause-pool : goal.returns-clause-pool
returns-clause-pool c = (fresh_written c.self.inside c.args.self.now _ c.self.view_is c.self.invariant).1

pub returns-clause-items : goal.returns-clause-items
returns-clause-items c = (fresh_written c.self.inside c.args.self.now _ c.self.view_is c.self.invariant).2

pub returns-clause-fresh : goal.returns-clause-fresh
returns-clause-fresh c =
    let old : List ℕ = unwrap_or (map.get c.self.inside.pool.blocks c.self.inside.fresh.0) [] in
    let now : List ℕ = refill c.self.inside.pool.words old c.letter.new.out in
    let written = fresh_written c.self.inside c.args.self.now now c.self.view_is c.self.invariant in
    let B = c.args.second.now in
    let size : length c.letter.new.out ≡ c.self.inside.pool.words = c.letter.ensures.formed.len ∙ sym c.requires ∙ ap (λ (b : Blocks). b.words) (sym c.self.view_is) in
    let is : words_under (map.insert c.self.inside.pool.blocks c.self.inside.fresh.0 now) c.self.inside.fresh.0 ≡ c.letter.new.out = written.3 ∙ written_over c.self.inside.pool.words old c.letter.new.out size in
    subst (λ (l : List ℕ). IsBlockOf B AsTheyAre (letter_graph B c.args.label) l) (sym is) (record { formed = c.letter.ensures.formed; stands = c.letter.ensures.graph })
