use Rattle.std.proofs.Common.{◌≡◌, ℕ, List, [], length, Option, sym, ap, ◌∙◌, subst}
use Rattle.std.specs.FinMap as map
use Rattle.std.specs.List.{refill}
use Rattle.std.specs.Option.{unwrap_or}
use Rattle.auto_core.specs.Automaton.{Automaton}
use Rattle.auto_core.specs.Graph.{SameGraph, extended}
use Rattle.graph_rows.specs.Block.{IsFormed, block_graph}
use Rattle.shared_graphs.specs.Graphs.{AsTheyAre, IsBlockOf, block_at}
use Rattle.shared_graphs.specs.GraphBlocks.{Blocks}
use Rattle.shared_graphs.specs.PoolShares.{words_under}
use Rattle.shared_graphs.proofs.ShareLemmas.{fresh_written, pair_lives, written_over}
use Rattle.shared_graphs.proofs.graph_blocks.GraphBlocks.write_extension.Goals as goal
use Rattle.shared_graphs.proofs.graph_blocks.GraphBlocks.write_extension.Goals.{After-pair-fresh}

pub pair-fresh-requires : goal.pair-fresh-requires
pair-fresh-requires c = let lives = pair_lives c.self.inside c.args.self.now c.args.from c.index.result.now c.self.view_is c.self.invariant c.requires.within c.index.ensures in record { apart = lives.0; kept = lives.1; fresh = lives.2 }

-- The words that are read are those of the graph.
kept_is : (c : goal.After-pair-fresh) → c.pair-fresh.result.0.now ≡ block_at c.args.self.now.items c.args.from
kept_is c = ap (λ (o : Option (List ℕ)). unwrap_or o []) c.pair-fresh.ensures.kept ∙ (pair_lives c.self.inside c.args.self.now c.args.from c.index.result.now c.self.view_is c.self.invariant c.requires.within c.index.ensures).3

pub extend_by-requires-clause-formed : goal.extend_by-requires-clause-formed
extend_by-requires-clause-formed c = subst (λ (l : List ℕ). IsFormed c.args.second.now.states l) (sym (kept_is (goal.at.extend_by-requires-clause-formed c).After-pair-fresh)) c.requires.formed

pub invariant_of-self : goal.invariant_of-self
invariant_of-self c = record { live = (fresh_written c.self.inside c.args.self.now _ c.self.view_is c.self.invariant).0; enough = c.self.invariant.enough }

pub returns-clause-pool : goal.returns-clause-pool
returns-clause-pool c = (fresh_written c.self.inside c.args.self.now _ c.self.view_is c.self.invariant).1

pub returns-clause-items : goal.returns-clause-items
returns-clause-items c = (fresh_written c.self.inside c.args.self.now _ c.self.view_is c.self.invariant).2

pub returns-clause-fresh : goal.returns-clause-fresh
returns-clause-fresh c =
    let old : List ℕ = unwrap_or (map.get c.self.inside.pool.blocks c.self.inside.fresh.0) [] in
    let now : List ℕ = refill c.self.inside.pool.words old c.extend_by.new.out in
    let written = fresh_written c.self.inside c.args.self.now now c.self.view_is c.self.invariant in
    let B : Automaton = c.args.second.now in
    let size : length c.extend_by.new.out ≡ c.self.inside.pool.words = c.extend_by.ensures.formed.len ∙ sym c.requires.words ∙ ap (λ (b : Blocks). b.words) (sym c.self.view_is) in
    let is : words_under (map.insert c.self.inside.pool.blocks c.self.inside.fresh.0 now) c.self.inside.fresh.0 ≡ c.extend_by.new.out = written.3 ∙ written_over c.self.inside.pool.words old c.extend_by.new.out size in
    let graph : SameGraph (block_graph B.states c.extend_by.new.out) (extended B (block_graph B.states (block_at c.args.self.now.items c.args.from)) c.args.label) =
    subst (λ (l : List ℕ). SameGraph (block_graph B.states c.extend_by.new.out) (extended B (block_graph B.states l) c.args.label)) (kept_is (goal.at.returns-clause-fresh c).After-pair-fresh) c.extend_by.ensures.graph in
    subst (IsBlockOf B AsTheyAre (extended B (block_graph B.states (block_at c.args.self.now.items c.args.from)) c.args.label)) (sym is) (record { formed = c.extend_by.ensures.formed; stands = graph })
