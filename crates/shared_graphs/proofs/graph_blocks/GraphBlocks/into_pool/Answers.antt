use Rattle.std.proofs.Common.{rules, arith, ◌≡◌, ◌++◌, ◌∷◌, [], ℕ, List, length, ap, sym, subst, ◌∙◌}
use Rattle.std.proofs.lemmas.List.{length-append, length-map, nil_from_length}
use Rattle.graph_pool.specs.declared.pool.Handle.{Handle}
use Rattle.shared_graphs.specs.GraphBlocks.{Blocks}
use Rattle.shared_graphs.specs.PoolShares.{handles, all_but, AllLive, words_under}
use Rattle.shared_graphs.proofs.ShareLemmas.{BlockMap, handles_more, last_given, last_live}
use Rattle.shared_graphs.proofs.graph_blocks.GraphBlocks.into_pool.Goals as goal
use Rattle.shared_graphs.proofs.graph_blocks.GraphBlocks.into_pool.Goals.{In-Some}

pub give_back-requires : goal.give_back-requires
give_back-requires c = last_live (handles c.self.inside.blocks.items) c.self.inside.pool.blocks c.self.inside.fresh.0 c.self.invariant.live

pub loop-block-init : goal.loop-block-init
loop-block-init c =
    let given = last_given (handles c.self.inside.blocks.items) c.self.inside.pool.blocks c.self.inside.fresh.0 c.self.invariant.live in
    let many = length-map c.self.inside.blocks.items (λ (h : Handle). h.0) in
    let more = length-map (handles c.self.inside.blocks.items) (words_under c.self.inside.pool.blocks) in
    let items = ap (λ (b : Blocks). length b.items) c.self.view_is in
    let before = ap (λ (b : Blocks). b.free_before) c.self.view_is in
    let enough = c.self.invariant.enough in
    let free = c.give_back.ensures.free in
    record {
      live = subst (λ (m : BlockMap). AllLive m (handles c.self.inside.blocks.items)) (sym c.give_back.ensures.blocks) given.0;
      rest = ap (λ (m : BlockMap). all_but m (handles c.self.inside.blocks.items)) c.give_back.ensures.blocks ∙ given.1 ∙ ap (λ (b : Blocks). b.rest) c.self.view_is;
      words = c.give_back.ensures.words ∙ ap (λ (b : Blocks). b.words) c.self.view_is;
      free = omega arith;
      no_fewer = omega arith;
    }

-- The handle that is taken is the last.
taken : (c : goal.In-Some) → handles c.loop-block.blocks.items ≡ handles c.pop.new.self.items ++ c.in-Some.block.0 ∷ []
taken c = ap (λ (l : List Handle). handles l) c.in-Some.ensures.items ∙ handles_more c.pop.new.self.items c.in-Some.block

pub give_back-requires-in-Some : goal.give_back-requires-in-Some
give_back-requires-in-Some c =
    last_live (handles c.pop.new.self.items) c.loop-block.pool.blocks c.in-Some.block.0
    (subst (λ (l : List ℕ). AllLive c.loop-block.pool.blocks l) (taken (goal.at.give_back-requires-in-Some c).In-Some) c.loop-block.invariant.live)

pub loop-block-preserved : goal.loop-block-preserved
loop-block-preserved c =
    let list = taken (goal.at.loop-block-preserved c).In-Some in
    let given = last_given (handles c.pop.new.self.items) c.loop-block.pool.blocks c.in-Some.block.0 (subst (λ (l : List ℕ). AllLive c.loop-block.pool.blocks l) list c.loop-block.invariant.live) in
    let was = c.loop-block.invariant.free in
    let before = c.loop-block.invariant.no_fewer in
    let more = c.give_back-in-Some.ensures.free in
    let many = ap (λ (l : List Handle). length l) c.in-Some.ensures.items ∙ length-append c.pop.new.self.items (c.in-Some.block ∷ []) in
    record {
      live = subst (λ (m : BlockMap). AllLive m (handles c.pop.new.self.items)) (sym c.give_back-in-Some.ensures.blocks) given.0;
      rest = ap (λ (m : BlockMap). all_but m (handles c.pop.new.self.items)) c.give_back-in-Some.ensures.blocks ∙ given.1 ∙ ap (λ (l : List ℕ). all_but c.loop-block.pool.blocks l) (sym list) ∙ c.loop-block.invariant.rest;
      words = c.give_back-in-Some.ensures.words ∙ c.loop-block.invariant.words;
      free = omega arith;
      no_fewer = omega arith;
    }

-- No block is left.
none_left : (c : goal.After-drop-blocks) → c.loop-block.blocks.items ≡ []
none_left c = let empty : length c.loop-block.blocks.items ≡ 0 = search rules in nil_from_length c.loop-block.blocks.items empty

pub returns-clause-blocks : goal.returns-clause-blocks
returns-clause-blocks c = ap (λ (l : List Handle). all_but c.loop-block.pool.blocks (handles l)) (sym (none_left c)) ∙ c.loop-block.invariant.rest

pub returns-clause-free : goal.returns-clause-free
returns-clause-free c =
    let was = c.loop-block.invariant.free in
    let none = ap (λ (l : List Handle). length l) (none_left c) in
    omega arith

pub returns-clause-no_fewer : goal.returns-clause-no_fewer
returns-clause-no_fewer c =
    let was = c.loop-block.invariant.no_fewer in
    let none = ap (λ (l : List Handle). length l) (none_left c) in
    omega arith
