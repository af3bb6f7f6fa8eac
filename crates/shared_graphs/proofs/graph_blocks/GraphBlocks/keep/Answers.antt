use Rattle.std.proofs.Common.{rules, arith, length, ◌≡◌, ◌++◌, ◌∷◌, [], ℕ, List, map as each, ap, sym, subst, ◌∙◌}
use Rattle.std.proofs.lemmas.List.{length-append}
use Rattle.std.specs.Result.{IsOk}
use Rattle.graph_pool.specs.declared.pool.Handle.{Handle}
use Rattle.shared_graphs.specs.GraphBlocks.{Blocks}
use Rattle.shared_graphs.specs.PoolShares.{handles, all_but, AllLive, words_under}
use Rattle.shared_graphs.proofs.ShareLemmas.{free_taken, last_kept, handles_more}
use Rattle.shared_graphs.proofs.graph_blocks.GraphBlocks.keep.Goals as goal
use Rattle.shared_graphs.proofs.graph_blocks.GraphBlocks.keep.Goals.{After-push_reserved}

-- The handles of the graphs' blocks, the last of which was the fresh one.
now_held : (c : goal.After-push_reserved) → handles c.push_reserved.new.self.items ≡ handles c.self.inside.blocks.items ++ c.self.inside.fresh.0 ∷ []
now_held c =
    ap (λ (l : List Handle). handles l) (c.push_reserved.ensures.items ∙ ap (λ (l : List Handle). l ++ c.self.inside.fresh ∷ []) c.reserve.ensures.items)
    ∙ handles_more c.self.inside.blocks.items c.self.inside.fresh

-- The pool with one block more.
grown : (c : goal.After-push_reserved) → AllLive c.add.new.self.blocks ((handles c.self.inside.blocks.items ++ c.self.inside.fresh.0 ∷ []) ++ c.in_ok-next.next.0 ∷ [])
    × (all_but c.add.new.self.blocks ((handles c.self.inside.blocks.items ++ c.self.inside.fresh.0 ∷ []) ++ c.in_ok-next.next.0 ∷ []) ≡ all_but c.self.inside.pool.blocks (handles c.self.inside.blocks.items ++ c.self.inside.fresh.0 ∷ []))
    × (each (words_under c.add.new.self.blocks) (handles c.self.inside.blocks.items ++ c.self.inside.fresh.0 ∷ [])
    ≡ each (words_under c.self.inside.pool.blocks) (handles c.self.inside.blocks.items) ++ words_under c.self.inside.pool.blocks c.self.inside.fresh.0 ∷ [])
grown c =
    let added = c.in_ok-next.ensures.added in
    last_kept (handles c.self.inside.blocks.items) c.self.inside.pool.blocks c.self.inside.fresh.0 c.self.invariant.live c.add.new.self.blocks c.in_ok-next.next.0 added.0 added.1 added.3

pub invariant_of-self-2 : goal.invariant_of-self-2
invariant_of-self-2 c =
    let path = (goal.at.invariant_of-self-2 c).After-push_reserved in
    let enough = c.self.invariant.enough in
    let ok : IsOk c.add.result = search rules in
    let many = ap (λ (l : List Handle). length l) (c.push_reserved.ensures.items ∙ ap (λ (l : List Handle). l ++ c.self.inside.fresh ∷ []) c.reserve.ensures.items) ∙ length-append c.self.inside.blocks.items _ in
    record {
      live = subst (λ (l : List ℕ). AllLive c.add.new.self.blocks (l ++ c.in_ok-next.next.0 ∷ [])) (sym (now_held path)) (grown path).0;
      enough = omega (arith, free_taken _ _ (c.add.ensures.free ok));
    }

pub returns-clause-pool : goal.returns-clause-pool
returns-clause-pool c =
    let path = (goal.at.returns-clause-pool c).After-push_reserved in (
      c.in_ok-next.ensures.words ∙ ap (λ (b : Blocks). b.words) c.self.view_is,
      ap (λ (l : List ℕ). all_but c.add.new.self.blocks (l ++ c.in_ok-next.next.0 ∷ [])) (now_held path) ∙ (grown path).1 ∙ ap (λ (b : Blocks). b.rest) c.self.view_is,
      ap (λ (b : Blocks). b.free_before) c.self.view_is,
    )

pub returns-clause-kept : goal.returns-clause-kept
returns-clause-kept c =
    let path = (goal.at.returns-clause-kept c).After-push_reserved in
    ap (λ (l : List ℕ). each (words_under c.add.new.self.blocks) l) (now_held path) ∙ (grown path).2 ∙ ap (λ (b : Blocks). b.items ++ b.fresh ∷ []) c.self.view_is
