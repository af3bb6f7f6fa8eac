use Rattle.std.proofs.Common.{rules, arith, ap, ◌∙◌}
use Rattle.std.specs.Result.{IsOk}
use Rattle.graph_pool.specs.PoolContents.{PoolContents}
use Rattle.shared_graphs.proofs.ShareLemmas.{first_taken, free_taken}
use Rattle.shared_graphs.proofs.graph_blocks.GraphBlocks.new.Goals as goal

pub invariant_of-result : goal.invariant_of-result
invariant_of-result c =
    let added = c.in_ok-fresh.ensures.added in
    let free = ap (λ (p : PoolContents). p.free) c.swap.ensures.x_after in
    let ok : IsOk c.add.result = search rules in
    record {
      live = (first_taken c.new.result.items c.args.pool.now.blocks c.swap.new.x.blocks c.in_ok-fresh.fresh.0 added.0 c.new.ensures.items added.1 (ap (λ (p : PoolContents). p.blocks) c.swap.ensures.x_after ∙ added.3)).0;
      enough = omega (arith, free_taken _ _ (c.add.ensures.free ok));
    }

pub returns-clause-rest : goal.returns-clause-rest
returns-clause-rest c =
    let added = c.in_ok-fresh.ensures.added in
    (first_taken c.new.result.items c.args.pool.now.blocks c.swap.new.x.blocks c.in_ok-fresh.fresh.0 added.0 c.new.ensures.items added.1 (ap (λ (p : PoolContents). p.blocks) c.swap.ensures.x_after ∙ added.3)).1
