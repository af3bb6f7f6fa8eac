use Rattle.std.proofs.Common.{arith, refl, Bool, ◌≡◌, ℕ, List, [], length, ap, ◌∙◌}
use Rattle.std.specs.FinMap as map
use Rattle.std.proofs.lemmas.List.Elements.{All-nil, All-same}
use Rattle.graph_pool.specs.Backing.{live_blocks}
use Rattle.graph_pool.proofs.LiveBlocks.{no_blocks}
use Rattle.std.specs.FinMap.{len-empty}
use Rattle.std.specs.Ordering.{nat_cmp}
use Rattle.graph_pool.proofs.pool.Pool.new.Goals as goal

pub returns-clause-blocks : goal.returns-clause-blocks
returns-clause-blocks c = ap (λ (l : List Bool). live_blocks l c.new.result.blocks) c.new-2.ensures.items ∙ no_blocks c.new.result.blocks

pub invariant_of-result : goal.invariant_of-result
invariant_of-result c =
    let whole : length c.new.result.blocks ≡ 0 = ap (λ (l : List (List ℕ)). length l) c.new.ensures.blocks in
    let marks : length c.new-2.result.items ≡ 0 = ap (λ (l : List Bool). length l) c.new-2.ensures.items in
    let none : map.len (live_blocks c.new-2.result.items c.new.result.blocks) ≡ 0 =
    ap (λ (m : map.FinMap nat_cmp (List ℕ)). map.len m) (ap (λ (l : List Bool). live_blocks l c.new.result.blocks) c.new-2.ensures.items ∙ no_blocks c.new.result.blocks) ∙ len-empty nat_cmp (List ℕ) in
    let size = c.new.ensures.size in
    let positive = c.requires in
    record {
      some = omega arith;
      even = All-same (λ ws. length ws ≡ c.new.result.size) c.new.result.blocks [] c.new.ensures.blocks (All-nil (λ ws. length ws ≡ c.new.result.size));
      used = omega arith;
      roomy = omega arith;
      few = omega arith;
      chunked = omega arith;
      back = [];
      chain = refl;
      free = omega arith;
      total = omega arith;
      lives = omega arith;
    }
