use Rattle.std.proofs.Common.{ℕ, ◌≡◌, ◌<◌, ◌≤◌, List, length, slice_index_or, true, All, refl, ap, ◌∙◌, subst, rules, take_all}
use Rattle.cert_value.specs.declared.types.Row.{Row}
use Rattle.log_check.specs.Blocks.{IsRowBelow}
use Rattle.log_check.proofs.BlockLemmas.{all_more}
use Rattle.log_check.proofs.blocks.is_block_below.Goals as goal

pub loop-row-preserved : goal.loop-row-preserved
loop-row-preserved c =
    let k : ℕ = c.loop-row.row-index in
    let lt : k < length c.args.block.now.rows = subst (λ (l : List Row). k < length l) c.as_slice-row-items.ensures c.loop-row-test.true in
    let is : c.is_row_below.result ≡ true = search rules in
    all_more (IsRowBelow c.args.states) c.args.block.now.rows k c.row-item.result c.row-item.result lt
    (c.row-item.is ∙ ap (λ (l : List Row). slice_index_or l k c.row-item.result) c.as_slice-row-items.ensures) c.loop-row.invariant (c.is_row_below.ensures.0 is)

pub returns : goal.returns
returns c =
    let k : ℕ = c.loop-row.row-index in
    let all : length c.args.block.now.rows ≤ k = subst (λ (l : List Row). length l ≤ k) c.as_slice-row-items.ensures c.loop-row-test.false in (
      λ told. subst (All (IsRowBelow c.args.states)) (take_all k c.args.block.now.rows all) c.loop-row.invariant,
      λ below. refl,
    )
