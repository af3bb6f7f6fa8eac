use Rattle.std.proofs.Common.{ℕ, ◌≡◌, ◌<◌, ◌≤◌, List, length, slice_index_or, true, All, refl, ap, ◌∙◌, subst, rules, take_all}
use Rattle.cert_value.specs.declared.types.RankRow.{RankRow}
use Rattle.log_check.specs.Blocks.{IsRankRowBelow}
use Rattle.log_check.proofs.BlockLemmas.{all_more}
use Rattle.log_check.proofs.rankings.is_rank_block_below.Goals as goal

pub loop-row-preserved : goal.loop-row-preserved
loop-row-preserved c =
    let A = c.args.automaton.now in
    let k : ℕ = c.loop-row.row-index in
    let lt : k < length c.args.block.now.rows = subst (λ (l : List RankRow). k < length l) c.as_slice-row-items.ensures c.loop-row-test.true in
    let is : c.is_rank_row_below.result ≡ true = search rules in
    let below : IsRankRowBelow A.states A.labels c.row-item.result =
    subst (λ n. IsRankRowBelow A.states n c.row-item.result) c.labels-labels.ensures.count (subst (λ n. IsRankRowBelow n c.labels-labels.result c.row-item.result) c.states-states.ensures.count (c.is_rank_row_below.ensures.0 is)) in
    all_more (IsRankRowBelow A.states A.labels) c.args.block.now.rows k c.row-item.result c.row-item.result lt
    (c.row-item.is ∙ ap (λ (l : List RankRow). slice_index_or l k c.row-item.result) c.as_slice-row-items.ensures) c.loop-row.invariant below

pub returns : goal.returns
returns c =
    let A = c.args.automaton.now in
    let k : ℕ = c.loop-row.row-index in
    let all : length c.args.block.now.rows ≤ k = subst (λ (l : List RankRow). length l ≤ k) c.as_slice-row-items.ensures c.loop-row-test.false in (
      λ told. subst (All (IsRankRowBelow A.states A.labels)) (take_all k c.args.block.now.rows all) c.loop-row.invariant,
      λ below. refl,
    )
