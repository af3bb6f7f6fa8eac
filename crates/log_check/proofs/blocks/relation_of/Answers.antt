use Rattle.std.proofs.Common.{ℕ, ◌≡◌, ◌+◌, ◌++◌, ◌<◌, ◌≤◌, [], List, length, drop, slice_index_or, ap, ◌∙◌, subst, sym}
use Rattle.std.specs.List.{flat_map}
use Rattle.std.proofs.lemmas.List.{drop_all}
use Rattle.cert_value.specs.declared.types.Row.{Row}
use Rattle.log_check.specs.Blocks.{pairs_of_row, pairs_of}
use Rattle.log_check.proofs.BlockLemmas.{completes_more, completes_all, rows_left, held_from_none}
use Rattle.log_check.proofs.blocks.relation_of.Goals as goal

pub loop-row-preserved : goal.loop-row-preserved
loop-row-preserved c =
    let k : ℕ = c.loop-row.row-index in
    let rows = c.args.block.now.rows in
    let row = c.row-item.result in
    let lt : k < length rows = subst (λ (l : List Row). k < length l) c.as_slice-row-items.ensures c.loop-row-test.true in
    let is : row ≡ slice_index_or rows k row = c.row-item.is ∙ ap (λ (l : List Row). slice_index_or l k row) c.as_slice-row-items.ensures in record {
      size = c.add_row.ensures.size ∙ c.loop-row.invariant.size;
      rest = completes_more [] c.loop-row.rel.pairs c.add_row.new.rel.pairs (pairs_of_row row) (flat_map pairs_of_row (drop (k + 1) rows)) (flat_map pairs_of_row (drop k rows)) (pairs_of c.args.block.now)
          (rows_left rows k row lt ∙ ap (λ (r : Row). pairs_of_row r ++ flat_map pairs_of_row (drop (k + 1) rows)) (sym is))
          (record { each = c.add_row.ensures.pairs }) c.loop-row.invariant.rest;
    }

pub returns : goal.returns
returns c =
    let k : ℕ = c.loop-row.row-index in
    let rows = c.args.block.now.rows in
    let all : length rows ≤ k = subst (λ (l : List Row). length l ≤ k) c.as_slice-row-items.ensures c.loop-row-test.false in
    record {
      size = c.loop-row.invariant.size;
      pairs = held_from_none c.loop-row.rel.pairs (pairs_of c.args.block.now)
          (completes_all [] c.loop-row.rel.pairs (flat_map pairs_of_row (drop k rows)) (pairs_of c.args.block.now) (ap (flat_map pairs_of_row) (drop_all k rows all)) c.loop-row.invariant.rest);
    }
