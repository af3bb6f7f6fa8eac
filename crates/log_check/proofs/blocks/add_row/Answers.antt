use Rattle.std.proofs.Common.{ℕ, ◌≡◌, ◌+◌, ◌++◌, ◌<◌, ◌≤◌, List, length, drop, slice_index_or, sym, ap, ◌∙◌, subst}
use Rattle.std.proofs.lemmas.List.{drop_all}
use Rattle.cert_value.specs.declared.types.Run.{Run}
use Rattle.cert_value.specs.Text.{run_numbers, numbers_of}
use Rattle.log_check.specs.Blocks.{pairs_with, pairs_of_row}
use Rattle.log_check.proofs.BlockLemmas.{HasMore, completes_more, completes_all, runs_left}
use Rattle.log_check.proofs.blocks.add_row.Goals as goal

pub loop-run-preserved : goal.loop-run-preserved
loop-run-preserved c =
    let k : ℕ = c.loop-run.run-index in
    let row = c.args.row.now in
    let none : Run = record { first = 0; last = 0 } in
    let lt : k < length row.runs = subst (λ (l : List Run). k < length l) c.as_slice-run-items.ensures c.loop-run-test.true in
    let is : slice_index_or c.as_slice-run-items.result.now k none ≡ slice_index_or row.runs k none = ap (λ (l : List Run). slice_index_or l k none) c.as_slice-run-items.ensures in record {
      size = c.add_run.ensures.size ∙ c.loop-run.invariant.size;
      rest = completes_more c.args.rel.now.pairs c.loop-run.rel.pairs c.add_run.new.rel.pairs (pairs_with row.left (run_numbers (slice_index_or c.as_slice-run-items.result.now k none)))
          (pairs_with row.left (numbers_of (drop (k + 1) row.runs))) (pairs_with row.left (numbers_of (drop k row.runs))) (pairs_of_row row)
          (subst (λ (r : Run). pairs_with row.left (numbers_of (drop k row.runs)) ≡ pairs_with row.left (run_numbers r) ++ pairs_with row.left (numbers_of (drop (k + 1) row.runs))) (sym is) (runs_left row.left row.runs k none lt))
          (record { each = c.add_run.ensures.pairs }) c.loop-run.invariant.rest;
    }

pub returns-clause-pairs : goal.returns-clause-pairs
returns-clause-pairs c =
    let k : ℕ = c.loop-run.run-index in
    let row = c.args.row.now in
    let all : length row.runs ≤ k = subst (λ (l : List Run). length l ≤ k) c.as_slice-run-items.ensures c.loop-run-test.false in
    let has : HasMore c.args.rel.now.pairs c.loop-run.rel.pairs (pairs_of_row row) =
    completes_all c.args.rel.now.pairs c.loop-run.rel.pairs (pairs_with row.left (numbers_of (drop k row.runs))) (pairs_of_row row)
    (ap (λ (l : List Run). pairs_with row.left (numbers_of l)) (drop_all k row.runs all)) c.loop-run.invariant.rest in
    has.each
