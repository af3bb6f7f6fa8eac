use Rattle.std.proofs.Common.{◌≡◌, ◌+◌, ◌-◌, [], ◌∷◌, ap, ◌∙◌, arith}
use Rattle.std.specs.List.{range_with_len}
use Rattle.cert_value.specs.Text.{run_numbers}
use Rattle.log_check.specs.Blocks.{pairs_with}
use Rattle.log_check.proofs.BlockLemmas.{HasMore, one_more, completes_more, completes_all, run_left}
use Rattle.log_check.proofs.blocks.add_run.Goals as goal

pub loop-right-preserved : goal.loop-right-preserved
loop-right-preserved c =
    let n = c.loop-right.right in
    let last = c.args.run.last in
    let left = c.args.left in record {
      size = c.set.ensures.pairs.size ∙ c.loop-right.invariant.size;
      rest = completes_more c.args.rel.now.pairs c.loop-right.rel.pairs c.set.new.self.pairs ((left, n) ∷ []) (pairs_with left (range_with_len (n + 1) (last + 1 - (n + 1))))
          (pairs_with left (range_with_len n (last + 1 - n))) (pairs_with left (run_numbers c.args.run)) (run_left left n last c.loop-right-test.true)
          (one_more c.loop-right.rel.pairs c.set.new.self.pairs left n c.set.ensures.pairs.pairs) c.loop-right.invariant.rest;
    }

pub returns-clause-pairs : goal.returns-clause-pairs
returns-clause-pairs c =
    let n = c.loop-right.right in
    let last = c.args.run.last in
    let left = c.args.left in
    let none : last + 1 - n ≡ 0 = omega (arith, c.loop-right-test.false) in
    let has : HasMore c.args.rel.now.pairs c.loop-right.rel.pairs (pairs_with left (run_numbers c.args.run)) =
    completes_all c.args.rel.now.pairs c.loop-right.rel.pairs (pairs_with left (range_with_len n (last + 1 - n))) (pairs_with left (run_numbers c.args.run))
    (ap (λ k. pairs_with left (range_with_len n k)) none) c.loop-right.invariant.rest in
    has.each
