use Rattle.std.proofs.Common.{rules, None, sym, ◌∙◌, arith}
use Rattle.std.proofs.lemmas.Bool.{false≢true}
use Rattle.std.proofs.lemmas.List.Sorted.{IsPartitionPoint-from_clause}
use Rattle.delayed_laws.specs.Listed.{delayed_pair, delayed_at}
use Rattle.delayed_across.specs.Listed.{stands_before}
use Rattle.delayed_across.proofs.LookupLemmas.{before_from_test, test_from_before, test_parts}
use Rattle.delayed_across.proofs.lookup.place_of.Goals as goal

pub returns-clause-before : goal.returns-clause-before
returns-clause-before c = λ i lt.
    let p = c.args.left in
    let q = c.args.right in
    let point = IsPartitionPoint-from_clause (stands_before p q) _ _ c.partition_point.ensures.partitioned (test_parts c.args.pairs.now c.requires p q) (λ a r f k. search rules) in
    before_from_test p q (delayed_at c.args.pairs.now i) (point.0 i (delayed_pair 0 0 None) (omega arith) lt)

pub returns-clause-behind : goal.returns-clause-behind
returns-clause-behind c = λ i from lt before.
    let p = c.args.left in
    let q = c.args.right in
    let point = IsPartitionPoint-from_clause (stands_before p q) _ _ c.partition_point.ensures.partitioned (test_parts c.args.pairs.now c.requires p q) (λ a r f k. search rules) in
    false≢true (sym (point.1 i (delayed_pair 0 0 None) from lt) ∙ test_from_before p q (delayed_at c.args.pairs.now i) before)
