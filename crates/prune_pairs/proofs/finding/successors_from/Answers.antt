use Rattle.std.proofs.Common.{◌≡◌, ◌-◌, rules, List, take, drop, ltb}
use Rattle.std.proofs.lemmas.List.Sorted.{IsPartitionPoint-from_clause, IsPartitionedBy-ltb}
use Rattle.auto_core.specs.declared.parts.Trans.{Trans}
use Rattle.prune_pairs.proofs.TargetLemmas.{targets_rise, range_from}
use Rattle.prune_pairs.proofs.finding.successors_from.Goals as goal

pub returns-clause-range : goal.returns-clause-range
returns-clause-range c =
    let A = c.args.automaton.now in
    let p = c.args.source in
    let a = c.args.label in
    let b = c.successors-span.result.begin in
    let e = c.successors-span.result.end in
    let up = c.successors-span.ensures.valid.in_order in
    let range = c.successors-span.ensures.range in
    let seg : List Trans = take (e - b) (drop b A.transitions) in
    let is : take (e - b) (drop b c.transitions.result.now) ≡ seg = search rules in
    let point = IsPartitionPoint-from_clause (λ (t : Trans). ltb t.target c.args.target) _ _ c.partition_point-below.ensures.partitioned (rw is (IsPartitionedBy-ltb (λ (t : Trans). t.target) seg c.args.target (targets_rise A p a b e up range))) (λ a r q k. search rules) in
    let bound = c.partition_point-below.ensures.bound in
    range_from A p a b e up range c.args.target _ (rw is at bound) (rw is at point)
