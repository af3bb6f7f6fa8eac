use Rattle.std.proofs.Common.{◌≡◌, ◌-◌, rules, List, take, drop, ltb, leb}
use Rattle.std.specs.List.Sorted.{IsNonDecreasingBy}
use Rattle.std.proofs.lemmas.List.Sorted.{IsPartitionPoint-from_clause, IsPartitionedBy-ltb, IsPartitionedBy-leb}
use Rattle.auto_core.specs.declared.parts.Trans.{Trans}
use Rattle.auto_core.proofs.SuccessorLemmas.{successors_from_points, labels_rise}
use Rattle.auto_core.proofs.automaton.Auto.successors.Goals as goal

pub returns-clause-range : goal.returns-clause-range
returns-clause-range c =
    let A = c.args.self.now in
    let b = c.outgoing-out.result.begin in
    let e = c.outgoing-out.result.end in
    let a = c.args.label in
    let seg : List Trans = take (e - b) (drop b A.transitions) in
    let is : take (e - b) (drop b c.deref.result.now) ≡ seg = search rules in
    let rise : IsNonDecreasingBy (λ (t : Trans). t.label) seg = labels_rise A c.args.state b e c.outgoing-out.ensures.valid.in_order c.outgoing-out.ensures.range in
    let lower = IsPartitionPoint-from_clause (λ (t : Trans). ltb t.label a) _ _ c.partition_point-below.ensures.partitioned (rw is (IsPartitionedBy-ltb (λ (t : Trans). t.label) seg a rise)) (λ a r q k. search rules) in
    let upper = IsPartitionPoint-from_clause (λ (t : Trans). leb t.label a) _ _ c.partition_point-upto.ensures.partitioned (rw is (IsPartitionedBy-leb (λ (t : Trans). t.label) seg a rise)) (λ a r q k. search rules) in
    let lower_in = c.partition_point-below.ensures.bound in
    let upper_in = c.partition_point-upto.ensures.bound in
    successors_from_points A c.args.state a b e _ _ c.outgoing-out.ensures.range (rw is at lower_in) (rw is at upper_in) (rw is at lower) (rw is at upper)
