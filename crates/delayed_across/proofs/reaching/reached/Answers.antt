use Rattle.std.proofs.Common.{ℕ, Contains}
use Rattle.std.proofs.lemmas.Result.{IfOk-weaker}
use Rattle.delayed_laws.specs.Across.{IsDelayedSimulation}
use Rattle.delayed_laws.specs.Listed.{place_pairs}
use Rattle.delayed_across.specs.Reached.{IsReachedNumber, IsPartBy, IsReachedPart}
use Rattle.delayed_across.proofs.PartLemmas.{part_as, reached_part_is}
use Rattle.delayed_across.proofs.reaching.reached.Goals as goal

pub returns-clause-part : goal.returns-clause-part
returns-clause-part c =
    let A = c.args.first.now in
    let B = c.args.second.now in
    let pairs = c.args.pairs.now in
    let so : ℕ → Type 0 = Contains c.in_ok-gathered.gathered.set.members in
    IfOk-weaker c.pairs_gathered.result (λ v. IsPartBy so pairs v.items) (λ v. IsReachedPart A B pairs v.items)
    (λ v is. part_as so (IsReachedNumber A B pairs) pairs v.items c.in_ok-gathered.ensures.numbers.members is) c.pairs_gathered.ensures

pub returns-clause-is : goal.returns-clause-is
returns-clause-is c =
    let A = c.args.first.now in
    let B = c.args.second.now in
    let pairs = c.args.pairs.now in
    let so : ℕ → Type 0 = Contains c.in_ok-gathered.gathered.set.members in
    IfOk-weaker c.pairs_gathered.result (λ v. IsPartBy so pairs v.items) (λ v. IsDelayedSimulation A B (place_pairs pairs) → IsDelayedSimulation A B (place_pairs v.items))
    (λ v is simulation.
    reached_part_is A B pairs v.items c.in_ok-gathered.ensures.valid c.requires.ascending simulation (part_as so (IsReachedNumber A B pairs) pairs v.items c.in_ok-gathered.ensures.numbers.members is)) c.pairs_gathered.ensures
