use Rattle.std.proofs.Common.{ℕ, List, sym, subst}
use Rattle.bisimulation.proofs.GatherLemmas.{IsGathering, gathered}
use Rattle.bisimulation.proofs.gathering.gather.Goals as goal

pub loop-list-preserved-in-Continue-1 : goal.loop-list-preserved-in-Continue-1
loop-list-preserved-in-Continue-1 c =
    let of : List ℕ = c.args.of.now in
    let found : List ℕ = c.loop-list.found.items in
    subst (IsGathering of c.args.class c.args.list.now.items c.pop.new.self.items) (sym c.in_ok-push.ensures.items)
    (gathered of c.args.class c.args.list.now.items c.loop-list.list.items c.pop.new.self.items found c.in-Some.state c.loop-list.invariant c.in-Some.ensures.items)
