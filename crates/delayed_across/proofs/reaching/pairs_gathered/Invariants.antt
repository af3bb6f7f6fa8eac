use Rattle.std.proofs.Common.{Contains}
use Rattle.delayed_across.proofs.PartLemmas.{IsPartUpto}
use Rattle.delayed_across.proofs.reaching.pairs_gathered.Given as goal

abbrev pub invariant-loop-at : goal.invariant-loop-at
invariant-loop-at l = IsPartUpto (Contains l.gathered.set.members) l.pairs l.at l.part.items
