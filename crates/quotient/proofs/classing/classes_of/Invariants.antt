use Rattle.auto_core.specs.Game.{Holds}
use Rattle.quotient.proofs.CountLemmas.{IsClassing}
use Rattle.quotient.proofs.classing.classes_of.Given as goal

abbrev pub invariant-loop-state : goal.invariant-loop-state
invariant-loop-state l = IsClassing (Holds l.rel.pairs) l.of.items l.state l.count
