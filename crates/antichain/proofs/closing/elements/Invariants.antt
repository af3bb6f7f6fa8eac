use Rattle.antichain.specs.Marks.{AreMarked}
use Rattle.antichain.proofs.closing.elements.Given as goal

abbrev pub invariant-loop-number : goal.invariant-loop-number
invariant-loop-number l = AreMarked l.order.pairs l.family l.number l.elements
