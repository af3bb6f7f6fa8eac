use Rattle.cert_check.specs.Turns.{AreTurns, AreListedAtStates}
use Rattle.cert_check.proofs.pairs.turns_by_state.Given as goal

abbrev pub invariant-loop-e : goal.invariant-loop-e
invariant-loop-e l = AreTurns l.evidence l.supers l.e l.first.states l.turns.items × AreListedAtStates l.seen l.turns.items
