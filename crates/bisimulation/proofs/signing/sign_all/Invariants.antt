use Rattle.std.proofs.Common.{take}
use Rattle.bisimulation.specs.Signatures.{AreSigned}
use Rattle.bisimulation.proofs.signing.sign_all.Given as goal

abbrev pub invariant-loop-i : goal.invariant-loop-i
invariant-loop-i l = AreSigned l.automaton l.of l.fn.table.keys l.table.keys (take l.i l.states) l.fn.signs.items l.signs.items
