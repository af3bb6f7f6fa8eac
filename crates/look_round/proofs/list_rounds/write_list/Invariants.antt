use Rattle.std.proofs.Common.{Contains, take}
use Rattle.look_round.specs.Listed.{Lists}
use Rattle.look_round.proofs.list_rounds.write_list.Given as goal

abbrev pub invariant-loop-i : goal.invariant-loop-i
invariant-loop-i l = Lists l.fn.listed l.listed l.from l.end l.n (Contains (take l.i l.list))
