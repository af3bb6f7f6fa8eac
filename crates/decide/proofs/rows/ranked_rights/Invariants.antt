use Rattle.std.proofs.Common.{◌≡◌, map, take, drop}
use Rattle.decide.specs.Rows.{ranked_of_triple}
use Rattle.decide.proofs.rows.ranked_rights.Given as goal

abbrev pub invariant-loop-i : goal.invariant-loop-i
invariant-loop-i l = l.rights ≡ map ranked_of_triple (take l.i (drop l.at l.ranks.triples))
