use Rattle.std.proofs.Common.{ℕ, Contains, take}
use Rattle.auto_core.specs.Rows.{HasBit}
use Rattle.look_round.proofs.answering.Answering.has_one.Given as goal

abbrev pub invariant-loop-i : goal.invariant-loop-i
invariant-loop-i l = (q : ℕ) → Contains (take l.i l.from) q → HasBit l.row q → ⊥
