use Rattle.std.proofs.Common.{ℕ, Contains, take}
use Rattle.auto_core.specs.Rows.{HasBit}
use Rattle.look_round.proofs.listing.one_has_bit.Given as goal

abbrev pub invariant-loop-i : goal.invariant-loop-i
invariant-loop-i l = (r : ℕ) → Contains (take l.i l.list) r → HasBit l.row r → ⊥
