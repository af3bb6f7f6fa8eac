use Rattle.std.proofs.Common.{ℕ, ◌-◌, ◌↔◌, take}
use Rattle.auto_core.specs.Rows.{HasBit}
use Rattle.delayed_sim.proofs.RelateLemmas.{HoldsUpto}
use Rattle.delayed_sim.proofs.relating.+keep_each.Given as goal

abbrev pub decreases-keep_each : goal.decreases-keep_each
decreases-keep_each l = l.delayed.now.letters - l.chosen

abbrev pub invariant-loop-letter : goal.invariant-loop-letter
invariant-loop-letter l = (q : ℕ) → HasBit l.row q ↔ (HasBit l.fn.row q × HoldsUpto l.delayed (take l.chosen l.word) l.p q l.letter)
