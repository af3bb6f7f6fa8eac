use Rattle.std.proofs.Common.{ℕ, ◌<◌}
use Rattle.auto_core.specs.Game.{Holds}
use Rattle.auto_core.specs.Pairs.{PairSubsumes}
use Rattle.auto_core.specs.Outcome.{At}
use Rattle.antichain.specs.declared.parts.Held.{Held}
use Rattle.antichain.specs.Kept.{held_pair}
use Rattle.antichain.proofs.meeting.least_subsumer.Given as goal

abbrev pub invariant-loop-number : goal.invariant-loop-number
invariant-loop-number l = (k j : ℕ) (h : Held) → k < l.number-index → At l.among k j → At l.held j h → PairSubsumes (Holds l.order.pairs) (held_pair h) (held_pair l.new) → ⊥
