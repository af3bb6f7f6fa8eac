use Rattle.std.proofs.Common.{◌-◌, None}
use Rattle.delayed_sim.proofs.EntryLemmas.{IsFirstWithin}
use Rattle.delayed_sim.proofs.entries.first_from.Given as goal

abbrev pub invariant-halves : goal.invariant-halves
invariant-halves l = IsFirstWithin l.letters l.entries (l.left, l.ahead, l.right, None) l.low l.high

abbrev pub decreases-halves : goal.decreases-halves
decreases-halves l = l.high - l.low
