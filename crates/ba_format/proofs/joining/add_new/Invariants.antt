use Rattle.std.proofs.Common.{◌≡◌, take, ◌+◌, ◌≤◌, length}
use Rattle.ba_format.specs.Joining.{joined_labels}
use Rattle.ba_format.proofs.joining.add_new.Given as goal

abbrev pub invariant-loop-at : goal.invariant-loop-at
invariant-loop-at l = (l.joined ≡ joined_labels l.initial.joined (take l.at l.texts)) × (length l.joined ≤ length l.initial.joined + l.at)
