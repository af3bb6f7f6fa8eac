use Rattle.std.proofs.Common.{◌≡◌, take, map}
use Rattle.ba_format.specs.Draft.{trans_with}
use Rattle.ba_format.proofs.draft.transitions_of.Given as goal

abbrev pub invariant-loop-part : goal.invariant-loop-part
invariant-loop-part l = l.transitions.items ≡ map trans_with (take l.part-index l.parts)
