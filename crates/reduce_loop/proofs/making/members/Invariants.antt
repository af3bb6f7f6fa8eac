use Rattle.std.proofs.Common.{◌≡◌, filter}
use Rattle.std.specs.List.{range_with_len}
use Rattle.reduce_loop.proofs.MakingLemmas.{is_member}
use Rattle.reduce_loop.proofs.making.members.Given as goal

abbrev pub invariant-loop-state : goal.invariant-loop-state
invariant-loop-state l = l.made ≡ filter (is_member l.set.members) (range_with_len 0 l.state)
