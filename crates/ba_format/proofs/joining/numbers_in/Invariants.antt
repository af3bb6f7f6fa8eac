use Rattle.std.proofs.Common.{◌≡◌, take, map}
use Rattle.ba_format.specs.Sight.{same_text, place_in}
use Rattle.ba_format.proofs.joining.numbers_in.Given as goal

abbrev pub invariant-loop-at : goal.invariant-loop-at
invariant-loop-at l = l.numbers.items ≡ map (place_in same_text l.joined) (take l.at l.labels)
