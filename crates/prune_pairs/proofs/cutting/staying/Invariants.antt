use Rattle.std.proofs.Common.{◌≡◌, map, filter}
use Rattle.std.specs.List.{range_with_len}
use Rattle.auto_core.specs.Automaton.{trans_at}
use Rattle.prune_pairs.specs.Staying.{stays_in}
use Rattle.prune_pairs.proofs.cutting.staying.Given as goal

abbrev pub invariant-loop-at : goal.invariant-loop-at
invariant-loop-at l = l.made.items ≡ map (trans_at l.automaton) (filter (stays_in l.gone) (range_with_len 0 l.at))
