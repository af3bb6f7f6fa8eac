use Rattle.std.proofs.Common.{arith}
use Rattle.auto_core.specs.Useful.{stays}
use Rattle.useful_states.proofs.KeepLaws.{count_within}
use Rattle.useful_states.proofs.keeping.new_numbers.Goals as goal

pub counted-count-requires-clause-few : goal.counted-count-requires-clause-few
counted-count-requires-clause-few c = omega (arith, c.loop-state.invariant.2, count_within (stays c.args.automaton.now c.args.kept.now.members) c.loop-state.state)
