use Rattle.std.proofs.Common.{arith}
use Rattle.std.proofs.lemmas.Nat.{mul-le}
use Rattle.delayed_sim.proofs.BoundLemmas.{bound_has}
use Rattle.delayed_sim.proofs.StepLemmas.{places_alone}
use Rattle.delayed_sim.proofs.WordLemmas.{power_zero}
use Rattle.delayed_sim.proofs.game.greatest_by_pairs.Goals as goal

pub greatest_within-requires-clause-places : goal.greatest_within-requires-clause-places
greatest_within-requires-clause-places c = places_alone c.args.automaton.now c.requires.valid

pub greatest_within-requires-clause-words : goal.greatest_within-requires-clause-words
greatest_within-requires-clause-words c = omega (arith, power_zero c.args.automaton.now.labels)

pub greatest_within-requires-clause-word_count : goal.greatest_within-requires-clause-word_count
greatest_within-requires-clause-word_count c = omega (arith, power_zero c.args.automaton.now.labels)

pub greatest_within-requires-clause-few : goal.greatest_within-requires-clause-few
greatest_within-requires-clause-few c = omega (arith, mul-le c.args.automaton.now.states c.args.automaton.now.states 65535 65535 c.requires.few c.requires.few)

pub greatest_within-requires-clause-first : goal.greatest_within-requires-clause-first
greatest_within-requires-clause-first c = bound_has c.args.automaton.now c.in_ok-first.first c.in_ok-first.ensures
