use Rattle.std.proofs.Common.{◌≡◌, ◌*◌, ◌^◌}
use Rattle.delayed_sim.proofs.letters.are_few_triples_with_a_letter.Given as goal

abbrev pub invariant-loop : goal.invariant-loop
invariant-loop l = l.count ≡ l.automaton.states * l.automaton.states * l.automaton.labels ^ l.counter
