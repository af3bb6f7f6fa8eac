use Rattle.std.proofs.Common.{◌≡◌, ◌^◌}
use Rattle.delayed_sim.proofs.words.word_count.Given as goal

abbrev pub invariant-loop : goal.invariant-loop
invariant-loop l = l.count ≡ l.labels ^ l.counter
