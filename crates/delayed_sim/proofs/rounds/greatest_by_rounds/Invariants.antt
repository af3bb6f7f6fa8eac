use Rattle.std.proofs.Common.{◌≡◌, ◌+◌, ◌^◌, ◌<◌, length}
use Rattle.delayed_sim.specs.Rankings.{IsRanking}
use Rattle.delayed_sim.specs.Rounds.{HasEachTriple}
use Rattle.delayed_sim.proofs.rounds.greatest_by_rounds.Given as goal

abbrev pub invariant-passes : goal.invariant-passes
invariant-passes l =
    (l.left.states ≡ l.automaton.states)
    × (l.left.labels ≡ l.automaton.labels)
    × (l.left.letters ≡ l.letters)
    × IsRanking l.left
    × (length l.left.triples + 1 < 2 ^ 32)
    × HasEachTriple l.automaton l.left.letters l.left.triples

abbrev pub decreases-passes : goal.decreases-passes
decreases-passes l = length l.left.triples
