use Rattle.std.proofs.Common.{◌≡◌, ℕ, ◌-◌, ◌<◌, false, None, length}
use Rattle.delayed_sim.specs.Rankings.{triple_at}
use Rattle.delayed_sim.specs.Right.{IsTripleAnswered}
use Rattle.delayed_sim.specs.Rounds.{HasEachTriple, Thins}
use Rattle.delayed_sim.proofs.rounds.drop_unanswered.Given as goal

abbrev pub invariant-triples : goal.invariant-triples
invariant-triples l =
    Thins l.fn.delayed l.delayed l.any
    × HasEachTriple l.automaton l.delayed.letters l.delayed.triples
    × (l.any ≡ false → (i : ℕ) → i < l.at → IsTripleAnswered l.automaton l.delayed.triples None (triple_at l.delayed.triples i))

abbrev pub decreases-triples : goal.decreases-triples
decreases-triples l = length l.delayed.triples - l.at
