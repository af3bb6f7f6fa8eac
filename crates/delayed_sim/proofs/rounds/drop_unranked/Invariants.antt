use Rattle.std.proofs.Common.{◌≡◌, ℕ, ◌-◌, ◌<◌, false, Some, length}
use Rattle.auto_core.specs.Automaton.{IsAccepting}
use Rattle.delayed_sim.specs.Rankings.{triple_at}
use Rattle.delayed_sim.specs.Rounds.{HasEachTriple, HasRanksUpto, Thins}
use Rattle.delayed_sim.proofs.rounds.drop_unranked.Given as goal

abbrev pub invariant-triples : goal.invariant-triples
invariant-triples l =
    Thins l.fn.delayed l.delayed l.any
    × HasEachTriple l.automaton l.delayed.letters l.delayed.triples
    × ((r : ℕ) → HasRanksUpto l.automaton l.delayed.letters r l.delayed.triples)
    × (l.any ≡ false → (i : ℕ) → i < l.at → IsAccepting l.automaton (triple_at l.delayed.triples i).0 → (r : ℕ) × ((triple_at l.delayed.triples i).3 ≡ Some r))

abbrev pub decreases-triples : goal.decreases-triples
decreases-triples l = length l.delayed.triples - l.at
