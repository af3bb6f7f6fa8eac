use Rattle.std.proofs.Common.{get_or}
use Rattle.auto_core.specs.Automaton.{trans}
use Rattle.look_round.proofs.PlaceLemmas.{HasPlacesUpto}
use Rattle.look_round.proofs.words.find_places.Given as goal

abbrev pub invariant-loop-number : goal.invariant-loop-number
invariant-loop-number g l =
    HasPlacesUpto (λ i. g.S.Side.seen l.side (get_or l.automaton.transitions i (trans 0 0 0))) l.places l.asked l.found l.automaton.states l.label l.number
