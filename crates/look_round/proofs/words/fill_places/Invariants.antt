use Rattle.look_round.proofs.PlaceLemmas.{IsFilledUpto}
use Rattle.look_round.proofs.words.fill_places.Given as goal

abbrev pub invariant-loop-at : goal.invariant-loop-at
invariant-loop-at l = IsFilledUpto l.states l.places l.used l.columns l.width l.count
