-- The law of the greatest delayed relation.
use Rattle.std.specs.Prelude.{◌≡◌}
use Rattle.auto_core.specs.Automaton.{Automaton}
use Rattle.auto_core.specs.Delayed.{IsGreatestDelayed}
use Rattle.delayed_sim.specs.Rankings.{Ranking, IsRanking}

-- There is one at most with so many announced letters, ranks and all.
abbrev pub GreatestDelayedIsOne : Type 0
GreatestDelayedIsOne =
    (A : Automaton) (R S : Ranking)
    → IsRanking R
    → IsRanking S
    → R.states ≡ S.states
    → R.labels ≡ S.labels
    → R.letters ≡ S.letters
    → IsGreatestDelayed A R.letters R.triples
    → IsGreatestDelayed A S.letters S.triples
    → R ≡ S
