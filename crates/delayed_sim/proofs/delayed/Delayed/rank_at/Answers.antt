use Rattle.std.proofs.Common.{subst}
use Rattle.delayed_sim.specs.Rankings.{IsRanking}
use Rattle.delayed_sim.proofs.EntryLemmas.{valid_stored}
use Rattle.delayed_sim.proofs.delayed.Delayed.rank_at.Goals as goal

pub returns-clause-valid : goal.returns-clause-valid
returns-clause-valid c = subst IsRanking c.self.view_is (valid_stored c.self.inside c.self.invariant)
