use Rattle.std.proofs.Common.{◌-◌, length}
use Rattle.useful_states.proofs.GatherLemmas.{IsClosing}
use Rattle.delayed_across.specs.Reached.{LeadsOn}
use Rattle.delayed_across.proofs.reaching.close_answers.Given as goal

abbrev pub invariant-loop-at : goal.invariant-loop-at
invariant-loop-at l = IsClosing (LeadsOn l.first l.second l.pairs) l.fn.gathered l.gathered l.at

abbrev pub decreases-loop-at : goal.decreases-loop-at
decreases-loop-at l = length l.pairs - l.at
