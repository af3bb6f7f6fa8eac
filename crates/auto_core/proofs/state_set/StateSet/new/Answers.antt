use Rattle.auto_core.proofs.SetLemmas.{empty_set}
use Rattle.auto_core.proofs.state_set.StateSet.new.Goals as goal

pub returns : goal.returns
returns c = empty_set c.in_ok-flags.flags.items c.args.states c.args.states (c.in_ok-flags.ensures.items_if_clones_equal (λ y e. e))
