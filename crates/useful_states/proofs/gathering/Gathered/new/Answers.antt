use Rattle.useful_states.proofs.GatherLemmas.{held_new}
use Rattle.useful_states.proofs.gathering.Gathered.new.Goals as goal

pub returns : goal.returns
returns c = held_new c.args.states (record { set = c.in_ok-new.field-0; list = c.new-2.result }) c.in_ok-new.ensures c.new-2.ensures.items
