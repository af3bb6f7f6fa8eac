use Rattle.more_accepting.proofs.AvoidLemmas.{joined_gathered}
use Rattle.more_accepting.proofs.making.joined_to_avoiding.Goals as goal

pub returns : goal.returns
returns c = joined_gathered c.args.automaton.now c.in_ok-inside.inside c.in_ok-inside.ensures c.in_ok-gathered.gathered c.close.new.self c.in_ok-gathered.ensures c.in_ok-close.ensures
