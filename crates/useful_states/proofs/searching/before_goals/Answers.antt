use Rattle.useful_states.proofs.UsefulLemmas.{goals_and_before}
use Rattle.useful_states.proofs.searching.before_goals.Goals as goal

pub returns : goal.returns
returns c =
    let A = c.args.automaton.now in
    goals_and_before A c.args.mode A.states c.in_ok-gathered.gathered c.close.new.self c.in_ok-gathered.ensures c.in_ok-close.ensures
