use Rattle.lasso_accept.proofs.tails.Tails.loop_states.Goals as goal

pub keep_more-requires-clause-tails : goal.keep_more-requires-clause-tails
keep_more-requires-clause-tails c = c.in_ok-go_to.ensures.tails c.args.automaton.now c.requires.tails
