use Rattle.product_search.proofs.TrimLemmas.{trimmed_reach_goals}
use Rattle.product_tests.proofs.decision_tests.decided.Goals as goal

pub decide-requires-clause-deterministic : goal.decide-requires-clause-deterministic
decide-requires-clause-deterministic c = c.is_deterministic.ensures.0 c.if-not-is_deterministic.false

pub decide-requires-clause-trimmed : goal.decide-requires-clause-trimmed
decide-requires-clause-trimmed c = trimmed_reach_goals c.args.whole.now c.in_ok-first.first c.in_ok-first.ensures
