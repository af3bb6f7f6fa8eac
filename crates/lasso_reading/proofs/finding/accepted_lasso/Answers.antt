use Rattle.product_search.proofs.TrimLemmas.{trimmed_reach_goals}
use Rattle.lasso_reading.proofs.FindLemmas.{goes_nowhere, included_in_none, apart_from_none}
use Rattle.lasso_reading.proofs.finding.accepted_lasso.Goals as goal

pub decide-requires-clause-deterministic : goal.decide-requires-clause-deterministic
decide-requires-clause-deterministic c = goes_nowhere c.in_ok-second.second c.in_ok-second.ensures.none

pub decide-requires-clause-trimmed : goal.decide-requires-clause-trimmed
decide-requires-clause-trimmed c = trimmed_reach_goals c.args.automaton.now c.in_ok-first.first c.in_ok-first.ensures

pub returns-in-Included-clause-none : goal.returns-in-Included-clause-none
returns-in-Included-clause-none c = λ _.
    included_in_none c.args.automaton.now c.in_ok-first.first c.in_ok-second.second c.in-Included.field-0.items c.in_ok-first.ensures c.in_ok-second.ensures.valid c.in_ok-second.ensures.none
    (c.in_ok-decide.ensures.included c.in-Included.field-0 c.in-Included.is).0

pub returns-in-Apart-clause-some : goal.returns-in-Apart-clause-some
returns-in-Apart-clause-some c =
    apart_from_none c.args.automaton.now c.in_ok-first.first c.in_ok-second.second c.in-Apart.lasso.prefix c.in-Apart.lasso.turn c.in_ok-first.ensures (c.in_ok-decide.ensures.apart c.in-Apart.lasso c.in-Apart.is)
