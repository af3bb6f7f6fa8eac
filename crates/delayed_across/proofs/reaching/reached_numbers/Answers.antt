use Rattle.std.proofs.Common.{length}
use Rattle.delayed_across.proofs.PartLemmas.{initial_and_on}
use Rattle.delayed_across.proofs.reaching.reached_numbers.Goals as goal

pub returns-clause-numbers : goal.returns-clause-numbers
returns-clause-numbers c =
    initial_and_on c.args.first.now c.args.second.now c.args.pairs.now (length c.args.pairs.now) c.in_ok-gathered.gathered c.close_answers.new.gathered c.in_ok-gathered.ensures.numbers c.in_ok-close_answers.ensures
