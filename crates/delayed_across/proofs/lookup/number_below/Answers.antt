use Rattle.std.proofs.lemmas.Bool.{iff_false}
use Rattle.delayed_across.proofs.LookupLemmas.{number_not_below}
use Rattle.delayed_across.proofs.lookup.number_below.Goals as goal

pub returns-else-is_below-clause-none : goal.returns-else-is_below-clause-none
returns-else-is_below-clause-none c =
    number_not_below c.args.pairs.now c.requires c.in-Some.at c.args.left c.args.right c.args.bound c.in-Some.ensures.some (iff_false c.is_below.ensures c.if-is_below.false)
