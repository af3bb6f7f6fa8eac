use Rattle.std.proofs.Common.{sym}
use Rattle.product_search.proofs.PairLemmas.{found_at}
use Rattle.product_search.proofs.pairs.number_of.Goals as goal

pub returns-in-Some-clause-pair : goal.returns-in-Some-clause-pair
returns-in-Some-clause-pair c = found_at c.args.pairs.now.keys c.args.pair c.in-Some.number (sym c.in-Some.ensures.index)
