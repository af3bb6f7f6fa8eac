use Rattle.product_search.proofs.PairLemmas.{is_added}
use Rattle.product_search.proofs.pairs.add.Goals as goal

pub returns : goal.returns
returns c = is_added c.args.pairs.now.keys c.args.pair c.insert_full.new.self.keys c.in_ok-is_new.is_new c.in_ok-is_new.ensures.added c.in_ok-is_new.ensures.keys
