use Rattle.lasso_reading.proofs.MadeLemmas.{is_numbered}
use Rattle.lasso_reading.proofs.made.number_of.Goals as goal

pub returns : goal.returns
returns c = is_numbered c.args.pairs.now.keys c.args.pair c.insert_full.new.self.keys c.in_ok-number.number c.in_ok-number.ensures.within c.in_ok-number.ensures.stored c.in_ok-number.ensures.keys
