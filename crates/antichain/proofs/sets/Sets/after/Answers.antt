use Rattle.antichain.proofs.MadeLemmas.{made_more}
use Rattle.antichain.proofs.sets.Sets.after.Goals as goal

pub returns-in_ok-number-in-None-clause-made : goal.returns-in_ok-number-in-None-clause-made
returns-in_ok-number-in-None-clause-made c =
    made_more c.args.second.now c.args.order.now.pairs c.in_ok-made-in-None.made c.args.self.now.made.items c.remember.new.self.made.items c.in_ok-number-in-None.number
    c.requires.made c.in_ok-made-in-None.ensures.made c.in_ok-number-in-None.ensures
