use Rattle.quotient.proofs.CountLemmas.{closed_reflexive, closed_transitive}
use Rattle.reduction_tests.proofs.quotient_tests.preorder.Goals as goal

pub returns-clause-reflexive : goal.returns-clause-reflexive
returns-clause-reflexive c = closed_reflexive c.relate.new.rel c.close.new.self c.close.ensures.closed

pub returns-clause-transitive : goal.returns-clause-transitive
returns-clause-transitive c = closed_transitive c.relate.new.rel c.close.new.self c.close.ensures.closed
