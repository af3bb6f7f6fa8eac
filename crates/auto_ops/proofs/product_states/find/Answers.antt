use Rattle.std.proofs.Common.{arith}
use Rattle.std.proofs.lemmas.List.Folds.{list_any_none}
use Rattle.auto_ops.specs.Intersection.{same_product_state}
use Rattle.auto_ops.proofs.product_states.find.Goals as goal

pub returns-clause-absent : goal.returns-clause-absent
returns-clause-absent c = λ _.
    list_any_none (same_product_state c.args.product_state) c.args.product_states.now (λ k d lt. c.loop-at.invariant k d (omega arith))
