use Rattle.std.proofs.Common.{◌-◌, ◌++◌, List, take, drop, map}
use Rattle.auto_core.specs.Outcome.{At}
use Rattle.auto_ops.specs.Intersection.{ProductMove, product_move}
use Rattle.auto_ops.specs.UnderWay.{IsUnderWay, IsRoomy}
use Rattle.auto_ops.proofs.product.Product.add_beside.Given as goal

abbrev pub invariant-loop-at : goal.invariant-loop-at
invariant-loop-at l = record {
  at : At l.self.product_states.items l.number l.fn.product_state;
  roomy : IsRoomy l.first l.second l.self.product_states.items l.self.transitions.items;
  added :
      (ms : List ProductMove)
      → IsUnderWay l.first l.second ms l.initial.self.product_states.items l.initial.self.transitions.items
      → IsUnderWay l.first l.second (ms ++ map (product_move l.fn.mode l.first l.second l.fn.product_state l.step) (take (l.at - l.initial.at) (drop l.initial.at l.second.transitions))) l.self.product_states.items l.self.transitions.items;
}
