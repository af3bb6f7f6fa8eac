use Rattle.auto_core.proofs.MemberLemmas.{Rises}
use Rattle.auto_ops.proofs.SightLemmas.{Differ}
use Rattle.auto_ops.proofs.ProductLemmas.{HasAccepting}
use Rattle.auto_ops.proofs.intersecting.accepting_numbers.Given as goal

abbrev pub invariant-loop-at : goal.invariant-loop-at
invariant-loop-at l = record {
  members : HasAccepting l.mode l.first l.second l.product_states l.at l.made.items;
  apart : Rises Differ l.made.items;
}
