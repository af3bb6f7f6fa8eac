use Rattle.std.proofs.Common.{arith}
use Rattle.ranked_product.proofs.checking.broken_rule.Goals as goal

pub returns-clause-kept : goal.returns-clause-kept
returns-clause-kept c = record {
  states = (omega arith, omega arith);
  moves = c.covers_moves.ensures.0 c.if-not-covers_moves.false;
  ranks = c.ranks_go_on.ensures.0 c.if-not-ranks_go_on.false;
}
