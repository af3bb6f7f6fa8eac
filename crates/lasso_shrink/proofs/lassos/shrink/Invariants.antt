use Rattle.std.proofs.Common.{ℕ}
use Rattle.std.specs.Option.{MatchOption}
use Rattle.lasso_accept.specs.Tails.{HasTails}
use Rattle.lasso_shrink.specs.Leaving.{LeavesOut}
use Rattle.lasso_shrink.specs.Shrinking.{letters_of, lasso_without, LassoSeparates, LassoNeedsEach, LassoLeavesOne}
use Rattle.lasso_shrink.proofs.lassos.shrink.Given as goal

abbrev pub invariant-loop-next : goal.invariant-loop-next
invariant-loop-next l = record {
  left_out : (n : ℕ) × LeavesOut (LassoSeparates l.first l.second) letters_of lasso_without n l.lasso l.current;
  separates : LassoSeparates l.first l.second l.current;
  tails : HasTails l.first l.tails;
  other_tails : HasTails l.second l.other_tails;
  told : MatchOption l.next (LassoNeedsEach l.first l.second l.current) (LassoLeavesOne l.first l.second l.current);
}

abbrev pub decreases-loop-next : goal.decreases-loop-next
decreases-loop-next l = letters_of l.current
