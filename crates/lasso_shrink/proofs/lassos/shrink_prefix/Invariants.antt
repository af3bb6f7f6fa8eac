use Rattle.std.proofs.Common.{ℕ, ◌≤◌}
use Rattle.std.specs.Option.{MatchOption}
use Rattle.lasso_shrink.specs.Leaving.{LeavesOut}
use Rattle.lasso_shrink.specs.Shrinking.{letters_of, lasso_without, LassoSeparates}
use Rattle.lasso_shrink.specs.Prefixes.{AreKept, PrefixNeedsEach, IsFirstPlace}
use Rattle.lasso_shrink.proofs.lassos.shrink_prefix.Given as goal

abbrev pub invariant-loop-place : goal.invariant-loop-place
invariant-loop-place l = record {
  left_out : (n : ℕ) × LeavesOut (LassoSeparates l.first l.second) letters_of lasso_without n l.fn.lasso l.current;
  separates : LassoSeparates l.first l.second l.current;
  told : MatchOption l.place (PrefixNeedsEach l.first l.second l.current) (IsFirstPlace l.first l.second l.current);
  rests : AreKept l.first l.current.prefix l.current.turn l.rests;
  other_rests : AreKept l.second l.current.prefix l.current.turn l.other_rests;
  fewer : letters_of l.current ≤ letters_of l.fn.lasso;
}

abbrev pub decreases-loop-place : goal.decreases-loop-place
decreases-loop-place l = letters_of l.current
