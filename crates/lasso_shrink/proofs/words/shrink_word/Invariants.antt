use Rattle.std.proofs.Common.{ℕ, length}
use Rattle.std.specs.Option.{MatchOption}
use Rattle.auto_core.specs.Accept.{SeparatesWord}
use Rattle.lasso_shrink.specs.Leaving.{LeavesOut}
use Rattle.lasso_shrink.specs.Shrinking.{word_without, WordNeedsEach, WordLeavesOne}
use Rattle.lasso_shrink.proofs.words.shrink_word.Given as goal

abbrev pub invariant-loop-next : goal.invariant-loop-next
invariant-loop-next l = record {
  left_out : (n : ℕ) × LeavesOut (SeparatesWord l.first l.second) length word_without n l.word l.current;
  separates : SeparatesWord l.first l.second l.current;
  told : MatchOption l.next (WordNeedsEach l.first l.second l.current) (WordLeavesOne l.first l.second l.current);
}

abbrev pub decreases-loop-next : goal.decreases-loop-next
decreases-loop-next l = length l.current
