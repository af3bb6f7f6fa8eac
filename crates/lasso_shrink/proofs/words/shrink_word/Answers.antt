use Rattle.std.proofs.Common.{suc}
use Rattle.std.proofs.lemmas.Option.{MatchOption-at_some}
use Rattle.lasso_shrink.specs.Shrinking.{WordLeavesOne, WordNeedsEach}
use Rattle.lasso_shrink.proofs.words.shrink_word.Goals as goal

pub loop-next-preserved : goal.loop-next-preserved
loop-next-preserved c =
    let A = c.args.first.now in
    let B = c.args.second.now in
    let now = c.loop-next.current in
    let one : WordLeavesOne A B now c.in-Some.left = MatchOption-at_some (WordNeedsEach A B now) (WordLeavesOne A B now) c.in-Some.left c.in-Some.is c.loop-next.invariant.told in
    let (n, before) = c.loop-next.invariant.left_out in
    record { left_out = (suc n, (now, before, one)); separates = one.keeps; told = c.in_ok-next-2.ensures }
