use Rattle.std.proofs.Common.{◌≡◌, ◌+◌, ℕ, List, suc, sym, ap₂, ◌∙◌, subst, arith}
use Rattle.std.proofs.lemmas.Option.{MatchOption-at_some}
use Rattle.lasso_shrink.specs.Shrinking.{LassoLeavesOne, LassoNeedsEach, LassoSeparates, letters_of, lasso_without}
use Rattle.auto_core.specs.declared.parts.Lasso.{Lasso}
use Rattle.lasso_shrink.specs.Prefixes.{PrefixIsShrunk}
use Rattle.lasso_shrink.proofs.PrefixLemmas.{out_join, leaves_fewer}
use Rattle.lasso_shrink.proofs.lassos.shrink.Goals as goal

pub shrink_prefix-requires-in-Some : goal.shrink_prefix-requires-in-Some
shrink_prefix-requires-in-Some c =
    let A = c.args.first.now in
    let B = c.args.second.now in
    let now = c.loop-next.current in
    let one : LassoLeavesOne A B now c.in-Some.left = MatchOption-at_some (LassoNeedsEach A B now) (LassoLeavesOne A B now) c.in-Some.left c.in-Some.is c.loop-next.invariant.told in
    one.keeps

pub loop-next-smaller : goal.loop-next-smaller
loop-next-smaller c =
    let A = c.args.first.now in
    let B = c.args.second.now in
    let now = c.loop-next.current in
    let one : LassoLeavesOne A B now c.in-Some.left = MatchOption-at_some (LassoNeedsEach A B now) (LassoLeavesOne A B now) c.in-Some.left c.in-Some.is c.loop-next.invariant.told in
    let less = leaves_fewer (LassoSeparates A B) now c.in-Some.left one in
    let fewer = c.in_ok-current-2.ensures.fewer in
    omega (arith, less, fewer)

pub loop-next-preserved : goal.loop-next-preserved
loop-next-preserved c =
    let A = c.args.first.now in
    let B = c.args.second.now in
    let now = c.loop-next.current in
    let one : LassoLeavesOne A B now c.in-Some.left = MatchOption-at_some (LassoNeedsEach A B now) (LassoLeavesOne A B now) c.in-Some.left c.in-Some.is c.loop-next.invariant.told in
    let (n, before) = c.loop-next.invariant.left_out in
    let more = c.in_ok-current-2.ensures in
    record {
      left_out = (more.letters + suc n, out_join (LassoSeparates A B) letters_of lasso_without (suc n) more.letters c.args.lasso.now c.in-Some.left c.in_ok-current-2.current (now, before, one) more.left_out);
      separates = more.separates;
      tails = c.in_ok-next-2.ensures.tails;
      other_tails = c.in_ok-next-2.ensures.other_tails;
      told = c.in_ok-next-2.ensures.left;
    }

pub shrink_prefix-requires : goal.shrink_prefix-requires
shrink_prefix-requires c =
    let F : List ℕ → List ℕ → Lasso = λ u v. record { prefix = u; turn = v } in
    let same : F c.in_ok-prefix.prefix c.in_ok-turn.turn ≡ c.args.lasso.now = ap₂ F (c.in_ok-prefix.ensures ∙ c.as_slice.ensures) (c.in_ok-turn.ensures ∙ c.as_slice-2.ensures) in
    subst (LassoSeparates c.args.first.now c.args.second.now) (sym same) c.requires

pub loop-next-init : goal.loop-next-init
loop-next-init c =
    let A = c.args.first.now in
    let B = c.args.second.now in
    let F : List ℕ → List ℕ → Lasso = λ u v. record { prefix = u; turn = v } in
    let same : F c.in_ok-prefix.prefix c.in_ok-turn.turn ≡ c.args.lasso.now = ap₂ F (c.in_ok-prefix.ensures ∙ c.as_slice.ensures) (c.in_ok-turn.ensures ∙ c.as_slice-2.ensures) in
    let start : PrefixIsShrunk A B c.args.lasso.now c.in_ok-current.current = subst (λ x. PrefixIsShrunk A B x c.in_ok-current.current) same c.in_ok-current.ensures in
    record { left_out = (start.letters, start.left_out); separates = start.separates; tails = c.in_ok-next.ensures.tails; other_tails = c.in_ok-next.ensures.other_tails; told = c.in_ok-next.ensures.left }

pub shorter-requires-clause-tails : goal.shorter-requires-clause-tails
shorter-requires-clause-tails c = c.new-tails.ensures c.args.first.now

pub shorter-requires-clause-other_tails : goal.shorter-requires-clause-other_tails
shorter-requires-clause-other_tails c = c.new-other_tails.ensures c.args.second.now
