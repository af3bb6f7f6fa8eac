use Rattle.std.proofs.Common.{◌≡◌, suc, sym, ap, ◌∙◌, subst, arith}
use Rattle.std.proofs.lemmas.Option.{MatchOption-at_some}
use Rattle.auto_core.specs.declared.parts.Lasso.{Lasso}
use Rattle.lasso_shrink.specs.Shrinking.{LassoLeavesOne, LassoSeparates, letters_of, lasso_without}
use Rattle.lasso_shrink.specs.Prefixes.{AreKept, PrefixNeedsEach, IsFirstPlace}
use Rattle.lasso_shrink.proofs.PrefixLemmas.{place_leaves, lasso_shorter, in_prefix}
use Rattle.lasso_shrink.proofs.lassos.shrink_prefix.Goals as goal

pub left_without-requires : goal.left_without-requires
left_without-requires c =
    let A = c.args.first.now in
    let B = c.args.second.now in
    let now = c.loop-place.current in
    let place : IsFirstPlace A B now c.in-Some.at = MatchOption-at_some (PrefixNeedsEach A B now) (IsFirstPlace A B now) c.in-Some.at c.in-Some.is c.loop-place.invariant.told in
    let within = place.within in
    omega (arith, within)

pub loop-place-smaller : goal.loop-place-smaller
loop-place-smaller c =
    let A = c.args.first.now in
    let B = c.args.second.now in
    let now = c.loop-place.current in
    let place : IsFirstPlace A B now c.in-Some.at = MatchOption-at_some (PrefixNeedsEach A B now) (IsFirstPlace A B now) c.in-Some.at c.in-Some.is c.loop-place.invariant.told in
    let within = place.within in
    let less = lasso_shorter now c.in-Some.at (omega (arith, within)) in
    let is = ap letters_of c.in_ok-current.ensures in
    omega (arith, less, is)

pub loop-place-preserved : goal.loop-place-preserved
loop-place-preserved c =
    let A = c.args.first.now in
    let B = c.args.second.now in
    let now = c.loop-place.current in
    let at = c.in-Some.at in
    let place : IsFirstPlace A B now at = MatchOption-at_some (PrefixNeedsEach A B now) (IsFirstPlace A B now) at c.in-Some.is c.loop-place.invariant.told in
    let within = place.within in
    let new = c.in_ok-current.current in
    let is : new ≡ lasso_without now at = c.in_ok-current.ensures in
    let leaves : LassoLeavesOne A B now new = subst (λ x. LassoLeavesOne A B now x) (sym is) (place_leaves A B now at place) in
    let (n, before) = c.loop-place.invariant.left_out in
    let less = lasso_shorter now at (omega (arith, within)) in
    let size = ap letters_of is in
    let fewer = c.loop-place.invariant.fewer in
    record {
      left_out = (suc n, (now, before, leaves));
      separates = subst (LassoSeparates A B) (sym is) place.keeps;
      told = c.in_ok-place-2.ensures;
      rests = subst (λ (x : Lasso). AreKept A x.prefix x.turn c.leave_out.new.self) (sym (is ∙ in_prefix now at within)) c.leave_out.ensures;
      other_rests = subst (λ (x : Lasso). AreKept B x.prefix x.turn c.leave_out-in-Some.new.self) (sym (is ∙ in_prefix now at within)) c.leave_out-in-Some.ensures;
      fewer = omega (arith, less, size, fewer);
    }
