use Rattle.std.proofs.Common.{◌≤◌, ◌++◌, List, ℕ, length, take, drop, sym, subst, rules}
use Rattle.lasso_accept.specs.Plane.{ArePlanes}
use Rattle.lasso_accept.proofs.LoopingLemmas.{written_whole}
use Rattle.lasso_accept.proofs.planes.planes_before.Goals as goal

pub returns : goal.returns
returns c = λ w planes.
    let A = c.args.automaton.now in
    let word : List ℕ = c.args.letters.now ++ w in
    let any : List ℕ = c.write_after.new.any in
    let flagged : List ℕ = c.write_after.new.flagged in
    let any_old : List ℕ = c.in_ok-any.any.items in
    let flagged_old : List ℕ = c.in_ok-flagged.flagged.items in
    let any_short : length any_old ≤ length any = search rules in
    let any_long : length any ≤ c.in_ok-any.any.len = search rules in
    let flagged_short : length flagged_old ≤ length flagged = search rules in
    let flagged_long : length flagged ≤ c.in_ok-flagged.flagged.len = search rules in
    let from_any = c.deref.ensures.value in
    let from_flagged = c.deref-2.ensures.value in
    let P : List ℕ → Type 0 = λ x. ArePlanes A w c.args.width x c.args.planes.now.flagged.items in
    let Q : List ℕ → Type 0 = λ x. ArePlanes A w c.args.width c.deref.result.now x in
    let new : ArePlanes A word c.args.width any flagged = c.write_after.ensures w (subst Q (sym from_flagged) (subst P (sym from_any) planes)) in
    let R : List ℕ → Type 0 = λ x. ArePlanes A word c.args.width x flagged in
    let any_new : List ℕ = take c.in_ok-any.any.len (any ++ drop (length any) any_old) in
    let S : List ℕ → Type 0 = λ x. ArePlanes A word c.args.width any_new x in
    subst S (sym (written_whole flagged flagged_old c.in_ok-flagged.flagged.len flagged_short flagged_long))
    (subst R (sym (written_whole any any_old c.in_ok-any.any.len any_short any_long)) new)
