use Rattle.std.proofs.Common.{◌≡◌, ◌≤◌, ℕ, List, length, sym, subst, rules}
use Rattle.auto_core.specs.Quotient.{AreClasses}
use Rattle.quotient.specs.Counting.{IsCount}
use Rattle.quotient.proofs.classes.Classes.build.Goals as goal

pub invariant_of-result : goal.invariant_of-result
invariant_of-result c =
    let told = c.in-Some.ensures.some in
    let items : c.in_ok-of.of.items ≡ c.args.of.now = search rules in
    let V : List ℕ → Type 0 = λ xs. AreClasses xs in
    let C : List ℕ → Type 0 = λ xs. IsCount xs (length xs) c.in-Some.count in
    let F : List ℕ → Type 0 = λ xs. c.in-Some.count ≤ length xs in
    record { valid = subst V (sym items) told.0; count = subst C (sym items) told.1; few = subst F (sym items) told.2 }
