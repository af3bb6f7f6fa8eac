use Rattle.std.proofs.Common.{◌≡◌, ◌-◌, ◌≤◌, ℕ, List, length, take, drop, sym, subst}
use Rattle.lasso_accept.specs.declared.tails.Tail.{Tail}
use Rattle.lasso_accept.specs.Tails.{AreTails, AreShort}
use Rattle.lasso_accept.proofs.TailLemmas.{tails_stay}
use Rattle.lasso_accept.proofs.tails.Tails.go_to.Goals as goal

pub returns-clause-tails : goal.returns-clause-tails
returns-clause-tails c = λ A has.
    let old : List ℕ = c.args.self.now.word.items in
    let word : List ℕ = c.args.word.now in
    let kept : List Tail = c.args.self.now.kept.items in
    let common : ℕ = c.common_end-common.result in
    let count : ℕ = c.short_ones-count.result in
    let D : List ℕ = c.deref.result.now in
    let is : D ≡ old = c.deref.ensures.value in
    let old_in : common ≤ length old = subst (λ l. common ≤ length l) is c.common_end-common.ensures.word in
    let same : drop (length old - common) old ≡ drop (length word - common) word = subst (λ l. drop (length l - common) l ≡ drop (length word - common) word) is c.common_end-common.ensures.same in
    let short : AreShort common (take count kept) = subst (λ l. AreShort common (take count l)) c.deref-2.ensures.value c.short_ones-count.ensures in
    subst (AreTails A word) (sym c.truncate.ensures.items) (tails_stay A old word common count kept old_in c.common_end-common.ensures.other same short has)
