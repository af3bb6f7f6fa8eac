use Rattle.std.proofs.Common.{◌≡◌, ◌+◌, ◌<◌, ◌≤◌, ◌==◌, ◌∷◌, ◌++◌, [], ℕ, List, cond, sym, subst, arith}
use Rattle.auto_core.specs.Game.{Holds}
use Rattle.quotient.specs.Counting.{IsCount, IsClassFor}
use Rattle.quotient.proofs.CountLemmas.{IsClassing, class_upto, classing_more, classed}
use Rattle.quotient.proofs.classing.classes_of.Goals as goal

pub counted-count-requires-clause-known : goal.counted-count-requires-clause-known
counted-count-requires-clause-known c =
    let R = Holds c.args.rel.now.pairs in
    let n : ℕ = c.loop-state.state in
    let F : List ℕ → Type 0 = λ l. IsClassFor R l n c.loop-state.count c.class_for-class.result in
    let near : n < c.args.rel.now.size = omega arith in
    class_upto R c.requires.transitive c.loop-state.of.items n c.loop-state.count c.class_for-class.result (c.requires.reflexive n near) c.loop-state.invariant (subst F c.deref.ensures.value c.class_for-class.ensures)

pub loop-state-preserved : goal.loop-state-preserved
loop-state-preserved c =
    let R = Holds c.args.rel.now.pairs in
    let n : ℕ = c.loop-state.state in
    let count : ℕ = c.loop-state.count in
    let class : ℕ = c.class_for-class.result in
    let of = c.loop-state.of.items in
    let F : List ℕ → Type 0 = λ l. IsClassFor R l n count class in
    let near : n < c.args.rel.now.size = omega arith in
    let items : c.push.new.self.items ≡ of ++ class ∷ [] = c.in_ok-push.ensures.items in
    let P : List ℕ → Type 0 = λ l. IsClassing R l (n + 1) (cond (class == count) (count + 1) count) in
    let Q : ℕ → Type 0 = λ m. IsClassing R c.push.new.self.items (n + 1) m in
    subst Q (sym c.counted-count.ensures)
    (subst P (sym items) (classing_more R c.requires.transitive of n count class (c.requires.reflexive n near) c.loop-state.invariant (subst F c.deref.ensures.value c.class_for-class.ensures)))

pub invariant_of-result : goal.invariant_of-result
invariant_of-result c =
    let R = Holds c.args.rel.now.pairs in
    let k = c.loop-state.invariant in
    let n : ℕ = c.loop-state.state in
    let some : 1 ≤ n = omega (arith, c.size-state-end.ensures.count, c.requires.some) in
    let C : ℕ → Type 0 = λ q. IsCount c.loop-state.of.items q c.loop-state.count in
    let len = k.len in
    let few = k.few in
    record { valid = (classed R c.loop-state.of.items n c.loop-state.count some k).valid; count = subst C (sym k.len) k.counts; few = omega arith }
