use Rattle.std.proofs.Common.{◌≡◌, ◌+◌, ◌∷◌, ◌++◌, [], ℕ, List, length, sym, ap, ◌∙◌, subst, arith}
use Rattle.letter_classes.specs.Columns.{IsFound, AreLetterClasses}
use Rattle.letter_classes.proofs.ClassLemmas.{IsUnderWay, goes_on, begins, done, counted_classes}
use Rattle.letter_classes.proofs.classing.classes_of.Goals as goal
use Rattle.letter_classes.proofs.classing.classes_of.Goals.{then-class-len+in_ok-push-2, else-class-len}

pub loop-letter-preserved : goal.loop-letter-preserved
loop-letter-preserved c =
    let A = c.args.automaton.now in
    let n : ℕ = c.loop-letter.letter in
    let of = c.loop-letter.of.items in
    let firsts = c.loop-letter.firsts.items in
    let class : ℕ = c.class_for-class.result in
    let k = c.loop-letter.invariant in
    let is : IsFound A firsts n class = subst (λ l. IsFound A l n class) c.deref.ensures.value c.class_for-class.ensures in
    let P : List ℕ → List ℕ → Type 0 = λ l fs. IsUnderWay A l (n + 1) fs in
    let items : c.push.new.self.items ≡ of ++ class ∷ [] = c.in_ok-push.ensures.items in
    elim c.if-class-len.branch as (λ _. IsUnderWay A c.push.new.self.items (n + 1) c.if-class-len.firsts.items) [
      | then-class-len+in_ok-push-2 w ↦
          let new : c.if-class-len.firsts.items ≡ firsts ++ n ∷ [] = ap (λ v. v.items) w.firsts-is ∙ w.in_ok-push-2.ensures.items in
          let same : class ≡ length firsts = omega (arith, w.if-class-len.true, c.len.ensures) in
          subst (λ l. IsUnderWay A l (n + 1) c.if-class-len.firsts.items) (sym items) (subst (λ l. IsUnderWay A (of ++ class ∷ []) (n + 1) l) (sym new) (begins A of n firsts class k is same))
      | else-class-len w ↦
          let new : c.if-class-len.firsts.items ≡ firsts = ap (λ v. v.items) w.firsts-is in
          subst (λ l. IsUnderWay A l (n + 1) c.if-class-len.firsts.items) (sym items) (subst (λ l. IsUnderWay A (of ++ class ∷ []) (n + 1) l) (sym new)
          (goes_on A of n firsts class k is (λ e. omega (arith, w.if-class-len.false, c.len.ensures))))
    ]

pub invariant_of-result : goal.invariant_of-result
invariant_of-result c =
    let firsts = c.loop-letter.firsts.items in
    let count : length firsts ≡ c.len-count.result = omega (arith, c.len-count.ensures) in
    subst (λ n. AreLetterClasses c.loop-letter.of.items n) count (counted_classes c.args.automaton.now c.loop-letter.of.items c.loop-letter.letter firsts c.loop-letter.invariant)

pub returns : goal.returns
returns c =
    let A = c.args.automaton.now in
    let over : c.loop-letter.letter ≡ A.labels = omega (arith, c.labels-letter-end.ensures.count) in
    done A c.loop-letter.of.items c.loop-letter.firsts.items (subst (λ m. IsUnderWay A c.loop-letter.of.items m c.loop-letter.firsts.items) over c.loop-letter.invariant)
