use Rattle.std.proofs.Common.{◌≡◌, ◌+◌, ◌≤◌, ℕ, length, subst, sym, arith}
use Rattle.auto_core.specs.Quotient.{class_of}
use Rattle.quotient.specs.Counting.{IsCount, AreInOrder}
use Rattle.quotient.proofs.CountLemmas.{count_more, order_more, few_more}
use Rattle.letter_classes.proofs.ClassLemmas.{out_of_order}
use Rattle.letter_classes.proofs.classes.count_of.Goals as goal

pub returns-then-class-count-clause-none : goal.returns-then-class-count-clause-none
returns-then-class-count-clause-none c = out_of_order c.args.of.now c.loop-at.at c.loop-at.count (omega arith) c.loop-at.invariant.0 (omega arith)

pub loop-at-preserved : goal.loop-at-preserved
loop-at-preserved c =
    let of = c.args.of.now in
    let at : ℕ = c.loop-at.at in
    let n : ℕ = c.loop-at.count in
    let upto : class_of of at ≤ n = omega arith in
    let P : ℕ → Type 0 = λ m. IsCount of (at + 1) m × AreInOrder of (at + 1) × (m ≤ at + 1) in
    subst P (sym c.counted-count.ensures) (
      count_more of at n c.loop-at.invariant.0 upto,
      order_more of at n c.loop-at.invariant.0 upto c.loop-at.invariant.1,
      few_more (class_of of at) n at c.loop-at.invariant.2,
    )

pub returns-clause-some : goal.returns-clause-some
returns-clause-some c =
    let of = c.args.of.now in
    let over : c.loop-at.at ≡ length of = omega arith in
    let few : c.loop-at.count ≤ c.loop-at.at = c.loop-at.invariant.2 in
    let C : ℕ → Type 0 = λ q. IsCount of q c.loop-at.count in
    let O : ℕ → Type 0 = λ q. AreInOrder of q in
    record { counts = subst C over c.loop-at.invariant.0; order = subst O over c.loop-at.invariant.1; few = omega arith }
