use Rattle.std.proofs.Common.{◌≡◌, ◌+◌, ◌<◌, ◌≤◌, ℕ, Some, [], ◌∷◌, ◌++◌, length, get_or, refl, sym, ap, ◌∙◌, subst, arith}
use Rattle.std.proofs.lemmas.Bool.{false≢true}
use Rattle.std.proofs.lemmas.List.{get_or_default}
use Rattle.auto_core.specs.Quotient.{class_of}
use Rattle.map_laws.specs.Maps.{HasSameColumns}
use Rattle.letter_classes.specs.Columns.{AreFirsts, JoinsEqualBelow, IsFirstUnlike}
use Rattle.letter_classes.proofs.ClassLemmas.{class_counted, first_new, first_old, joined_new, joined_old, unlike, ok_is, some_is}
use Rattle.letter_classes.proofs.classing.check.Goals as goal
use Rattle.letter_classes.proofs.classing.check.Goals.{then-class-len+in_ok-push, else-class-len+else-not-has_same_columns}

pub returns-then-not-has_same_columns-clause-some : goal.returns-then-not-has_same_columns-clause-some
returns-then-not-has_same_columns-clause-some c = λ a e.
    let A = c.args.automaton.now in
    let classes = c.args.classes.now in
    let n : ℕ = c.loop-letter.letter in
    let firsts = c.loop-letter.firsts.items in
    let k = c.loop-letter.invariant in
    let at : c.class-class.result ≡ class_of classes n = c.class-class.ensures.class in
    let lt : class_of classes n < length firsts = omega (arith, c.if-class-len.false, c.len.ensures, at) in
    let lt' : c.class-class.result < length firsts = omega (arith, lt, at) in
    let first : c.index.result.now ≡ get_or firsts (class_of classes n) 0 =
    c.index.ensures ∙ get_or_default firsts c.class-class.result c.index.result.now 0 lt' ∙ ap (λ x. get_or firsts x 0) at in
    let differs : HasSameColumns A (get_or firsts (class_of classes n) 0) n → ⊥ = subst (λ x. HasSameColumns A x n → ⊥) first (λ h. false≢true (c.if-not-has_same_columns.ensures.1 h)) in
    let is : n ≡ a = some_is n a (ok_is (Some n) (Some a) e) in
    subst (λ x. IsFirstUnlike A classes x) is (unlike A classes firsts n k.0 k.1 (omega (arith, c.loop-letter-test.true, c.labels-letter-end.ensures.count)) lt differs)

pub loop-letter-preserved : goal.loop-letter-preserved
loop-letter-preserved c =
    let A = c.args.automaton.now in
    let classes = c.args.classes.now in
    let n : ℕ = c.loop-letter.letter in
    let firsts = c.loop-letter.firsts.items in
    let k = c.loop-letter.invariant in
    let at : c.class-class.result ≡ class_of classes n = c.class-class.ensures.class in
    let n_in : n < length classes = omega (arith, c.loop-letter-test.true, c.labels-letter-end.ensures.count, c.requires) in
    let upto : class_of classes n ≤ length firsts = class_counted classes n (length firsts) n_in c.class-class.ensures.in_order k.0.counts in
    elim c.if-class-len.branch as (λ _. AreFirsts classes (n + 1) c.if-class-len.firsts.items × JoinsEqualBelow A classes (n + 1)) [
      | then-class-len+in_ok-push w ↦
          let new : c.if-class-len.firsts.items ≡ firsts ++ n ∷ [] = ap (λ v. v.items) w.firsts-is ∙ w.in_ok-push.ensures.items in
          let same : length firsts ≡ class_of classes n = omega (arith, w.if-class-len.true, c.len.ensures, at, upto) in
          (subst (λ l. AreFirsts classes (n + 1) l) (sym new) (first_new A classes firsts n k.0 k.1 same), joined_new A classes firsts n k.0 k.1 same)
      | else-class-len+else-not-has_same_columns w ↦
          let new : c.if-class-len.firsts.items ≡ firsts = ap (λ v. v.items) w.firsts-is in
          let lt : class_of classes n < length firsts = omega (arith, w.if-class-len.false, c.len.ensures, at) in
          let lt' : c.class-class.result < length firsts = omega (arith, lt, at) in
          let first : w.index.result.now ≡ get_or firsts (class_of classes n) 0 =
          w.index.ensures ∙ get_or_default firsts c.class-class.result w.index.result.now 0 lt' ∙ ap (λ x. get_or firsts x 0) at in
          let same : HasSameColumns A (get_or firsts (class_of classes n) 0) n = subst (λ x. HasSameColumns A x n) first (w.if-not-has_same_columns.ensures.0 refl) in
          (subst (λ l. AreFirsts classes (n + 1) l) (sym new) (first_old A classes firsts n k.0 k.1 lt), joined_old A classes firsts n k.0 k.1 lt same)
    ]

pub returns-clause-none : goal.returns-clause-none
returns-clause-none c = λ e a b a_in b_in same.
    let over : c.loop-letter.letter ≡ c.args.automaton.now.labels = omega arith in
    c.loop-letter.invariant.1 a b (omega arith) (omega arith) same
