-- Classes counted one state after another.
use Rattle.std.proofs.Common.{◌≡◌, ℕ, zero, suc, ◌+◌, ◌<◌, ◌≤◌, ◌↔◌, inl, inr, cond, ◌==◌, List, [], ◌∷◌, ◌++◌, length, refl, sym, ap, ◌∙◌, subst, arith, length-append}
use Rattle.std.proofs.lemmas.Bool.{cases_eq, cases_Bool, eqb-true, eq-eqb, false≢true}
use Rattle.std.proofs.lemmas.List.{get_or_append_left, get_or_push}
use Rattle.auto_core.specs.Game.{Holds}
use Rattle.auto_core.proofs.ReachLemmas.{close_refl, close_trans}
use Rattle.bit_rel.specs.Relation.{Relation, IsClosed}
use Rattle.auto_core.specs.Quotient.{class_of, AreClassesOf}
use Rattle.quotient.specs.Counting.{IsCount, AreInOrder, HasShapeFault, IsClassFor}

pub no_classes : (classes : List ℕ) → IsCount classes 0 0
no_classes classes c = (λ h. absurd (omega arith), λ (p, p_in, is). omega arith)

-- the count with one state more, whose class is the next one or one that was counted
count_on : (classes : List ℕ) (q n : ℕ) → IsCount classes q n → class_of classes q ≡ n → IsCount classes (q + 1) (n + 1)
count_on classes q n count is c = (
  λ h. elim (cases_eq c n) [
    | inl e ↦ (q, omega arith, is ∙ sym e)
    | inr apart ↦ let (p, p_in, at) = (count c).0 (omega arith) in (p, omega arith, at)
  ],
  λ (p, p_in, at). elim (cases_eq p q) [
    | inl e ↦ let same : c ≡ n = sym at ∙ ap (class_of classes) e ∙ is in omega arith
    | inr apart ↦ let lt : c < n = (count c).1 (p, omega arith, at) in omega arith
  ],
)

count_stays : (classes : List ℕ) (q n : ℕ) → IsCount classes q n → class_of classes q < n → IsCount classes (q + 1) n
count_stays classes q n count lt c = (
  λ h. let (p, p_in, at) = (count c).0 h in (p, omega arith, at),
  λ (p, p_in, at). elim (cases_eq p q) [
    | inl e ↦ let same : c ≡ class_of classes q = sym at ∙ ap (class_of classes) e in omega arith
    | inr apart ↦ (count c).1 (p, omega arith, at)
  ],
)

pub count_more : (classes : List ℕ) (q n : ℕ) → IsCount classes q n → class_of classes q ≤ n → IsCount classes (q + 1) (cond (class_of classes q == n) (n + 1) n)
count_more classes q n count upto = elim (cases_Bool (class_of classes q == n)) [
  | inl is ↦ rw is (count_on classes q n count (eqb-true (class_of classes q) n is))
  | inr not_is ↦
      rw not_is (count_stays classes q n count (elim (cases_eq (class_of classes q) n) [
        | inl e ↦ absurd (false≢true (sym not_is ∙ eq-eqb (class_of classes q) n e))
        | inr apart ↦ omega arith
      ]))
]

pub order_more : (classes : List ℕ) (q n : ℕ) → IsCount classes q n → class_of classes q ≤ n → AreInOrder classes q → AreInOrder classes (q + 1)
order_more classes q n count upto order p c p_in lt = elim (cases_eq p q) [
  | inl e ↦
      let at : class_of classes p ≡ class_of classes q = ap (class_of classes) e in
      let (r, r_in, is) = (count c).0 (omega arith) in
      (r, omega arith, is)
  | inr apart ↦ order p c (omega arith) lt
]

pub few_more : (m n q : ℕ) → n ≤ q → cond (m == n) (n + 1) n ≤ q + 1
few_more m n q h = elim (cases_Bool (m == n)) [ inl is ↦ rw is (omega arith) | inr not_is ↦ rw not_is (omega arith) ]

-- a class number past those counted
pub past_count : (classes : List ℕ) (q n : ℕ) → q < length classes → IsCount classes q n → n < class_of classes q → HasShapeFault classes
past_count classes q n q_in count past = inr (q, n, q_in, past, λ p p_in is. let lt : n < n = (count n).1 (p, p_in, is) in omega arith)

-- none is counted where there is no state
pub none_counted : (classes : List ℕ) (q : ℕ) → IsCount classes q 0 → q ≡ 0
none_counted classes zero count = refl
none_counted classes (suc q) count = let lt : class_of classes q < 0 = (count (class_of classes q)).1 (q, omega arith, refl) in absurd (omega arith)

-- ---- the classes of a relation, one state after another

-- the first n states are classed
pub record IsClassing (R : ℕ → ℕ → Type 0) (classes : List ℕ) (n count : ℕ) : Type 0 where
  pub len : length classes ≡ n
  pub counts : IsCount classes n count
  pub order : AreInOrder classes n
  pub few : count ≤ n
  pub joins : (p q : ℕ) → p < n → q < n → (class_of classes p ≡ class_of classes q) ↔ (R p q × R q p)

pub none_classed : (R : ℕ → ℕ → Type 0) → IsClassing R [] 0 0
none_classed R = record {
  len = refl;
  counts = no_classes [];
  order = λ p c p_in lt. absurd (omega arith);
  few = omega arith;
  joins = λ p q p_in q_in. absurd (omega arith);
}

-- what agrees on the first q states counts the same
count_as : (xs ys : List ℕ) (q n : ℕ) → ((p : ℕ) → p < q → class_of ys p ≡ class_of xs p) → IsCount xs q n → IsCount ys q n
count_as xs ys q n same count c = (
  λ h. let (p, p_in, is) = (count c).0 h in (p, p_in, same p p_in ∙ is),
  λ (p, p_in, is). (count c).1 (p, p_in, sym (same p p_in) ∙ is),
)

order_as : (xs ys : List ℕ) (q : ℕ) → ((p : ℕ) → p < q → class_of ys p ≡ class_of xs p) → AreInOrder xs q → AreInOrder ys q
order_as xs ys q same order p c p_in lt =
    let at = same p p_in in
    let (r, r_in, is) = order p c p_in (omega arith) in
    (r, r_in, same r (omega arith) ∙ is)

module _ (R : ℕ → ℕ → Type 0) (joined : (p q r : ℕ) → R p q → R q r → R p r) (classes : List ℕ) (n count class : ℕ) (here : R n n)
    (k : IsClassing R classes n count) (is : IsClassFor R classes n count class) where
  new : List ℕ
  new = classes ++ class ∷ []

  before : (p : ℕ) → p < n → class_of new p ≡ class_of classes p
  unfolding new
  before p p_in = let len = k.len in get_or_append_left classes (class ∷ []) 0 p (omega arith)

  at : class_of new n ≡ class
  unfolding new
  at = get_or_push classes class 0 n k.len

  pub class_upto : class ≤ count
  class_upto = elim is [
    | inl found ↦
        let (p, p_in, r, s, same) = found in
        let lt : class_of classes p < count = (k.counts (class_of classes p)).1 (p, p_in, refl) in
        omega arith
    | inr none ↦ let e = none.1 in omega arith
  ]

  -- a state before the new one against the new one
  old_new : (p : ℕ) → p < n → (class_of classes p ≡ class) ↔ (R p n × R n p)
  old_new p p_in = elim is [
    | inl found ↦
        let (q, q_in, to, from, same) = found in (
          λ e.
              let both = (k.joins p q p_in q_in).0 (e ∙ same) in
              (joined p q n both.0 to, joined n q p from both.1),
          λ (r, s). (k.joins p q p_in q_in).1 (joined p n q r from, joined q n p to s) ∙ sym same,
        )
    | inr none ↦ (
      λ e.
          let lt : class_of classes p < count = (k.counts (class_of classes p)).1 (p, p_in, refl) in
          let last = none.1 in
          absurd (omega arith),
      λ (r, s). absurd (none.0 p p_in r s),
    )
  ]

  joins_on : (p q : ℕ) → p < n + 1 → q < n + 1 → (class_of new p ≡ class_of new q) ↔ (R p q × R q p)
  joins_on p q p_in q_in = elim (cases_eq p n) [
    | inl e ↦ elim (cases_eq q n) [
      | inl f ↦ (
        λ _. (subst (λ x. R x q) (sym e) (subst (λ x. R n x) (sym f) here), subst (λ x. R q x) (sym e) (subst (λ x. R x n) (sym f) here)),
        λ _. ap (class_of new) (e ∙ sym f),
      )
      | inr g ↦
          let q_old : q < n = omega arith in
          let law = old_new q q_old in (
            λ same.
                let both = law.0 (sym (before q q_old) ∙ sym same ∙ ap (class_of new) e ∙ at) in
                (subst (λ x. R x q) (sym e) both.1, subst (λ x. R q x) (sym e) both.0),
            λ (r, s). ap (class_of new) e ∙ at ∙ sym (law.1 (subst (λ x. R q x) e s, subst (λ x. R x q) e r)) ∙ sym (before q q_old),
          )
    ]
    | inr g ↦
        let p_old : p < n = omega arith in
        elim (cases_eq q n) [
          | inl f ↦
              let law = old_new p p_old in (
                λ same.
                    let both = law.0 (sym (before p p_old) ∙ same ∙ ap (class_of new) f ∙ at) in
                    (subst (λ x. R p x) (sym f) both.0, subst (λ x. R x p) (sym f) both.1),
                λ (r, s). before p p_old ∙ law.1 (subst (λ x. R p x) f r, subst (λ x. R x p) f s) ∙ sym at ∙ ap (class_of new) (sym f),
              )
          | inr h ↦
              let q_old : q < n = omega arith in
              let law = k.joins p q p_old q_old in (
                λ same. law.0 (sym (before p p_old) ∙ same ∙ before q q_old),
                λ both. before p p_old ∙ law.1 both ∙ sym (before q q_old),
              )
        ]
  ]

  pub classing_more : IsClassing R (classes ++ class ∷ []) (n + 1) (cond (class == count) (count + 1) count)
  unfolding new
  classing_more =
      let old_count = count_as classes new n count before k.counts in
      let upto : class_of new n ≤ count = let e = at in let u = class_upto in omega arith in
      let P : ℕ → Type 0 = λ c. IsCount (classes ++ class ∷ []) (n + 1) (cond (c == count) (count + 1) count) in
      record {
        len = let e = k.len in omega (arith, length-append classes (class ∷ []));
        counts = subst P at (count_more new n count old_count upto);
        order = order_more new n count old_count upto (order_as classes new n before k.order);
        few = few_more class count n k.few;
        joins = joins_on;
      }

pub classed : (R : ℕ → ℕ → Type 0) (classes : List ℕ) (n count : ℕ) → 1 ≤ n → IsClassing R classes n count → AreClassesOf n R classes
classed R classes n count some k = record {
  valid = record { some = let e = k.len in omega arith; in_order = λ q c q_in lt. let e = k.len in k.order q c (omega arith) lt };
  len = k.len;
  joins = k.joins;
}

-- ---- a closed relation is reflexive and transitive

pub closed_reflexive : (old new : Relation) → IsClosed old new → (p : ℕ) → p < new.size → Holds new.pairs p p
closed_reflexive old new k p p_in =
    let size = k.size in
    (k.pairs p p).1 (omega arith, omega arith, close_refl (Holds old.pairs) p)

pub closed_transitive : (old new : Relation) → IsClosed old new → (p q r : ℕ) → Holds new.pairs p q → Holds new.pairs q r → Holds new.pairs p r
closed_transitive old new k p q r h g =
    let first = (k.pairs p q).0 h in
    let second = (k.pairs q r).0 g in
    (k.pairs p r).1 (first.0, second.1, close_trans (Holds old.pairs) p q r first.2 second.2)
