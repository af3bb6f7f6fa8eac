-- Classes of letters, one letter after another.
use Rattle.std.proofs.Common.{◌≡◌, ℕ, ◌+◌, ◌<◌, ◌≤◌, inl, inr, cond, false, ◌==◌, Result, Ok, Err, Option, Some, None, List, [], ◌∷◌, ◌++◌, length, get_or, refl, sym, ap, ◌∙◌, subst, arith, length-append}
use Rattle.std.proofs.lemmas.Bool.{cases_lt, cases_eq, cases_Bool, eqb-true, eq-eqb}
use Rattle.std.proofs.lemmas.List.{get_or_append_left, get_or_push}
use Rattle.auto_core.specs.Automaton.{Automaton}
use Rattle.auto_core.specs.Quotient.{class_of}
use Rattle.quotient.specs.Counting.{IsCount, AreInOrder, IsClassFor}
use Rattle.quotient.proofs.CountLemmas.{IsClassing, none_classed, classing_more, class_upto, count_more}
use Rattle.letter_classes.specs.Columns.{AreLetterClasses, IsOutOfOrder, AreFirsts, JoinsEqualBelow, IsFirstUnlike, AreClassesOfColumns, IsFound}
use Rattle.map_laws.specs.Maps.{HasSameColumns}

pub same_refl : (A : Automaton) (a : ℕ) → HasSameColumns A a a
same_refl A a p q = (λ m. m, λ m. m)

pub same_sym : (A : Automaton) (a b : ℕ) → HasSameColumns A a b → HasSameColumns A b a
same_sym A a b h p q = ((h p q).1, (h p q).0)

pub same_trans : (A : Automaton) (a b c : ℕ) → HasSameColumns A a b → HasSameColumns A b c → HasSameColumns A a c
same_trans A a b c h g p q = (λ m. (g p q).0 ((h p q).0 m), λ m. (h p q).1 ((g p q).1 m))

-- a class number past those counted
pub out_of_order : (classes : List ℕ) (q n : ℕ) → q < length classes → IsCount classes q n → n < class_of classes q → IsOutOfOrder classes
out_of_order classes q n q_in count past = (q, n, q_in, past, λ p p_in is. let lt : n < n = (count n).1 (p, p_in, is) in omega arith)

pub class_counted : (classes : List ℕ) (q n : ℕ) → q < length classes → AreInOrder classes (length classes) → IsCount classes q n → class_of classes q ≤ n
class_counted classes q n q_in order count = elim (cases_lt n (class_of classes q)) [
  | inl lt ↦
      let (p, p_in, is) = order q n q_in lt in
      let no_more : n < n = (count n).1 (p, p_in, is) in
      absurd (omega arith)
  | inr le ↦ le
]

-- ---- the coarsest classes

-- the letters below n are classed, and each class has its first letter
pub record IsUnderWay (A : Automaton) (classes : List ℕ) (n : ℕ) (firsts : List ℕ) : Type 0 where
  pub classing : IsClassing (HasSameColumns A) classes n (length firsts)
  pub each : (c : ℕ) → c < length firsts → (get_or firsts c 0 < n) × (class_of classes (get_or firsts c 0) ≡ c)

pub begun : (A : Automaton) → IsUnderWay A [] 0 []
begun A = record { classing = none_classed (HasSameColumns A); each = λ c lt. absurd (omega arith) }

module _ (A : Automaton) (classes : List ℕ) (n : ℕ) (firsts : List ℕ) (class : ℕ) (k : IsUnderWay A classes n firsts) (is : IsFound A firsts n class) where
  for_it : IsClassFor (HasSameColumns A) classes n (length firsts) class
  for_it = elim is [
    | inl known ↦
        let (below, at) = k.each class known.0 in
        inl (get_or firsts class 0, below, known.1, same_sym A (get_or firsts class 0) n known.1, sym at)
    | inr none ↦ inr (
      (λ p p_in to from.
          let c : ℕ = class_of classes p in
          let c_in : c < length firsts = (k.classing.counts c).1 (p, p_in, refl) in
          let (below, at) = k.each c c_in in
          let same : HasSameColumns A (get_or firsts c 0) p = ((k.classing.joins (get_or firsts c 0) p below p_in).0 at).0 in
          none.1 c c_in (same_trans A (get_or firsts c 0) p n same to)),
      none.0,
    )
  ]

  more : IsClassing (HasSameColumns A) (classes ++ class ∷ []) (n + 1) (cond (class == length firsts) (length firsts + 1) (length firsts))
  more = classing_more (HasSameColumns A) (same_trans A) classes n (length firsts) class (same_refl A n) k.classing for_it

  pub found_upto : class ≤ length firsts
  found_upto = class_upto (HasSameColumns A) (same_trans A) classes n (length firsts) class (same_refl A n) k.classing for_it

  old_class : (c : ℕ) → c < length firsts → (get_or firsts c 0 < n + 1) × (class_of (classes ++ class ∷ []) (get_or firsts c 0) ≡ c)
  old_class c c_in =
      let (below, at) = k.each c c_in in
      let len = k.classing.len in
      (omega arith, get_or_append_left classes (class ∷ []) 0 (get_or firsts c 0) (omega arith) ∙ at)

  -- a class that was there
  pub goes_on : (class ≡ length firsts → ⊥) → IsUnderWay A (classes ++ class ∷ []) (n + 1) firsts
  goes_on apart = record {
    classing =
        let upto = found_upto in
        let P : _ → Type 0 = λ b. IsClassing (HasSameColumns A) (classes ++ class ∷ []) (n + 1) (cond b (length firsts + 1) (length firsts)) in
        subst P (not_equal class (length firsts) apart) more;
    each = old_class;
  }
    where
      not_equal : (x y : ℕ) → (x ≡ y → ⊥) → (x == y) ≡ false
      not_equal x y h = elim (cases_Bool (x == y)) [ inl e ↦ absurd (h (eqb-true x y e)) | inr e ↦ e ]

  -- a new one
  pub begins : class ≡ length firsts → IsUnderWay A (classes ++ class ∷ []) (n + 1) (firsts ++ n ∷ [])
  begins same = record {
    classing =
        let P : _ → Type 0 = λ b. IsClassing (HasSameColumns A) (classes ++ class ∷ []) (n + 1) (cond b (length firsts + 1) (length firsts)) in
        let Q : ℕ → Type 0 = λ m. IsClassing (HasSameColumns A) (classes ++ class ∷ []) (n + 1) m in
        let len : length firsts + 1 ≡ length (firsts ++ n ∷ []) = omega (arith, length-append firsts (n ∷ [])) in
        subst Q len (subst P (eq-eqb class (length firsts) same) more);
    each = λ c c_in. elim (cases_lt c (length firsts)) [
      | inl lt ↦
          let old = old_class c lt in
          let at : get_or (firsts ++ n ∷ []) c 0 ≡ get_or firsts c 0 = get_or_append_left firsts (n ∷ []) 0 c lt in
          subst (λ y. (y < n + 1) × (class_of (classes ++ class ∷ []) y ≡ c)) (sym at) old
      | inr ge ↦
          let len : length (firsts ++ n ∷ []) ≡ length firsts + 1 = omega (arith, length-append firsts (n ∷ [])) in
          let last : c ≡ length firsts = omega arith in
          let at : get_or (firsts ++ n ∷ []) c 0 ≡ n = get_or_push firsts n 0 c (sym last) in
          subst (λ y. (y < n + 1) × (class_of (classes ++ class ∷ []) y ≡ c)) (sym at)
          (omega arith, get_or_push classes class 0 n k.classing.len ∙ same ∙ sym last)
    ];
  }

pub done : (A : Automaton) (classes : List ℕ) (firsts : List ℕ) → IsUnderWay A classes A.labels firsts → AreClassesOfColumns A classes
done A classes firsts k = record {
  len = k.classing.len;
  order = subst (λ m. AreInOrder classes m) (sym k.classing.len) k.classing.order;
  joins = λ a b a_in b_in. (
    λ e. ((k.classing.joins a b a_in b_in).0 e).0,
    λ h. (k.classing.joins a b a_in b_in).1 (h, same_sym A a b h),
  );
}

pub counted_classes : (A : Automaton) (classes : List ℕ) (n : ℕ) (firsts : List ℕ) → IsUnderWay A classes n firsts → AreLetterClasses classes (length firsts)
counted_classes A classes n firsts k = record {
  counts = subst (λ m. IsCount classes m (length firsts)) (sym k.classing.len) k.classing.counts;
  order = subst (λ m. AreInOrder classes m) (sym k.classing.len) k.classing.order;
  few = let len = k.classing.len in let few = k.classing.few in omega arith;
}

-- ---- given classes

pub no_firsts : (classes : List ℕ) → AreFirsts classes 0 []
no_firsts classes = record { counts = λ c. (λ h. absurd (omega arith), λ (p, p_in, is). absurd (omega arith)); each = λ c lt. absurd (omega arith) }

pub none_joined : (A : Automaton) (classes : List ℕ) → JoinsEqualBelow A classes 0
none_joined A classes a b a_in b_in e = absurd (omega arith)

module _ (A : Automaton) (classes firsts : List ℕ) (n : ℕ) (f : AreFirsts classes n firsts) (j : JoinsEqualBelow A classes n) where
  pub first_new : length firsts ≡ class_of classes n → AreFirsts classes (n + 1) (firsts ++ n ∷ [])
  first_new is = record {
    counts =
        let P : _ → Type 0 = λ b. IsCount classes (n + 1) (cond b (length firsts + 1) (length firsts)) in
        let Q : ℕ → Type 0 = λ m. IsCount classes (n + 1) m in
        let len : length firsts + 1 ≡ length (firsts ++ n ∷ []) = omega (arith, length-append firsts (n ∷ [])) in
        subst Q len (subst P (eq-eqb (class_of classes n) (length firsts) (sym is)) (count_more classes n (length firsts) f.counts (omega arith)));
    each = λ c c_in. elim (cases_lt c (length firsts)) [
      | inl lt ↦
          let (below, of) = f.each c lt in
          let at : get_or (firsts ++ n ∷ []) c 0 ≡ get_or firsts c 0 = get_or_append_left firsts (n ∷ []) 0 c lt in
          subst (λ y. (y < n + 1) × (class_of classes y ≡ c)) (sym at) (omega arith, of)
      | inr ge ↦
          let len : length (firsts ++ n ∷ []) ≡ length firsts + 1 = omega (arith, length-append firsts (n ∷ [])) in
          let last : c ≡ length firsts = omega arith in
          let at : get_or (firsts ++ n ∷ []) c 0 ≡ n = get_or_push firsts n 0 c (sym last) in
          subst (λ y. (y < n + 1) × (class_of classes y ≡ c)) (sym at) (omega arith, sym is ∙ sym last)
    ];
  }

  pub first_old : class_of classes n < length firsts → AreFirsts classes (n + 1) firsts
  first_old lt = record {
    counts =
        let P : _ → Type 0 = λ b. IsCount classes (n + 1) (cond b (length firsts + 1) (length firsts)) in
        subst P (not_equal (class_of classes n) (length firsts) (λ e. omega arith)) (count_more classes n (length firsts) f.counts (omega arith));
    each = λ c c_in. let (below, of) = f.each c c_in in (omega arith, of);
  }
    where
      not_equal : (x y : ℕ) → (x ≡ y → ⊥) → (x == y) ≡ false
      not_equal x y h = elim (cases_Bool (x == y)) [ inl e ↦ absurd (h (eqb-true x y e)) | inr e ↦ e ]

  -- what the letters before have with the new one
  joined_more : ((a : ℕ) → a < n → class_of classes a ≡ class_of classes n → HasSameColumns A a n) → JoinsEqualBelow A classes (n + 1)
  joined_more old a b a_in b_in e = elim (cases_eq a n) [
    | inl a_is ↦ elim (cases_eq b n) [
      | inl b_is ↦ subst (λ x. HasSameColumns A a x) (a_is ∙ sym b_is) (same_refl A a)
      | inr b_apart ↦ subst (λ x. HasSameColumns A x b) (sym a_is) (same_sym A b n (old b (omega arith) (sym e ∙ ap (class_of classes) a_is)))
    ]
    | inr a_apart ↦ elim (cases_eq b n) [
      | inl b_is ↦ subst (λ x. HasSameColumns A a x) (sym b_is) (old a (omega arith) (e ∙ ap (class_of classes) b_is))
      | inr b_apart ↦ j a b (omega arith) (omega arith) e
    ]
  ]

  pub joined_new : length firsts ≡ class_of classes n → JoinsEqualBelow A classes (n + 1)
  joined_new is = joined_more (λ a a_in e. let lt : class_of classes a < length firsts = (f.counts (class_of classes a)).1 (a, a_in, refl) in absurd (omega arith))

  pub joined_old : class_of classes n < length firsts → HasSameColumns A (get_or firsts (class_of classes n) 0) n → JoinsEqualBelow A classes (n + 1)
  joined_old lt same = joined_more (λ a a_in e.
      let (below, of) = f.each (class_of classes n) lt in
      same_trans A a (get_or firsts (class_of classes n) 0) n (j a (get_or firsts (class_of classes n) 0) a_in below (e ∙ sym of)) same)

  pub unlike : n < A.labels → class_of classes n < length firsts → (HasSameColumns A (get_or firsts (class_of classes n) 0) n → ⊥) → IsFirstUnlike A classes n
  unlike n_in lt differs =
      let (below, of) = f.each (class_of classes n) lt in
      record { is_label = n_in; like = get_or firsts (class_of classes n) 0; earlier = below; class = of; differs = differs; before = j }

-- ---- equal answers have equal values

pub ok_is : {X Y : Type 0} (x y : X) → ◌≡◌ {A = Result X Y} (Ok x) (Ok y) → x ≡ y
ok_is x y e = ap (λ r. (unwrap_ok x r)) e
  where
    unwrap_ok : {X Y : Type 0} → X → Result X Y → X
    unwrap_ok d (Ok z) = z
    unwrap_ok d (Err z) = d

pub some_is : (x y : ℕ) → ◌≡◌ {A = Option ℕ} (Some x) (Some y) → x ≡ y
some_is x y e = ap (λ r. (unwrap_some x r)) e
  where
    unwrap_some : ℕ → Option ℕ → ℕ
    unwrap_some d (Some z) = z
    unwrap_some d None = d
