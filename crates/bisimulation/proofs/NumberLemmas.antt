-- Classes that are numbered in the order in which they appear.
use Rattle.std.proofs.Common.{◌≡◌, ℕ, ◌+◌, ◌<◌, ◌≤◌, ◌==◌, inl, inr, false, cond, List, [], ◌∷◌, ◌++◌, length, nat_eq, refl, sym, ap, ◌∙◌, subst, arith, length-append}
use Rattle.std.proofs.lemmas.Bool.{cases_eq, cases_lt, cases_Bool, eqb-true, eq-eqb}
use Rattle.std.proofs.lemmas.List.{get_or_append_left, get_or_push, get_or_default}
use Rattle.auto_core.specs.Quotient.{class_of, AreClasses, AreClassesOf}
use Rattle.indexmap.specs.IndexSet.{insert_key}
use Rattle.quotient.specs.Counting.{IsClassFor, HasShapeFault}
use Rattle.quotient.proofs.CountLemmas.{IsClassing, none_classed, classing_more, classed}
use Rattle.bisimulation.proofs.PutLemmas.{put_number}

abbrev pub Joined : List ℕ → ℕ → ℕ → Type 0
Joined of p q = class_of of p ≡ class_of of q

pub record IsNumbering (of seen made : List ℕ) (i : ℕ) : Type 0 where
  pub classing : IsClassing (Joined of) made i (length seen)
  pub at : (j : ℕ) → j < i → class_of seen (class_of made j) ≡ class_of of j

pub numbering_starts : (of seen made : List ℕ) → seen ≡ [] → made ≡ [] → IsNumbering of seen made 0
numbering_starts of seen made no_key none = record {
  classing =
      subst (λ (l : List ℕ). IsClassing (Joined of) l 0 (length seen)) (sym none)
      (subst (λ (l : List ℕ). IsClassing (Joined of) [] 0 (length l)) (sym no_key) (none_classed (Joined of)));
  at = λ j lt. absurd (omega arith);
}

module _ (of seen new made after : List ℕ) (i number x : ℕ) (k : IsNumbering of seen made i) (is : x ≡ class_of of i)
    (put : new ≡ insert_key nat_eq seen x) (within : number < length new) (stands : class_of new number ≡ x) (pushed : after ≡ made ++ number ∷ []) where
  joined : (p q r : ℕ) → Joined of p q → Joined of q r → Joined of p r
  joined p q r one two = one ∙ two

  made_in : (j : ℕ) → j < i → class_of made j < length seen
  made_in j lt = (k.classing.counts (class_of made j)).1 (j, lt, refl)

  old_at : (j : ℕ) → j < i → class_of after j ≡ class_of made j
  old_at j lt = let len = k.classing.len in ap (λ l. class_of l j) pushed ∙ get_or_append_left made (number ∷ []) 0 j (omega arith)

  new_at : class_of after i ≡ number
  new_at = ap (λ l. class_of l i) pushed ∙ get_or_push made number 0 i k.classing.len

  kept_at : ((c : ℕ) → c < length seen → class_of new c ≡ class_of seen c) → (j : ℕ) → j < i + 1 → class_of new (class_of after j) ≡ class_of of j
  kept_at same j lt = elim (cases_eq j i) [
    | inl e ↦ ap (λ m. class_of new (class_of after m)) e ∙ ap (class_of new) new_at ∙ stands ∙ is ∙ ap (class_of of) (sym e)
    | inr apart ↦ let before : j < i = omega arith in ap (class_of new) (old_at j before) ∙ same (class_of made j) (made_in j before) ∙ k.at j before
  ]

  step : (m : ℕ) → cond (number == length seen) (length seen + 1) (length seen) ≡ m → IsClassFor (Joined of) made i (length seen) number → IsClassing (Joined of) after (i + 1) m
  step m count class =
      subst (λ (l : List ℕ). IsClassing (Joined of) l (i + 1) m) (sym pushed)
      (subst (λ (c : ℕ). IsClassing (Joined of) (made ++ number ∷ []) (i + 1) c) count
      (classing_more (Joined of) joined made i (length seen) number refl k.classing class))

  pub numbering_more : IsNumbering of new after (i + 1)
  numbering_more = elim (put_number seen new x put) [
    | inl h ↦
        let same : length new ≡ length seen = ap length h.0 in
        let in_seen : number < length seen = omega arith in
        let (j, j_in, at) = (k.classing.counts number).0 in_seen in
        let alike : Joined of j i = sym (k.at j j_in) ∙ ap (class_of seen) at ∙ ap (λ l. class_of l number) (sym h.0) ∙ stands ∙ is in
        let off : (number == length seen) ≡ false = not_equal number (length seen) in_seen in
        record {
          classing = step (length new) (ap (λ b. cond b (length seen + 1) (length seen)) off ∙ sym same) (inl (j, j_in, alike, sym alike, sym at));
          at = kept_at (λ c lt. ap (λ l. class_of l c) h.0);
        }
    | inr h ↦
        let size : length new ≡ length seen + 1 = ap length h.0 ∙ length-append seen (x ∷ []) in
        let old_key : (c : ℕ) → c < length seen → class_of new c ≡ class_of seen c = λ c lt. ap (λ l. class_of l c) h.0 ∙ get_or_append_left seen (x ∷ []) 0 c lt in
        let last : number ≡ length seen = elim (cases_lt number (length seen)) [
          | inl lt ↦ absurd (h.1 (number, lt, get_or_default seen number x 0 lt ∙ sym (old_key number lt) ∙ stands))
          | inr past ↦ omega arith
        ] in
        record {
          classing = step (length new) (ap (λ b. cond b (length seen + 1) (length seen)) (eq-eqb number (length seen) last) ∙ sym size)
              (inr ((λ p p_in one two. h.1 (class_of made p, made_in p p_in, get_or_default seen (class_of made p) x 0 (made_in p p_in) ∙ k.at p p_in ∙ one ∙ sym is)), last));
          at = kept_at old_key;
        }
  ]
    where
      not_equal : (a b : ℕ) → a < b → (a == b) ≡ false
      not_equal a b lt = elim (cases_Bool (a == b)) [
        | inl on ↦ let e = eqb-true a b on in absurd (omega arith)
        | inr off ↦ off
      ]

pub numbering_ends : (of seen made : List ℕ) (i : ℕ) → IsNumbering of seen made i → 1 ≤ length of → i ≡ length of → AreClassesOf (length of) (Joined of) made
numbering_ends of seen made i k some e = subst (λ (m : ℕ). AreClassesOf m (Joined of) made) e (classed (Joined of) made i (length seen) (omega arith) k.classing)

-- Classes have no fault.
pub no_fault : (classes : List ℕ) → AreClasses classes → HasShapeFault classes → ⊥
no_fault classes valid (inl empty) = let some = valid.some in omega (arith, empty)
no_fault classes valid (inr (q, c, q_in, lt, none)) = let (p, p_in, is) = valid.in_order q c q_in lt in none p p_in is
