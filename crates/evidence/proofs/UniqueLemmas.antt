-- Elements have one closure.
use Rattle.std.proofs.Common.{◌≡◌, ℕ, List, length, map, refl, sym, ap, ◌∙◌, subst, inl, inr, arith}
use Rattle.std.specs.Prelude.{filter}
use Rattle.std.specs.List.{range_with_len}
use Rattle.std.proofs.lemmas.Bool.{cases_lt}
use Rattle.std.proofs.lemmas.List.{length-map}
use Rattle.auto_core.specs.Outcome.{Rules, At, Entry, IsLeastSubsumer, origins_in}
use Rattle.cert_value.specs.declared.types.Element.{Element}
use Rattle.cert_value.specs.declared.types.Mark.{Mark}
use Rattle.cert_value.specs.declared.types.Mark.TheVariants.{Live, Under}
use Rattle.cert_value.specs.declared.types.StepLine.{StepLine}
use Rattle.auto_laws.proofs.PlaceLemmas.{at_same, at_within, at_some, same_by_places}
use Rattle.auto_laws.proofs.ListLemmas.{at_map}
use Rattle.evidence.specs.declared.parts.Closure.{Closure}
use Rattle.evidence.specs.Evidence.{IsMarked, AreLeastSubsumers, IsStepOf, IsEvidenceOf, marked_live}
use Rattle.evidence.proofs.MarkLemmas.{elements_size}

module _ (R : Rules Entry) (es : List Entry) where
  one_least : (x : Entry) (j k : ℕ) → IsLeastSubsumer R es x j → IsLeastSubsumer R es x k → j ≡ k
  one_least x j k a b = elim (cases_lt j k) [
    | inl less ↦ absurd (b.least j less a.here)
    | inr more ↦ elim (cases_lt k j) [
      | inl less ↦ absurd (a.least k less b.here)
      | inr same ↦ omega arith
    ]
  ]

  one_mark : (i : ℕ) (x : Entry) (m n : Mark) → IsMarked R es i x m → IsMarked R es i x n → m ≡ n
  one_mark i x Live Live a b = refl
  one_mark i x Live (Under k) a b = let d = b.0 in absurd (a d.place d.element d.by d.later d.is d.by_is d.subsumes)
  one_mark i x (Under j) Live a b = let d = a.0 in absurd (b d.place d.element d.by d.later d.is d.by_is d.subsumes)
  one_mark i x (Under j) (Under k) a b = ap Under (one_least x j k a.1 b.1)

  one_numbers : (cs : List Entry) (m n : List ℕ) → AreLeastSubsumers R es cs m → AreLeastSubsumers R es cs n → m ≡ n
  one_numbers cs m n a b = same_by_places m n (a.size ∙ sym b.size) (λ k i j i_is j_is.
      let within = at_within m k i i_is in
      let size = a.size in
      let c = at_some cs k (omega arith) in
      one_least c.0 i j (a.each k i c.0 c.1 i_is) (b.each k j c.0 c.1 j_is))

element_is : (m n : Element) → m.mark ≡ n.mark → m.origin ≡ n.origin → m ≡ n
element_is m n e f = ap (λ k. record { mark = k; origin = m.origin }) e ∙ ap (λ o. record { mark = n.mark; origin = o }) f

line_is : (l k : StepLine) → l.element ≡ k.element → l.by ≡ k.by → l ≡ k
line_is l k e f = ap (λ n. record { element = n; by = l.by }) e ∙ ap (λ n. record { element = k.element; by = n }) f

closure_is : (c d : Closure) → c.elements ≡ d.elements → c.cover ≡ d.cover → c.steps ≡ d.steps → c ≡ d
closure_is c d e f g =
    ap (λ x. record { elements = x; cover = c.cover; steps = c.steps }) e
    ∙ ap (λ x. record { elements = d.elements; cover = x; steps = c.steps }) f
    ∙ ap (λ x. record { elements = d.elements; cover = d.cover; steps = x }) g

-- There is one closure of a list of elements.
module _ (R : Rules Entry) (es : List Entry) (c d : Closure) (a : IsEvidenceOf R es c) (b : IsEvidenceOf R es d) where
  same_elements : c.elements ≡ d.elements
  same_elements = same_by_places c.elements d.elements (elements_size R es c a ∙ sym (elements_size R es d b)) (λ i m n m_is n_is.
      let within = at_within c.elements i m m_is in
      let size = elements_size R es c a in
      let x = at_some es i (omega arith) in
      element_is m n (one_mark R es i x.0 m.mark n.mark (a.marks i x.0 m x.1 m_is) (b.marks i x.0 n x.1 n_is))
      (at_same (origins_in es) i m.origin n.origin
      (subst (λ l. At l i m.origin) a.origins (at_map (λ (x : Element). x.origin) c.elements i m m_is))
      (subst (λ l. At l i n.origin) b.origins (at_map (λ (x : Element). x.origin) d.elements i n n_is))))

  lines : map (λ (l : StepLine). l.element) c.steps ≡ map (λ (l : StepLine). l.element) d.steps
  lines = a.lines ∙ ap (λ l. filter (marked_live l) (range_with_len 0 (length es))) same_elements ∙ sym b.lines

  same_line : (l k : StepLine) → l.element ≡ k.element → IsStepOf R es l → IsStepOf R es k → l ≡ k
  same_line l k e p q =
      let x : q.element ≡ p.element = at_same es l.element q.element p.element (subst (λ n. At es n q.element) (sym e) q.is) p.is in
      let other : AreLeastSubsumers R es (R.extensions l.element p.element) k.by =
      subst (λ w. AreLeastSubsumers R es (R.extensions l.element w) k.by) x (subst (λ n. AreLeastSubsumers R es (R.extensions n q.element) k.by) (sym e) q.by) in
      line_is l k e (one_numbers R es (R.extensions l.element p.element) l.by k.by p.by other)

  same_steps : c.steps ≡ d.steps
  same_steps = same_by_places c.steps d.steps
      (sym (length-map c.steps (λ (l : StepLine). l.element)) ∙ ap length lines ∙ length-map d.steps (λ (l : StepLine). l.element))
      (λ i l k l_is k_is.
      same_line l k
      (at_same (map (λ (l : StepLine). l.element) d.steps) i l.element k.element
      (subst (λ m. At m i l.element) lines (at_map (λ (l : StepLine). l.element) c.steps i l l_is)) (at_map (λ (l : StepLine). l.element) d.steps i k k_is))
      (a.steps i l l_is) (b.steps i k k_is))

  pub one_closure : c ≡ d
  one_closure = closure_is c d same_elements (one_numbers R es R.starts c.cover d.cover a.cover b.cover) same_steps
