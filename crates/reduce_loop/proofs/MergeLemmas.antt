-- Quotients by the classes of a relation: they are smaller, there is one, and one that changes nothing joined no states.
use Rattle.std.proofs.Common.{◌≡◌, ℕ, zero, suc, ◌+◌, ◌<◌, ◌≤◌, ◌↔◌, inl, inr, List, length, refl, sym, ap, ◌∙◌, subst, arith}
use Rattle.std.proofs.lemmas.Bool.{cases_eq, cases_lt}
use Rattle.std.proofs.lemmas.List.{ext_get_or}
use Rattle.auto_core.specs.Automaton.{Automaton, IsAutomaton, Moves, IsAccepting, trans}
use Rattle.auto_core.specs.Game.{Chain, Close, Holds}
use Rattle.auto_core.specs.Quotient.{class_of, AreClasses, AreClassesOf, IsQuotient}
use Rattle.auto_core.proofs.MoveLemmas.{move_in_range}
use Rattle.quotient.specs.Images.{image}
use Rattle.quotient.proofs.MergeLaws.{accepting_below, quotient_one}
use Rattle.reduce_loop.specs.Settled.{HasNoTwins}
use Rattle.reduce_loop.proofs.SizeLemmas.{IsSmaller, smaller_part, smaller_image}

-- the class of a state is no greater than the state
class_within : (classes : List ℕ) → AreClasses classes → (n q : ℕ) → q < n → q < length classes → class_of classes q ≤ q
class_within classes are zero q lt q_in = absurd (omega arith)
class_within classes are (suc n) q lt q_in = elim (cases_lt q (class_of classes q)) [
  | inl past ↦
      let (p, p_in, is) = are.in_order q q q_in past in
      let le : class_of classes p ≤ p = class_within classes are n p (omega arith) (omega arith) in
      absurd (omega arith)
  | inr le ↦ omega arith
]

module _ (A B : Automaton) (classes : List ℕ) (are : AreClasses classes) (len : length classes ≡ A.states) (k : IsQuotient A classes B) where
  class_low : (q : ℕ) → q < A.states → class_of classes q ≤ q
  class_low q q_in = class_within classes are (q + 1) q (omega arith) (omega arith)

  few_classes : B.states ≤ A.states
  few_classes = elim (cases_lt A.states B.states) [
    | inl more ↦
        let (q, q_in, is) = (k.states A.states).0 more in
        let low = class_low q q_in in
        absurd (omega arith)
    | inr le ↦ omega arith
  ]

  -- as many classes as states: each state is its own class
  own_class : B.states ≡ A.states → (d q : ℕ) → q < A.states → A.states ≤ q + d → class_of classes q ≡ q
  own_class all zero q q_in near = absurd (omega arith)
  own_class all (suc d) q q_in near =
      let (r, r_in, is) = (k.states q).0 (omega arith) in
      let low = class_low r r_in in
      elim (cases_eq r q) [
        | inl e ↦ ap (class_of classes) (sym e) ∙ sym is
        | inr apart ↦
            let own : class_of classes r ≡ r = own_class all d r r_in (omega arith) in
            absurd (omega arith)
      ]

  pub own : B.states ≡ A.states → (q : ℕ) → q < A.states → class_of classes q ≡ q
  own all q q_in = own_class all A.states q q_in (omega arith)

  pub merged_smaller : IsAutomaton A → IsSmaller A B
  merged_smaller valid = elim (cases_eq B.states A.states) [
    | inl all ↦
        smaller_part A B valid k.valid all k.labels (k.initial ∙ own all A.initial valid.initial_is_state)
        (λ c a d m.
        let (p, q, move, c_is, d_is) = (k.moves c a d).0 m in
        let range = move_in_range A valid p a q move in
        subst (λ x. Moves A x a d) (sym (c_is ∙ own all p range.0)) (subst (λ x. Moves A p a x) (sym (d_is ∙ own all q range.1)) move))
        (λ c h.
        let (q, acc, c_is) = (k.accepting c).0 h in
        subst (λ x. IsAccepting A x) (sym (c_is ∙ own all q (accepting_below A valid q acc))) acc)
    | inr apart ↦
        let few = few_classes in
        smaller_image A B (image classes) (class_of classes) k.valid k.labels (omega arith)
        (λ t h.
        let (p, q, move, c_is, d_is) = (k.moves t.source t.label t.target).0 h in
        (trans p t.label q, move, λ i. trans (sym c_is i) t.label (sym d_is i)))
        (λ c h. let (q, acc, c_is) = (k.accepting c).0 h in (q, acc, sym c_is))
  ]

-- a quotient that is the automaton itself joins no two states
pub no_twins : (A : Automaton) (R : ℕ → ℕ → Type 0) (classes : List ℕ) → AreClassesOf A.states R classes → IsQuotient A classes A → HasNoTwins A R
no_twins A R classes are k p q p_in q_in r s =
    sym (own A A classes are.valid are.len k refl p p_in) ∙ (are.joins p q p_in q_in).1 (r, s) ∙ own A A classes are.valid are.len k refl q q_in

-- ---- the classes of a relation are one list

same_class : (n : ℕ) (c d : List ℕ) → AreClasses c → AreClasses d → length c ≡ n → length d ≡ n
    → ((p q : ℕ) → p < n → q < n → (class_of c p ≡ class_of c q) ↔ (class_of d p ≡ class_of d q))
    → (m q : ℕ) → q < m → q < n → class_of c q ≡ class_of d q
same_class n c d are these c_len d_len joins zero q lt q_in = absurd (omega arith)
same_class n c d are these c_len d_len joins (suc m) q lt q_in = elim (cases_lt (class_of d q) (class_of c q)) [
  | inl less ↦
      let (p, p_in, is) = are.in_order q (class_of d q) (omega arith) less in
      let before : class_of c p ≡ class_of d p = same_class n c d are these c_len d_len joins m p (omega arith) (omega arith) in
      let joined : class_of c p ≡ class_of c q = (joins p q (omega arith) q_in).1 (sym before ∙ is) in
      absurd (omega arith)
  | inr at_most ↦ elim (cases_lt (class_of c q) (class_of d q)) [
    | inl less ↦
        let (p, p_in, is) = these.in_order q (class_of c q) (omega arith) less in
        let before : class_of c p ≡ class_of d p = same_class n c d are these c_len d_len joins m p (omega arith) (omega arith) in
        let joined : class_of d p ≡ class_of d q = (joins p q (omega arith) q_in).0 (before ∙ is) in
        absurd (omega arith)
    | inr at_least ↦ omega arith
  ]
]

pub same_classes : (n : ℕ) (R S : ℕ → ℕ → Type 0) (c d : List ℕ) → AreClassesOf n R c → AreClassesOf n S d → ((p q : ℕ) → R p q ↔ S p q) → c ≡ d
same_classes n R S c d are these same = ext_get_or 0 c d (are.len ∙ sym these.len) (λ q q_in. let len = are.len in
    same_class n c d are.valid these.valid are.len these.len (λ p q p_in q_in. (
      λ e. let both = (are.joins p q p_in q_in).0 e in (these.joins p q p_in q_in).1 ((same p q).0 both.0, (same q p).0 both.1),
      λ e. let both = (these.joins p q p_in q_in).0 e in (are.joins p q p_in q_in).1 ((same p q).1 both.0, (same q p).1 both.1),
    )) (q + 1) q (omega arith) (omega arith))

chain_as : (R S : ℕ → ℕ → Type 0) → ((p q : ℕ) → R p q → S p q) → (n p q : ℕ) → Chain R n p q → Chain S n p q
chain_as R S to zero p q e = e
chain_as R S to (suc n) p q (r, step, rest) = (r, to p r step, chain_as R S to n r q rest)

-- relations that hold the same have the same closure
pub same_closure : (R S : ℕ → ℕ → Type 0) → ((p q : ℕ) → R p q ↔ S p q) → (p q : ℕ) → Close R p q ↔ Close S p q
same_closure R S same p q = (
  λ (n, chain). (n, chain_as R S (λ x y h. (same x y).0 h) n p q chain),
  λ (n, chain). (n, chain_as S R (λ x y h. (same x y).1 h) n p q chain),
)

-- there is one quotient by the classes of a closure
pub merged_one :
    (A B C : Automaton) (S T : List (ℕ × ℕ)) (c d : List ℕ)
    → ((p q : ℕ) → Holds S p q ↔ Holds T p q)
    → AreClassesOf A.states (Close (Holds S)) c
    → AreClassesOf A.states (Close (Holds T)) d
    → IsQuotient A c B
    → IsQuotient A d C
    → B ≡ C
merged_one A B C S T c d same are these k l =
    let e = same_classes A.states (Close (Holds S)) (Close (Holds T)) c d are these (same_closure (Holds S) (Holds T) same) in
    quotient_one A B C d (subst (λ x. IsQuotient A x B) e k) l
