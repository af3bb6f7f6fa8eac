-- Deterministic automata by neighbours in the list of transitions.
use Rattle.std.proofs.Common.{◌≡◌, ℕ, ◌+◌, ◌-◌, ◌<◌, inl, inr, List, length, get_or, sym, ap, ◌∙◌, subst, arith}
use Rattle.std.proofs.lemmas.Bool.{cases_eq, cases_lt}
use Rattle.auto_core.specs.Automaton.{Automaton, IsAutomaton, Moves, IsBefore, trans, trans_at}
use Rattle.auto_core.specs.declared.parts.Trans.{Trans}
use Rattle.auto_core.proofs.MoveLemmas.{number_of, move_at}
use Rattle.product_laws.specs.Ranked.{IsDeterministic}
use Rattle.ranked_product.specs.Alike.{AreAlike}

-- What stands between two transitions that are alike is like them.
between : (x y z : Trans) → IsBefore x y → IsBefore y z → x.source ≡ z.source → x.label ≡ z.label → AreAlike x y
between x y z first second source label = (omega arith, omega arith)

-- The first of two later neighbours is like its next one.
next_alike : (A : Automaton) → IsAutomaton A → (i j : ℕ) → i < j → j < length A.transitions → AreAlike (trans_at A i) (trans_at A j) → AreAlike (trans_at A i) (trans_at A (i + 1))
next_alike A valid i j lt j_in alike = elim (cases_eq (i + 1) j) [
  | inl e ↦ subst (λ n. AreAlike (trans_at A i) (trans_at A n)) (sym e) alike
  | inr apart ↦
      between (trans_at A i) (trans_at A (i + 1)) (trans_at A j) (valid.in_order i (i + 1) (omega arith) (omega arith)) (valid.in_order (i + 1) j (omega arith) j_in) alike.0 alike.1
]

pub det_from_neighbours : (A : Automaton) → IsAutomaton A → ((k : ℕ) → k + 1 < length A.transitions → AreAlike (trans_at A k) (trans_at A (k + 1)) → ⊥) → IsDeterministic A
det_from_neighbours A valid none q a s t first second =
    let (i, i_in, i_is) = number_of A q a s first in
    let (j, j_in, j_is) = number_of A q a t second in
    let from_i : AreAlike (trans_at A i) (trans_at A j) = (ap (λ (u : Trans). u.source) i_is ∙ sym (ap (λ (u : Trans). u.source) j_is), ap (λ (u : Trans). u.label) i_is ∙ sym (ap (λ (u : Trans). u.label) j_is)) in
    elim (cases_lt i j) [
      | inl lt ↦ absurd (none i (omega arith) (next_alike A valid i j lt j_in from_i))
      | inr from ↦ elim (cases_eq i j) [
        | inl e ↦ sym (ap (λ (u : Trans). u.target) i_is) ∙ ap (λ n. (trans_at A n).target) e ∙ ap (λ (u : Trans). u.target) j_is
        | inr apart ↦ absurd (none j (omega arith) (next_alike A valid j i (omega arith) i_in (sym from_i.0, sym from_i.1)))
      ]
    ]

-- Two neighbours with one target are not in order.
apart_by_target : (x y : Trans) → IsBefore x y → AreAlike x y → x.target ≡ y.target → ⊥
apart_by_target x y before alike same = omega arith

pub alike_not_det : (A : Automaton) → IsAutomaton A → (k : ℕ) → k + 1 < length A.transitions → AreAlike (trans_at A k) (trans_at A (k + 1)) → IsDeterministic A → ⊥
alike_not_det A valid k k_in alike det =
    let x = trans_at A k in
    let y = trans_at A (k + 1) in
    let first : Moves A x.source x.label x.target = move_at A k (omega arith) in
    let second : Moves A y.source y.label y.target = move_at A (k + 1) k_in in
    let there : Moves A x.source x.label y.target = subst (λ a. Moves A x.source a y.target) (sym alike.1) (subst (λ p. Moves A p y.label y.target) (sym alike.0) second) in
    apart_by_target x y (valid.in_order k (k + 1) (omega arith) k_in) alike (det x.source x.label x.target y.target first there)

-- Neighbours by the place of the second, in a list that is the automaton's.
pub alike_at : (A : Automaton) (ts : List Trans) → ts ≡ A.transitions → (k at : ℕ) → k + 1 ≡ at → AreAlike (trans_at A k) (trans_at A (k + 1)) → AreAlike (get_or ts (at - 1) (trans 0 0 0)) (get_or ts at (trans 0 0 0))
alike_at A ts same k at e alike =
    let before : k ≡ at - 1 = omega arith in
    subst (λ xs. AreAlike (get_or xs (at - 1) (trans 0 0 0)) (get_or xs at (trans 0 0 0))) (sym same)
    (subst (λ n. AreAlike (trans_at A n) (trans_at A at)) before (subst (λ n. AreAlike (trans_at A k) (trans_at A n)) e alike))

pub alike_back : (A : Automaton) (ts : List Trans) → ts ≡ A.transitions → (at : ℕ) → (at - 1) + 1 ≡ at → AreAlike (get_or ts (at - 1) (trans 0 0 0)) (get_or ts at (trans 0 0 0)) → AreAlike (trans_at A (at - 1)) (trans_at A ((at - 1) + 1))
alike_back A ts same at e alike =
    subst (λ n. AreAlike (trans_at A (at - 1)) (trans_at A n)) (sym e)
    (subst (λ xs. AreAlike (get_or xs (at - 1) (trans 0 0 0)) (get_or xs at (trans 0 0 0))) same alike)
