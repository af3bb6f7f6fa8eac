-- Ranges of numbers, and the extensions of an element as a range of transitions.
use Rattle.std.proofs.Common.{◌≡◌, ℕ, zero, suc, ◌+◌, ◌-◌, ◌<◌, ◌≤◌, ◌⊎◌, Bool, true, false, cond, ◌==◌, List, [], ◌∷◌, ◌++◌, length, map, refl, ap, ◌∙◌, inl, inr, arith, append-nil}
use Rattle.std.specs.Prelude.{filter}
use Rattle.std.specs.List.{range_with_len}
use Rattle.std.proofs.lemmas.Bool.{cases_Bool, eq-eqb, eqb-true}
use Rattle.std.proofs.lemmas.List.Elements.{filter-append}
use Rattle.std.proofs.lemmas.Option.{none-some, same_Some}
use Rattle.auto_core.specs.Automaton.{Automaton, trans_at, IsOutgoing}
use Rattle.auto_core.specs.Outcome.{At, Entry, next_entry, steps_out}

abbrev pub extensions_from : Automaton → ℕ → Entry → ℕ → ℕ → List Entry
extensions_from A e x t end = map (next_entry A e x) (range_with_len t (end - t))

pub range_more : (t n : ℕ) → t < n → range_with_len t (n - t) ≡ t ∷ range_with_len (t + 1) (n - (t + 1))
range_more t n lt = let e : n - t ≡ suc (n - (t + 1)) = omega arith in ap (range_with_len t) e

pub range_over : (t n : ℕ) → n ≤ t → range_with_len t (n - t) ≡ []
range_over t n le = let e : n - t ≡ 0 = omega arith in ap (range_with_len t) e

pub extensions_more : (A : Automaton) (e : ℕ) (x : Entry) (t end : ℕ) → t < end → extensions_from A e x t end ≡ next_entry A e x t ∷ extensions_from A e x (t + 1) end
extensions_more A e x t end lt = ap (map (next_entry A e x)) (range_more t end lt)

pub extensions_over : (A : Automaton) (e : ℕ) (x : Entry) (t end : ℕ) → end ≤ t → extensions_from A e x t end ≡ []
extensions_over A e x t end le = ap (map (next_entry A e x)) (range_over t end le)

-- The transitions out of a state are a range.
none_out : (p : ℕ → Bool) (a n : ℕ) → ((t : ℕ) → a ≤ t → t < a + n → p t ≡ false) → filter p (range_with_len a n) ≡ []
none_out p a zero none = refl
none_out p a (suc n) none =
    ap (λ b. cond b (a ∷ filter p (range_with_len (a + 1) n)) (filter p (range_with_len (a + 1) n))) (none a (omega arith) (omega arith))
    ∙ none_out p (a + 1) n (λ t from below. none t (omega arith) (omega arith))

all_out : (p : ℕ → Bool) (a n : ℕ) → ((t : ℕ) → a ≤ t → t < a + n → p t ≡ true) → filter p (range_with_len a n) ≡ range_with_len a n
all_out p a zero all = refl
all_out p a (suc n) all =
    ap (λ b. cond b (a ∷ filter p (range_with_len (a + 1) n)) (filter p (range_with_len (a + 1) n))) (all a (omega arith) (omega arith))
    ∙ ap (λ l. a ∷ l) (all_out p (a + 1) n (λ t from below. all t (omega arith) (omega arith)))

pub range_splits : (a m n : ℕ) → range_with_len a (m + n) ≡ range_with_len a m ++ range_with_len (a + m) n
range_splits a zero n = let e : zero + n ≡ n = omega arith in let f : a ≡ a + zero = omega arith in ap (range_with_len a) e ∙ ap (λ k. range_with_len k n) f
range_splits a (suc m) n =
    let e : suc m + n ≡ suc (m + n) = omega arith in
    let f : (a + 1) + m ≡ a + suc m = omega arith in
    ap (range_with_len a) e ∙ ap (λ l. a ∷ l) (range_splits (a + 1) m n ∙ ap (λ k. range_with_len (a + 1) m ++ range_with_len k n) f)

pub steps_out_are : (A : Automaton) (p begin end : ℕ) → IsOutgoing A p begin end → steps_out A p ≡ range_with_len begin (end - begin)
steps_out_are A p begin end out =
    let is : ℕ → Bool = λ t. (trans_at A t).source == p in
    let n : ℕ = length A.transitions in
    let range = out.is_range in
    let within = out.within in
    let first : n ≡ begin + ((end - begin) + (n - end)) = omega arith in
    let at : 0 + begin ≡ begin = omega arith in
    let split : range_with_len 0 n ≡ range_with_len 0 begin ++ (range_with_len begin (end - begin) ++ range_with_len end (n - end)) =
    ap (range_with_len 0) first
    ∙ range_splits 0 begin ((end - begin) + (n - end))
    ∙ ap (λ k. range_with_len 0 begin ++ range_with_len k ((end - begin) + (n - end))) at
    ∙ ap (λ l. range_with_len 0 begin ++ l) (range_splits begin (end - begin) (n - end) ∙ (let e : begin + (end - begin) ≡ end = omega arith in ap (λ k. range_with_len begin (end - begin) ++ range_with_len k (n - end)) e)) in
    let low : filter is (range_with_len 0 begin) ≡ [] = none_out is 0 begin (λ t from below. not_equal (trans_at A t).source p (inl (out.before t (omega arith)))) in
    let middle : filter is (range_with_len begin (end - begin)) ≡ range_with_len begin (end - begin) =
    all_out is begin (end - begin) (λ t from below. eq-eqb (trans_at A t).source p (out.inside t from (omega arith))) in
    let high : filter is (range_with_len end (n - end)) ≡ [] = none_out is end (n - end) (λ t from below. not_equal (trans_at A t).source p (inr (out.after t from (omega arith)))) in
    ap (filter is) split
    ∙ filter-append is (range_with_len 0 begin) (range_with_len begin (end - begin) ++ range_with_len end (n - end))
    ∙ ap (λ l. l ++ filter is (range_with_len begin (end - begin) ++ range_with_len end (n - end))) low
    ∙ filter-append is (range_with_len begin (end - begin)) (range_with_len end (n - end))
    ∙ ap (λ l. filter is (range_with_len begin (end - begin)) ++ l) high
    ∙ append-nil (filter is (range_with_len begin (end - begin)))
    ∙ middle
  where
    not_equal : (a b : ℕ) → (a < b) ⊎ (b < a) → (a == b) ≡ false
    not_equal a b h = elim (cases_Bool (a == b)) [ inr no_eq ↦ no_eq | inl yes_eq ↦ let e = eqb-true a b yes_eq in absurd (elim h [ inl lt ↦ omega arith | inr lt ↦ omega arith ]) ]

pub filters_alike : (p q : ℕ → Bool) (a n : ℕ) → ((t : ℕ) → a ≤ t → t < a + n → p t ≡ q t) → filter p (range_with_len a n) ≡ filter q (range_with_len a n)
filters_alike p q a zero same = refl
filters_alike p q a (suc n) same =
    ap (λ b. cond b (a ∷ filter p (range_with_len (a + 1) n)) (filter p (range_with_len (a + 1) n))) (same a (omega arith) (omega arith))
    ∙ ap (λ l. cond (q a) (a ∷ l) l) (filters_alike p q (a + 1) n (λ t from below. same t (omega arith) (omega arith)))

pub filter_range_more : (p : ℕ → Bool) (e : ℕ) → filter p (range_with_len 0 (e + 1)) ≡ filter p (range_with_len 0 e) ++ cond (p e) (e ∷ []) []
filter_range_more p e =
    let at : 0 + e ≡ e = omega arith in
    ap (filter p) (range_splits 0 e 1 ∙ ap (λ k. range_with_len 0 e ++ k ∷ []) at) ∙ filter-append p (range_with_len 0 e) (e ∷ [])

-- The places of a range.
pub at_range : (a n k t : ℕ) → At (range_with_len a n) k t → t ≡ a + k
at_range a zero k t is = absurd (none-some t is)
at_range a (suc n) zero t is = let e = same_Some a t is in omega arith
at_range a (suc n) (suc k) t is = let e = at_range (a + 1) n k t is in omega arith
