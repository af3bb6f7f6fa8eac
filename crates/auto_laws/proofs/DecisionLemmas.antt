-- Claims that are decided, over lists and pairs.
-- (`Decided`, `decide_as`, `decide_both` and `decide_some` stand in bound_laws' DecisionLemmas too, where the last three are private.)
use Rattle.std.proofs.Common.{◌≡◌, ℕ, zero, suc, ◌<◌, ◌⊎◌, List, [], ◌∷◌, ◌++◌, length, Contains, refl, sym, ap, subst, inl, inr, arith}
use Rattle.std.proofs.lemmas.Bool.{cases_eq, cases_lt}
use Rattle.std.proofs.lemmas.List.Elements.{Contains-append_left}
use Rattle.auto_core.specs.Game.{Holds, ArePairsBelow}
use Rattle.auto_core.proofs.PathLemmas.{Contains-here, Contains-later, Contains-cons_cases, none_in_nil}

-- The claim holds, or it does not.
abbrev pub Decided : Type 0 → Type 0
Decided P = P ⊎ (P → ⊥)

pub decide_as : (P Q : Type 0) → (P → Q) → (Q → P) → Decided P → Decided Q
decide_as P Q to from (inl p) = inl (to p)
decide_as P Q to from (inr none) = inr (λ q. none (from q))

pub decide_both : (P Q : Type 0) → Decided P → Decided Q → Decided (P × Q)
decide_both P Q (inl p) (inl q) = inl (p, q)
decide_both P Q (inl p) (inr none) = inr (λ (r : P × Q). none r.1)
decide_both P Q (inr none) d = inr (λ (r : P × Q). none r.0)

pub decide_either : (P Q : Type 0) → Decided P → Decided Q → Decided (P ⊎ Q)
decide_either P Q (inl p) d = inl (inl p)
decide_either P Q (inr none) (inl q) = inl (inr q)
decide_either P Q (inr none) (inr nor) = inr (λ r. elim r [ inl p ↦ none p | inr q ↦ nor q ])

pub decide_then : (P Q : Type 0) → Decided P → Decided Q → Decided (P → Q)
decide_then P Q d (inl q) = inl (λ p. q)
decide_then P Q (inl p) (inr none) = inr (λ f. none (f p))
decide_then P Q (inr none) (inr nor) = inl (λ p. absurd (none p))

pub decide_less : (a b : ℕ) → Decided (a < b)
decide_less a b = elim (cases_lt a b) [ inl lt ↦ inl lt | inr le ↦ inr (λ lt. omega arith) ]

-- For some element of a list.
pub decide_some : (X : Type 0) (P : X → Type 0) → ((x : X) → Decided (P x)) → (xs : List X) → Decided ((x : X) × Contains xs x × P x)
decide_some X P decide [] = inr (λ (r : (x : X) × Contains [] x × P x). none_in_nil r.0 r.1)
decide_some X P decide (x ∷ xs) = elim (decide x) [
  | inl here ↦ inl (x, Contains-here x x xs refl, here)
  | inr other ↦ elim (decide_some X P decide xs) [
    | inl more ↦ inl (more.0, Contains-later x more.0 xs more.1, more.2)
    | inr none ↦ inr (λ (r : (y : X) × Contains (x ∷ xs) y × P y). elim (Contains-cons_cases x r.0 xs r.1) [
      | inl e ↦ other (subst P (sym e) r.2)
      | inr later ↦ none (r.0, later, r.2)
    ])
  ]
]

-- For each element of a list, or not for one.
pub each_or_one : (X : Type 0) (P : X → Type 0) → ((x : X) → Decided (P x)) → (xs : List X) → ((x : X) → Contains xs x → P x) ⊎ ((x : X) × Contains xs x × (P x → ⊥))
each_or_one X P decide [] = inl (λ x h. absurd (none_in_nil x h))
each_or_one X P decide (x ∷ xs) = elim (decide x) [
  | inr none ↦ inr (x, Contains-here x x xs refl, none)
  | inl here ↦ elim (each_or_one X P decide xs) [
    | inr more ↦ inr (more.0, Contains-later x more.0 xs more.1, more.2)
    | inl all ↦ inl (λ y h. elim (Contains-cons_cases x y xs h) [ inl e ↦ subst P e here | inr later ↦ all y later ])
  ]
]

pub decide_each : (X : Type 0) (P : X → Type 0) → ((x : X) → Decided (P x)) → (xs : List X) → Decided ((x : X) → Contains xs x → P x)
decide_each X P decide xs = elim (each_or_one X P decide xs) [
  | inl all ↦ inl all
  | inr one ↦ inr (λ all. one.2 (all one.0 one.1))
]

pub decide_number : (xs : List ℕ) (q : ℕ) → Decided (Contains xs q)
decide_number xs q =
    decide_as ((x : ℕ) × Contains xs x × (x ≡ q)) (Contains xs q) (λ (x, h, e). subst (Contains xs) e h) (λ h. (q, h, refl))
    (decide_some ℕ (λ x. x ≡ q) (λ x. cases_eq x q) xs)

pub decide_held : (S : List (ℕ × ℕ)) (p q : ℕ) → Decided (Holds S p q)
decide_held S p q =
    decide_as ((x : ℕ × ℕ) × Contains S x × ((x.0 ≡ p) × (x.1 ≡ q))) (Holds S p q) to (λ h. ((p, q), h, (refl, refl)))
    (decide_some (ℕ × ℕ) (λ x. (x.0 ≡ p) × (x.1 ≡ q)) (λ x. decide_both (x.0 ≡ p) (x.1 ≡ q) (cases_eq x.0 p) (cases_eq x.1 q)) S)
  where
    to : (x : ℕ × ℕ) × Contains S x × ((x.0 ≡ p) × (x.1 ≡ q)) → Holds S p q
    to (x, h, e) = subst (Contains S) (λ i. (e.0 i, e.1 i)) h

-- ---- what passes

-- Those elements of a list of which P holds.
pub record Kept (X : Type 0) (P : X → Type 0) (xs : List X) : Type 0 where
  pub items : List X
  pub each : (x : X) → Contains items x → Contains xs x × P x
  pub all : (x : X) → Contains xs x → P x → Contains items x
  pub less : (items ≡ xs) ⊎ (length items < length xs)

pub keep : (X : Type 0) (P : X → Type 0) → ((x : X) → Decided (P x)) → (xs : List X) → Kept X P xs
keep X P decide [] = record { items = []; each = λ x h. absurd (none_in_nil x h); all = λ x h p. h; less = inl refl }
keep X P decide (x ∷ xs) = by (keep X P decide xs) (decide x)
  where
    by : Kept X P xs → Decided (P x) → Kept X P (x ∷ xs)
    by rest (inl p) = record {
      items = x ∷ rest.items;
      each = λ y h. elim (Contains-cons_cases x y rest.items h) [
        | inl e ↦ (Contains-here x y xs e, subst P e p)
        | inr later ↦ let r = rest.each y later in (Contains-later x y xs r.0, r.1)
      ];
      all = λ y h g. elim (Contains-cons_cases x y xs h) [
        | inl e ↦ Contains-here x y rest.items e
        | inr later ↦ Contains-later x y rest.items (rest.all y later g)
      ];
      less = elim rest.less [ inl e ↦ inl (ap (λ l. x ∷ l) e) | inr lt ↦ inr (omega arith) ];
    }
    by rest (inr none) = record {
      items = rest.items;
      each = λ y h. let r = rest.each y h in (Contains-later x y xs r.0, r.1);
      all = λ y h g. elim (Contains-cons_cases x y xs h) [
        | inl e ↦ absurd (none (subst P (sym e) g))
        | inr later ↦ rest.all y later g
      ];
      less = inr (elim rest.less [ inl e ↦ omega (arith, ap length e) | inr lt ↦ omega arith ]);
    }

-- ---- all pairs of numbers

-- The pairs of p and a number below n.
abbrev pairs_from : ℕ → ℕ → List (ℕ × ℕ)
pairs_from p zero = []
pairs_from p (suc n) = (p, n) ∷ pairs_from p n

-- The pairs of a number below m and one below n.
abbrev pub all_pairs : ℕ → ℕ → List (ℕ × ℕ)
all_pairs zero n = []
all_pairs (suc m) n = all_pairs m n ++ pairs_from m n

pairs_from_have : (p n q : ℕ) → q < n → Holds (pairs_from p n) p q
pairs_from_have p zero q lt = absurd (omega arith)
pairs_from_have p (suc n) q lt = elim (cases_eq n q) [
  | inl e ↦ Contains-here (p, n) (p, q) (pairs_from p n) (λ i. (p, e i))
  | inr differ ↦ Contains-later (p, n) (p, q) (pairs_from p n) (pairs_from_have p n q (omega arith))
]

pairs_from_below : (p n x y : ℕ) → Holds (pairs_from p n) x y → (x ≡ p) × (y < n)
pairs_from_below p zero x y h = absurd (none_in_nil (x, y) h)
pairs_from_below p (suc n) x y h = elim (Contains-cons_cases (p, n) (x, y) (pairs_from p n) h) [
  | inl e ↦ (sym (ap (λ z. z.0) e), omega (arith, ap (λ z. z.1) e))
  | inr later ↦ let r = pairs_from_below p n x y later in (r.0, omega (arith, r.1))
]

-- A member of two lists in a row is one of either.
append_cases : {X : Type 0} (xs ys : List X) (z : X) → Contains (xs ++ ys) z → Contains xs z ⊎ Contains ys z
append_cases [] ys z h = inr h
append_cases (x ∷ xs) ys z h = elim (Contains-cons_cases x z (xs ++ ys) h) [
  | inl e ↦ inl (Contains-here x z xs e)
  | inr later ↦ elim (append_cases xs ys z later) [ inl there ↦ inl (Contains-later x z xs there) | inr far ↦ inr far ]
]

append_right : {X : Type 0} (xs ys : List X) (z : X) → Contains ys z → Contains (xs ++ ys) z
append_right [] ys z h = h
append_right (x ∷ xs) ys z h = Contains-later x z (xs ++ ys) (append_right xs ys z h)

pub pairs_have : (m n p q : ℕ) → p < m → q < n → Holds (all_pairs m n) p q
pairs_have zero n p q lt short = absurd (omega arith)
pairs_have (suc m) n p q lt short = elim (cases_eq m p) [
  | inl e ↦ append_right (all_pairs m n) (pairs_from m n) (p, q) (subst (λ x. Holds (pairs_from m n) x q) e (pairs_from_have m n q short))
  | inr differ ↦ Contains-append_left (all_pairs m n) (pairs_from m n) (p, q) (pairs_have m n p q (omega arith) short)
]

pub pairs_below : (m n : ℕ) → ArePairsBelow m n (all_pairs m n)
pairs_below zero n p q h = absurd (none_in_nil (p, q) h)
pairs_below (suc m) n p q h = elim (append_cases (all_pairs m n) (pairs_from m n) (p, q) h) [
  | inl there ↦ let r = pairs_below m n p q there in (omega (arith, r.0), r.1)
  | inr far ↦ let r = pairs_from_below m n p q far in (omega (arith, r.0), r.1)
]
