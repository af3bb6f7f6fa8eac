-- Chains and the numbers that they pass, the pigeonhole, and lassos from many flagged blocks.
use Rattle.std.proofs.Common.{◌≡◌, ℕ, zero, suc, ◌+◌, ◌*◌, ◌<◌, ◌≤◌, ◌⊎◌, Bool, true, false, ◌||◌, List, [], ◌∷◌, ◌++◌, length, All, eqb, refl, sym, ap, ◌∙◌, subst, inl, inr, arith, slice_index_or, append_assoc, mul-pos, mul-zero, zero-add, length-append, le_refl, ◌-◌}
use Rattle.std.specs.List.{IsDistinct, AllByRecursion, list_any}
use Rattle.std.proofs.lemmas.Bool.{eqb-true, or_cases, or_parts, cases_Bool, cases_lt, false≢true}
use Rattle.std.proofs.lemmas.List.Elements.{All-cons, All-nil, All-contains}
use Rattle.std.proofs.lemmas.Map.Steps.{length-le_from_distinct_below}
use Rattle.auto_core.specs.Automaton.{Automaton, IsAutomaton, Moves, IsInRange, trans}
use Rattle.auto_core.specs.Run.{Run, repeated}
use Rattle.auto_core.specs.Accept.{AcceptsLasso}
use Rattle.auto_core.specs.Game.{Chain, Strict}
use Rattle.auto_laws.specs.Pumping.{RunsPast, HasPlaces}
use Rattle.auto_core.proofs.PathLemmas.{run_join}

-- Distinct numbers, or two places that hold the same.
place_of : (x : ℕ) (xs : List ℕ) → list_any (eqb x) xs ≡ true → (j : ℕ) × (j < length xs) × ((d : ℕ) → x ≡ slice_index_or xs j d)
place_of x [] h = absurd (false≢true h)
place_of x (y ∷ xs) h = elim (or_cases (eqb x y) (list_any (eqb x) xs) h) [
  | inl here ↦ (zero, omega arith, λ d. eqb-true x y here)
  | inr later ↦ let r = place_of x xs later in let lt = r.1 in (suc r.0, omega arith, r.2)
]

all_apart : (x : ℕ) (xs : List ℕ) → list_any (eqb x) xs ≡ false → AllByRecursion (λ y. eqb x y ≡ false) xs
all_apart x [] h = tt
all_apart x (y ∷ xs) h = let r = or_parts (eqb x y) (list_any (eqb x) xs) h in (r.0, all_apart x xs r.1)

distinct_or_repeat : (xs : List ℕ) → IsDistinct eqb xs ⊎ HasPlaces xs
unfolding IsDistinct
distinct_or_repeat [] = inl tt
distinct_or_repeat (x ∷ xs) = elim (cases_Bool (list_any (eqb x) xs)) [
  | inl met ↦ let r = place_of x xs met in let lt = r.1 in inr (zero, suc r.0, omega arith, omega arith, r.2)
  | inr apart ↦ elim (distinct_or_repeat xs) [
    | inl distinct ↦ inl (all_apart x xs apart, distinct)
    | inr again ↦ let lt = again.2 in let below = again.3 in inr (suc again.0, suc again.1, omega arith, omega arith, again.4)
  ]
]

any_below : (n : ℕ) (xs : List ℕ) → All (λ x. x < n) xs → (q : ℕ) → list_any (eqb q) xs ≡ true → q < n
any_below n xs h q t = let r = place_of q xs t in subst (λ x. x < n) (sym (r.2 q)) (h r.0 q r.1)

pub pigeonhole : (n : ℕ) (xs : List ℕ) → n < length xs → All (λ x. x < n) xs → HasPlaces xs
pigeonhole n xs more below = elim (distinct_or_repeat xs) [
  | inl distinct ↦ let few = length-le_from_distinct_below xs n distinct (any_below n xs below) in absurd (omega arith)
  | inr again ↦ again
]

-- Chains: joined, the numbers after each step, and the part between two places.
pub chain_join : (R : ℕ → ℕ → Type 0) (m n p q r : ℕ) → Chain R m p q → Chain R n q r → Chain R (m + n) p r
chain_join R zero n p q r c d = let e : n ≡ 0 + n = omega arith in subst (λ k. Chain R k p r) e (subst (λ s. Chain R n s r) (sym c) d)
chain_join R (suc m) n p q r (s, h, c) d = let e : suc (m + n) ≡ suc m + n = omega arith in subst (λ k. Chain R k p r) e (s, h, chain_join R m n s q r c d)

pub chain_weaker : (R S : ℕ → ℕ → Type 0) → ((p q : ℕ) → R p q → S p q) → (n p q : ℕ) → Chain R n p q → Chain S n p q
chain_weaker R S f zero p q c = c
chain_weaker R S f (suc n) p q (s, h, c) = (s, f p s h, chain_weaker R S f n s q c)

abbrev pub stops : (R : ℕ → ℕ → Type 0) (n p q : ℕ) → Chain R n p q → List ℕ
stops R zero p q c = []
stops R (suc n) p q (s, h, c) = s ∷ stops R n s q c

length-stops : (R : ℕ → ℕ → Type 0) (n p q : ℕ) (c : Chain R n p q) → length (stops R n p q c) ≡ n
length-stops R zero p q c = refl
length-stops R (suc n) p q (s, h, c) = let e = length-stops R n s q c in omega arith

stops_below : (R : ℕ → ℕ → Type 0) (P : ℕ → Type 0) → ((s t : ℕ) → P s → R s t → P t) → (n p q : ℕ) (c : Chain R n p q) → P p → All P (p ∷ stops R n p q c)
stops_below R P f zero p q c h = All-cons P p [] h (All-nil P)
stops_below R P f (suc n) p q (s, r, c) h = All-cons P p (s ∷ stops R n s q c) h (stops_below R P f n s q c (f p s h r))

-- The number at the place i of a chain, the start at 0.
abbrev stop_at : (R : ℕ → ℕ → Type 0) (n p q : ℕ) → Chain R n p q → ℕ → ℕ
stop_at R n p q c i = slice_index_or (p ∷ stops R n p q c) i 0

chain_front : (R : ℕ → ℕ → Type 0) (n p q : ℕ) (c : Chain R n p q) (i : ℕ) → i ≤ n → Chain R i p (stop_at R n p q c i)
chain_front R n p q c zero h = refl
chain_front R zero p q c (suc i) h = absurd (omega arith)
chain_front R (suc n) p q c (suc i) h = (c.0, c.1, chain_front R n c.0 q c.2 i (omega arith))

chain_between : (R : ℕ → ℕ → Type 0) (n p q : ℕ) (c : Chain R n p q) (i m j : ℕ) → j ≡ i + m → j ≤ n → Chain R m (stop_at R n p q c i) (stop_at R n p q c j)
chain_between R n p q c zero m j e h = let f : j ≡ m = omega arith in subst (λ k. Chain R k p (stop_at R n p q c j)) f (chain_front R n p q c j h)
chain_between R n p q c (suc i) m zero e h = absurd (omega arith)
chain_between R zero p q c (suc i) m (suc j) e h = absurd (omega arith)
chain_between R (suc n) p q c (suc i) m (suc j) e h = chain_between R n c.0 q c.2 i m j (omega arith) (omega arith)

-- A chain of n steps among numbers below n comes to some number, and comes to it again.
pub chain_repeats : (R : ℕ → ℕ → Type 0) (bound : ℕ) → ((s t : ℕ) → s < bound → R s t → t < bound) → (n p q : ℕ) → bound ≤ n → p < bound → Chain R n p q →
    (r i m : ℕ) × Chain R i p r × (1 ≤ m) × Chain R m r r
chain_repeats R bound f n p q enough below c =
    let long = length-stops R n p q c in
    let again = pigeonhole bound (p ∷ stops R n p q c) (omega arith) (stops_below R (λ x. x < bound) f n p q c below) in
    let i : ℕ = again.0 in
    let j : ℕ = again.1 in
    let lt : i < j = again.2 in
    let inside : j < length (p ∷ stops R n p q c) = again.3 in
    let r : ℕ = stop_at R n p q c i in
    let turn : Chain R (j - i) r (stop_at R n p q c j) = chain_between R n p q c i (j - i) j (omega arith) (omega arith) in
    (r, i, j - i, chain_front R n p q c i (omega arith), omega arith, subst (λ x. Chain R (j - i) r x) (sym (again.4 0)) turn)

chain_back : (R : ℕ → ℕ → Type 0) (n p q : ℕ) (c : Chain R n p q) (i m : ℕ) → n ≡ i + m → Chain R m (stop_at R n p q c i) q
chain_back R n p q c zero m e = let f : n ≡ m = omega arith in subst (λ k. Chain R k p q) f c
chain_back R zero p q c (suc i) m e = absurd (omega arith)
chain_back R (suc n) p q c (suc i) m e = chain_back R n c.0 q c.2 i m (omega arith)

-- What a chain passes twice is cut out of it.
chain_cut : (R : ℕ → ℕ → Type 0) (bound : ℕ) → ((s t : ℕ) → s < bound → R s t → t < bound) → (n p q : ℕ) → bound ≤ n → p < bound → Chain R n p q → (m : ℕ) × (m < n) × Chain R m p q
chain_cut R bound f n p q enough below c =
    let long = length-stops R n p q c in
    let again = pigeonhole bound (p ∷ stops R n p q c) (omega arith) (stops_below R (λ x. x < bound) f n p q c below) in
    let i : ℕ = again.0 in
    let j : ℕ = again.1 in
    let lt : i < j = again.2 in
    let inside : j < length (p ∷ stops R n p q c) = again.3 in
    let front : Chain R i p (stop_at R n p q c j) = subst (λ x. Chain R i p x) (again.4 0) (chain_front R n p q c i (omega arith)) in
    (i + (n - j), omega arith, chain_join R i (n - j) p (stop_at R n p q c j) q front (chain_back R n p q c j (n - j) (omega arith)))

chain_within : (R : ℕ → ℕ → Type 0) (bound : ℕ) → ((s t : ℕ) → s < bound → R s t → t < bound) → (fuel n p q : ℕ) → n ≤ fuel → p < bound → Chain R n p q → (m : ℕ) × (m < bound) × Chain R m p q
chain_within R bound f zero n p q h below c = (n, omega arith, c)
chain_within R bound f (suc fuel) n p q h below c = elim (cases_lt n bound) [
  | inl few ↦ (n, few, c)
  | inr many ↦ let r = chain_cut R bound f n p q many below c in let lt = r.1 in chain_within R bound f fuel r.0 p q (omega arith) below r.2
]

-- Among numbers below a bound, what a chain joins is joined by fewer steps than the bound.
pub chain_short : (R : ℕ → ℕ → Type 0) (bound : ℕ) → ((s t : ℕ) → s < bound → R s t → t < bound) → (n p q : ℕ) → p < bound → Chain R n p q → (m : ℕ) × (m < bound) × Chain R m p q
chain_short R bound f n p q below c = chain_within R bound f n n p q (le_refl n) below c

-- Steps of a transitive relation that never lead back are fewer than the bound.
pub strict_chain_short : (T : ℕ → ℕ → Type 0) → ((p q r : ℕ) → T p q → T q r → T p r) → (bound : ℕ) → ((s t : ℕ) → s < bound → T s t → t < bound) → (n p q : ℕ) → p < bound → Chain (Strict T) n p q → n < bound
strict_chain_short T joins bound f n p q below c = elim (cases_lt n bound) [
  | inl few ↦ few
  | inr many ↦
      let again = chain_repeats (Strict T) bound (λ s t b h. f s t b h.0) n p q many below c in
      absurd (never again.2 again.0 again.4 again.5)
]
  where
    back : (m s r t : ℕ) → T r s → Chain (Strict T) m s t → T r t
    back zero s r t h d = subst (T r) d h
    back (suc m) s r t h (u, g, d) = back m u r t (joins r s u h g.0) d

    never : (m r : ℕ) → 1 ≤ m → Chain (Strict T) m r r → ⊥
    never zero r some d = omega arith
    never (suc zero) r some (s, h, d) = h.1 (subst (T s) d (subst (λ x. T x s) (sym d) h.0))
    never (suc (suc m)) r some (s, h, (u, g, d)) = h.1 (back m u s r g.0 d)

-- A valid automaton moves from states to states.
pub move_in_range : (A : Automaton) → IsAutomaton A → (p a q : ℕ) → Moves A p a q → (p < A.states) × (q < A.states) × (a < A.labels)
move_in_range A valid p a q h = All-contains (IsInRange A.states A.labels) A.transitions (trans p a q) valid.in_range h

pub run_in_range : (A : Automaton) → IsAutomaton A → (p : ℕ) (w : List ℕ) (q : ℕ) (flag : Bool) → p < A.states → Run A p w q flag → q < A.states
run_in_range A valid p [] q flag below h = subst (λ s. s < A.states) h.0 below
run_in_range A valid p (a ∷ w) q flag below (next, later, move, rest, e) = run_in_range A valid next w q later (move_in_range A valid p a next move).1 rest

-- Repeated words.
pub repeated-add : (v : List ℕ) (m n : ℕ) → repeated v (m + n) ≡ repeated v m ++ repeated v n
repeated-add v zero n = ap (repeated v) (zero-add n)
repeated-add v (suc m) n =
    let e : suc m + n ≡ suc (m + n) = omega arith in
    ap (repeated v) e ∙ ap (λ l. v ++ l) (repeated-add v m n) ∙ sym (append_assoc v (repeated v m) (repeated v n))

pub repeated-times : (v : List ℕ) (m n : ℕ) → repeated (repeated v m) n ≡ repeated v (m * n)
repeated-times v m zero = ap (repeated v) (sym (mul-zero m))
repeated-times v m (suc n) =
    let e : m + m * n ≡ m * suc n = omega arith in
    ap (λ l. repeated v m ++ l) (repeated-times v m n) ∙ sym (repeated-add v m (m * n)) ∙ ap (repeated v) e

pub length-repeated : (v : List ℕ) (n : ℕ) → length (repeated v n) ≡ length v * n
length-repeated v zero = sym (mul-zero (length v))
length-repeated v (suc n) = let e = length-repeated v n in length-append v (repeated v n) ∙ omega arith

-- A chain of runs on x is a run on x so many times, past an accepting state if it is not empty.
run_of_chain : (A : Automaton) (x : List ℕ) (n p q : ℕ) → Chain (RunsPast A x) n p q → (flag : Bool) × Run A p (repeated x n) q flag
run_of_chain A x zero p q c = (false, (c, refl))
run_of_chain A x (suc n) p q (s, h, c) =
    let r = run_of_chain A x n s q c in
    (true, run_join A p x s true (repeated x n) q r.0 h r.1)

run_past : (A : Automaton) (x : List ℕ) (n p q : ℕ) → 1 ≤ n → Chain (RunsPast A x) n p q → Run A p (repeated x n) q true
run_past A x zero p q h c = absurd (omega arith)
run_past A x (suc n) p q h (s, r, c) =
    let more = run_of_chain A x n s q c in
    run_join A p x s true (repeated x n) q more.0 r more.1

pub pumping : (A : Automaton) → IsAutomaton A → (u x : List ℕ) (p : ℕ) (flag : Bool) (n q : ℕ) →
    Run A A.initial u p flag → A.states ≤ n → Chain (RunsPast A x) n p q → AcceptsLasso A u x
pumping A valid u x p flag n q enters enough c =
    let start = run_in_range A valid A.initial u p flag valid.initial_is_state enters in
    let again = chain_repeats (RunsPast A x) A.states (λ s t below r. run_in_range A valid s x t true below r) n p q enough start c in
    let front = run_of_chain A x again.1 p again.0 again.3 in
    record {
      before = again.1;
      turns = again.2;
      state = again.0;
      flag = flag || front.0;
      enters = run_join A A.initial u p flag (repeated x again.1) again.0 front.0 enters front.1;
      some_turn = again.4;
      cycles = run_past A x again.2 again.0 again.0 again.4 again.5;
    }

-- A lasso cut into other blocks.
pub reblock : (A : Automaton) (u v : List ℕ) (k m : ℕ) → 1 ≤ m → AcceptsLasso A (u ++ repeated v k) (repeated v m) → AcceptsLasso A u v
reblock A u v k m some h =
    let entry : (u ++ repeated v k) ++ repeated (repeated v m) h.before ≡ u ++ repeated v (k + m * h.before) =
    append_assoc u (repeated v k) (repeated (repeated v m) h.before)
    ∙ ap (λ l. u ++ (repeated v k ++ l)) (repeated-times v m h.before)
    ∙ ap (λ l. u ++ l) (sym (repeated-add v k (m * h.before))) in
    record {
      before = k + m * h.before;
      turns = m * h.turns;
      state = h.state;
      flag = h.flag;
      enters = subst (λ l. Run A A.initial l h.state h.flag) entry h.enters;
      some_turn = mul-pos some h.some_turn;
      cycles = subst (λ l. Run A h.state l h.state true) (repeated-times v m h.turns) h.cycles;
    }
