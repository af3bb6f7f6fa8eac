-- The moves backward of a state, against the numbers of the transitions into it.
use Rattle.std.proofs.Common.{◌≡◌, ℕ, zero, suc, ◌<◌, ◌≤◌, Bool, true, false, cond, List, [], ◌∷◌, length, get_or, map, filter, ◌==◌, refl, sym, ap, ◌∙◌, arith, zero-add}
use Rattle.std.specs.List.{range_with_len}
use Rattle.std.proofs.lemmas.Bool.{eq-eqb, eqb-true}
use Rattle.std.proofs.lemmas.List.{get_or-map, length-map}
use Rattle.std.proofs.lemmas.List.Elements.{All-contains}
use Rattle.std.proofs.lemmas.List.Kept.{AllPairs-from_increasing, IsStrictlyIncreasing-filter}
use Rattle.std.proofs.lemmas.List.FromFn.{length-range_with_len, get_or-range_with_len}
use Rattle.auto_core.specs.Automaton.{Automaton, IsIncoming, trans, trans_at}
use Rattle.auto_core.specs.declared.parts.Trans.{Trans}
use Rattle.auto_core.proofs.MemberLemmas.{filter_has, filter_from, range_has, range_from, range_rises, rises_from_pairs, same_members}
use Rattle.look_round.specs.Sides.{move, turned_move, backward_moves}

map_map : {X Y Z : Type 0} (g : Y → Z) (f : X → Y) (xs : List X) → map g (map f xs) ≡ map (λ x. g (f x)) xs
map_map g f [] = refl
map_map g f (x ∷ xs) = ap (λ ys. g (f x) ∷ ys) (map_map g f xs)

filter_map_step : {X Y : Type 0} (p : Y → Bool) (f : X → Y) (x : X) (xs : List X) (b : Bool) → filter p (map f xs) ≡ map f (filter (λ z. p (f z)) xs) → cond b (f x ∷ filter p (map f xs)) (filter p (map f xs)) ≡ map f (cond b (x ∷ filter (λ z. p (f z)) xs) (filter (λ z. p (f z)) xs))
filter_map_step p f x xs true e = ap (λ ys. f x ∷ ys) e
filter_map_step p f x xs false e = e

filter_map : {X Y : Type 0} (p : Y → Bool) (f : X → Y) (xs : List X) → filter p (map f xs) ≡ map f (filter (λ x. p (f x)) xs)
filter_map p f [] = refl
filter_map p f (x ∷ xs) = filter_map_step p f x xs (p (f x)) (filter_map p f xs)

-- a list is its items by their numbers
items_by_number : {X : Type 0} (xs : List X) (d : X) → map (λ n. get_or xs n d) (range_with_len 0 (length xs)) ≡ xs
items_by_number {X} xs d =
    same_items (map (λ n. get_or xs n d) (range_with_len 0 (length xs))) xs d
    (length-map (range_with_len 0 (length xs)) (λ n. get_or xs n d) ∙ length-range_with_len 0 (length xs))
    (λ k k_in.
    let len = length-range_with_len 0 (length xs) in
    let lt : k < length xs = k_in in
    get_or-map (λ n. get_or xs n d) (range_with_len 0 (length xs)) k 0 d (omega arith)
    ∙ ap (λ n. get_or xs n d) (get_or-range_with_len 0 (length xs) k 0 lt ∙ zero-add k))
  where
    same_items : (ys zs : List X) (d : X) → length ys ≡ length zs → ((k : ℕ) → k < length zs → get_or ys k d ≡ get_or zs k d) → ys ≡ zs
    same_items [] [] d len each = refl
    same_items [] (z ∷ zs) d len each = absurd (omega arith)
    same_items (y ∷ ys) [] d len each = absurd (omega arith)
    same_items (y ∷ ys) (z ∷ zs) d len each =
        ap (λ x. x ∷ ys) (each zero (omega arith)) ∙ ap (λ xs. z ∷ xs) (same_items ys zs d (omega arith) (λ k k_in. each (suc k) (omega arith)))

less_and_more : (x y : ℕ) → x < y → y < x → ⊥
less_and_more x y a b = omega arith

-- whether the transition with this number leads into p
abbrev leads_into : Automaton → ℕ → ℕ → Bool
leads_into A p n = (trans_at A n).target == p

numbers_are : (A : Automaton) (p : ℕ) (numbers : List ℕ) → IsIncoming A p numbers → numbers ≡ filter (leads_into A p) (range_with_len 0 (length A.transitions))
numbers_are A p numbers h =
    same_members (λ x y. x < y) less_and_more numbers (filter (leads_into A p) (range_with_len 0 (length A.transitions)))
    (rises_from_pairs (λ x y. x < y) numbers (AllPairs-from_increasing numbers h.ascending))
    (rises_from_pairs (λ x y. x < y) (filter (leads_into A p) (range_with_len 0 (length A.transitions))) (AllPairs-from_increasing (filter (leads_into A p) (range_with_len 0 (length A.transitions))) (IsStrictlyIncreasing-filter (leads_into A p) (range_with_len 0 (length A.transitions)) (range_rises (length A.transitions)))))
    (λ n there.
    let (n_in, into) = All-contains (λ t. (t < length A.transitions) × ((trans_at A t).target ≡ p)) numbers n h.each there in
    filter_has (leads_into A p) (range_with_len 0 (length A.transitions)) n (range_has (length A.transitions) n n_in) (eq-eqb (trans_at A n).target p into))
    (λ n there.
    let (in_range, passes) = filter_from (leads_into A p) (range_with_len 0 (length A.transitions)) n there in
    h.all n (range_from (length A.transitions) n in_range) (eqb-true (trans_at A n).target p passes))

-- the moves backward are those of the numbers, in their order
pub backward_by_numbers : (A : Automaton) (p : ℕ) (numbers : List ℕ) → IsIncoming A p numbers → backward_moves A p ≡ map (λ n. turned_move (trans_at A n)) numbers
backward_by_numbers A p numbers h =
    ap (λ ts. map turned_move (filter (λ (t : Trans). t.target == p) ts)) (sym (items_by_number A.transitions (trans 0 0 0)))
    ∙ ap (map turned_move) (filter_map (λ (t : Trans). t.target == p) (trans_at A) (range_with_len 0 (length A.transitions)))
    ∙ map_map turned_move (trans_at A) (filter (leads_into A p) (range_with_len 0 (length A.transitions)))
    ∙ ap (map (λ n. turned_move (trans_at A n))) (sym (numbers_are A p numbers h))

pub backward_count : (A : Automaton) (p : ℕ) (numbers : List ℕ) → IsIncoming A p numbers → length numbers ≡ length (backward_moves A p)
backward_count A p numbers h = sym (ap length (backward_by_numbers A p numbers h) ∙ length-map numbers (λ n. turned_move (trans_at A n)))

length_filter : {X : Type 0} (p : X → Bool) (xs : List X) → length (filter p xs) ≤ length xs
length_filter p [] = omega arith
length_filter {X} p (x ∷ xs) = step (p x) (length_filter p xs)
  where
    step : (b : Bool) → length (filter p xs) ≤ length xs → length (cond b (x ∷ filter p xs) (filter p xs)) ≤ suc (length xs)
    step true le = omega arith
    step false le = omega arith

-- there are no more of them than transitions
pub backward_few : (A : Automaton) (p : ℕ) (numbers : List ℕ) → IsIncoming A p numbers → length numbers ≤ length A.transitions
backward_few A p numbers h =
    let e = ap length (numbers_are A p numbers h) in
    let le = length_filter (leads_into A p) (range_with_len 0 (length A.transitions)) in
    let len = length-range_with_len 0 (length A.transitions) in
    omega arith

-- the move at a place is that of the number at the place
pub backward_nth : (A : Automaton) (p : ℕ) (numbers : List ℕ) (at : ℕ) → IsIncoming A p numbers → at < length (backward_moves A p) → (at < length numbers) × (get_or numbers at 0 < length A.transitions) × (turned_move (trans_at A (get_or numbers at 0)) ≡ get_or (backward_moves A p) at (move 0 0))
backward_nth A p numbers at h at_in =
    let count = backward_count A p numbers h in
    let here : at < length numbers = omega arith in (
      here,
      (h.each at 0 here).0,
      sym (ap (λ ms. get_or ms at (move 0 0)) (backward_by_numbers A p numbers h) ∙ get_or-map (λ n. turned_move (trans_at A n)) numbers at 0 (move 0 0) here),
    )
