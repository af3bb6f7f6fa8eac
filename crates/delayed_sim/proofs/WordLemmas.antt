-- Words as numbers.
use Rattle.std.proofs.Common.{◌≡◌, ℕ, zero, suc, ◌+◌, ◌*◌, ◌/◌, ◌%◌, ◌^◌, ◌<◌, ◌≤◌, inl, inr, List, [], ◌∷◌, ◌++◌, length, take, set, All, refl, sym, ap, ◌∙◌, subst, arith, length-append}
use Rattle.std.specs.Cmp.Lexicographic.{slice_cmp}
use Rattle.std.specs.Ordering.{nat_cmp, ordering_then}
use Rattle.std.specs.declared.cmp.Ordering.{Ordering}
use Rattle.std.specs.declared.cmp.Ordering.TheVariants.{Less}
use Rattle.std.proofs.lemmas.Bool.{cases_order, cond-true, lt-ltb}
use Rattle.std.proofs.lemmas.Cmp.{nat_cmp_total, tied_itself}
use Rattle.std.proofs.lemmas.Nat.{div-add-mod', div-mul-add, mod-mul-add, mod_below, div_below}
use Rattle.std.proofs.lemmas.List.{take_more_set, append_assoc}
use Rattle.std.proofs.lemmas.List.Elements.{All-cons, All-head, All-tail}
use Rattle.std.proofs.Math.Nat.{pow-zero, pow-suc, pow-le-pow_right, mul_comm, mul-le-mul_right}
use Rattle.delayed_sim.specs.Words.{word_number, digits, place_of}

pub power_zero : (l : ℕ) → ◌≡◌ {A = ℕ} (l ^ 0) 1
power_zero l = pow-zero l

-- a word's number is below the number of such words
pub number_below : (labels : ℕ) (b : List ℕ) → All (λ a. a < labels) b → word_number labels b < labels ^ length b
number_below labels [] all = omega (arith, power_zero labels)
number_below labels (a ∷ b) all =
    let rest = number_below labels b (All-tail (λ a. a < labels) a b all) in
    let first : a < labels = All-head (λ a. a < labels) a b all in
    let row : suc a * labels ^ length b ≤ labels * labels ^ length b = mul-le-mul_right (labels ^ length b) first in
    let step : suc a * labels ^ length b ≡ labels ^ length b + a * labels ^ length b = suc_times a (labels ^ length b) in
    let power : labels ^ suc (length b) ≡ labels * labels ^ length b = pow-suc labels (length b) ∙ mul_comm (labels ^ length b) labels in
    omega arith
  where
    suc_times : (a n : ℕ) → suc a * n ≡ n + a * n
    suc_times a n = grind arith

pub length-digits : (labels m k : ℕ) → length (digits labels m k) ≡ m
length-digits labels zero k = refl
length-digits labels (suc m) k = ap suc (length-digits labels m (k % labels ^ m))

-- a power is not zero where something is below the next one
pub power_some : (labels m k : ℕ) → k < labels ^ suc m → 0 < labels ^ m
power_some labels m k lt =
    let power : labels ^ suc m ≡ labels ^ m * labels = pow-suc labels m in
    by (labels ^ m) refl power
  where
    by : (w : ℕ) → labels ^ m ≡ w → labels ^ suc m ≡ w * labels → 0 < w
    by zero e power = absurd (omega (arith, none_times labels))
      where
        none_times : (l : ℕ) → zero * l ≡ zero
        none_times l = grind arith
    by (suc w) e power = omega arith

pub digits_below : (labels m k : ℕ) → k < labels ^ m → All (λ a. a < labels) (digits labels m k)
digits_below labels zero k lt = λ i d i_in. absurd (omega arith)
digits_below labels (suc m) k lt =
    let some = power_some labels m k lt in
    let power : labels ^ suc m ≡ labels * labels ^ m = pow-suc labels m ∙ mul_comm (labels ^ m) labels in
    All-cons (λ a. a < labels) (k / labels ^ m) (digits labels m (k % labels ^ m)) (div_below k (labels ^ m) labels some (omega arith)) (digits_below labels m (k % labels ^ m) (mod_below k (labels ^ m) some))

pub number-digits : (labels m k : ℕ) → k < labels ^ m → word_number labels (digits labels m k) ≡ k
number-digits labels zero k lt = omega (arith, power_zero labels)
number-digits labels (suc m) k lt =
    let some = power_some labels m k lt in
    ap (λ i. k / labels ^ m * labels ^ i + word_number labels (digits labels m (k % labels ^ m))) (length-digits labels m (k % labels ^ m))
    ∙ ap (λ r. k / labels ^ m * labels ^ m + r) (number-digits labels m (k % labels ^ m) (mod_below k (labels ^ m) some))
    ∙ div-add-mod' k (labels ^ m)

pub digits-number : (labels : ℕ) (b : List ℕ) → All (λ a. a < labels) b → digits labels (length b) (word_number labels b) ≡ b
digits-number labels [] all = refl
digits-number labels (a ∷ b) all =
    let w = labels ^ length b in
    let r = word_number labels b in
    let below = number_below labels b (All-tail (λ a. a < labels) a b all) in
    let first : (a * w + r) / w ≡ a = div-mul-add a w r below in
    let rest : digits labels (length b) ((a * w + r) % w) ≡ b = ap (digits labels (length b)) (mod-mul-add a w r below) ∙ digits-number labels b (All-tail (λ a. a < labels) a b all) in
    λ i. first i ∷ rest i

-- words of one length with one number are one
pub number_one : (labels : ℕ) (b c : List ℕ) → length b ≡ length c → All (λ a. a < labels) b → All (λ a. a < labels) c → word_number labels b ≡ word_number labels c → b ≡ c
number_one labels b c len all_b all_c e =
    sym (digits-number labels b all_b) ∙ ap (λ m. digits labels m (word_number labels b)) len ∙ ap (digits labels (length c)) e ∙ digits-number labels c all_c

-- a letter more behind a word
pub number_push : (labels : ℕ) (b : List ℕ) (more : ℕ) → word_number labels (b ++ more ∷ []) ≡ word_number labels b * labels + more
number_push labels [] more = grind (arith, power_zero labels)
number_push labels (a ∷ b) more =
    let len : length (b ++ more ∷ []) ≡ suc (length b) = omega (arith, length-append b (more ∷ [])) in
    let w = labels ^ length b in
    let n = word_number labels b in
    ap (λ i. a * labels ^ i + word_number labels (b ++ more ∷ [])) len
    ∙ ap (λ p. a * p + word_number labels (b ++ more ∷ [])) (pow-suc labels (length b))
    ∙ ap (λ r. a * (w * labels) + r) (number_push labels b more)
    ∙ spread a w n labels more
  where
    spread : (a w n l m : ℕ) → a * (w * l) + (n * l + m) ≡ (a * w + n) * l + m
    spread a w n l m = grind arith

-- ---- the order of words is that of their numbers

less_from_lt : (a b : ℕ) → a < b → nat_cmp a b ≡ Less
less_from_lt a b lt = cond-true _ _ _ (lt-ltb a b lt)

less_first : (a b : ℕ) (r : Ordering) → a < b → ordering_then (nat_cmp a b) r ≡ Less
less_first a b r lt = ap (λ o. ordering_then o r) (less_from_lt a b lt)

pub equal_first : (a b : ℕ) (r : Ordering) → a ≡ b → ordering_then (nat_cmp a b) r ≡ r
equal_first a b r e = ap (λ o. ordering_then o r) (ap (nat_cmp a) (sym e) ∙ tied_itself nat_cmp_total a)

pub lt_less : (a b : ℕ) → a < b → nat_cmp a b ≡ Less
lt_less a b lt = less_from_lt a b lt

-- a word behind a greater first letter has a greater number
not_behind : (a b w m n : ℕ) → b < a → m < w → n < w → a * w + m < b * w + n → ⊥
not_behind a b w m n lt m_in n_in less =
    let row : suc b * w ≤ a * w = mul-le-mul_right w lt in
    let step : suc b * w ≡ w + b * w = suc_times b w in
    omega arith
  where
    suc_times : (a n : ℕ) → suc a * n ≡ n + a * n
    suc_times a n = grind arith

-- words behind two first letters
heads_order :
    (labels : ℕ) (b c : List ℕ) (p p' : ℕ)
    → length b ≡ length c
    → All (λ a. a < labels) b
    → All (λ a. a < labels) c
    → place_of labels p b < place_of labels p' c
    → (word_number labels b < word_number labels c → slice_cmp nat_cmp b c ≡ Less)
    → slice_cmp nat_cmp (p ∷ b) (p' ∷ c) ≡ Less
heads_order labels b c p p' len all_b all_c less rest = elim (cases_order p p') [
  | inl e ↦
      let first : p * labels ^ length b ≡ p' * labels ^ length c = ap (λ x. x * labels ^ length b) e ∙ ap (λ i. p' * labels ^ i) len in
      equal_first p p' (slice_cmp nat_cmp b c) e ∙ rest (omega arith)
  | inr (inl lt) ↦ less_first p p' (slice_cmp nat_cmp b c) lt
  | inr (inr gt) ↦ absurd (not_behind p p' (labels ^ length c) (word_number labels b) (word_number labels c) gt
      (subst (λ i. word_number labels b < labels ^ i) len (number_below labels b all_b)) (number_below labels c all_c)
      (subst (λ i. p * labels ^ i + word_number labels b < p' * labels ^ length c + word_number labels c) len less))
]

word_order : (labels : ℕ) (b c : List ℕ) → length b ≡ length c → All (λ a. a < labels) b → All (λ a. a < labels) c → word_number labels b < word_number labels c → slice_cmp nat_cmp b c ≡ Less
word_order labels [] [] len all_b all_c less = absurd (omega arith)
word_order labels [] (y ∷ c) len all_b all_c less = absurd (omega arith)
word_order labels (x ∷ b) [] len all_b all_c less = absurd (omega arith)
word_order labels (x ∷ b) (y ∷ c) len all_b all_c less =
    let b_all = All-tail (λ a. a < labels) x b all_b in
    let c_all = All-tail (λ a. a < labels) y c all_c in
    heads_order labels b c x y (omega arith) b_all c_all less (λ lt. word_order labels b c (omega arith) b_all c_all lt)

pub number_order :
    (labels : ℕ) (b c : List ℕ) (p p' : ℕ)
    → length b ≡ length c
    → All (λ a. a < labels) b
    → All (λ a. a < labels) c
    → place_of labels p b < place_of labels p' c
    → slice_cmp nat_cmp (p ∷ b) (p' ∷ c) ≡ Less
number_order labels b c p p' len all_b all_c less = heads_order labels b c p p' len all_b all_c less (λ lt. word_order labels b c len all_b all_c lt)

-- ---- powers and letters as the program makes them

pub power_more : (l c i next : ℕ) → next ≡ suc i → c ≡ l ^ i → c * l ≡ l ^ next
power_more l c i next e is = ap (λ x. x * l) is ∙ sym (pow-suc l i) ∙ ap (λ j. l ^ j) (sym e)

pub power_fits : (l i n b c : ℕ) → i < n → l ^ n < b → c ≡ l ^ i → c * l < b
power_fits zero i n b c lt fits is = omega (arith, none c)
  where
    none : (c : ℕ) → c * zero ≡ zero
    none c = grind arith
power_fits (suc l) i n b c lt fits is =
    let upto : suc l ^ suc i ≤ suc l ^ n = pow-le-pow_right (some l) lt in
    omega (arith, power_more (suc l) c i (suc i) refl is)
  where
    some : (l : ℕ) → 0 < suc l
    some l = omega arith

-- one more letter of a word, from the front
pub letter_more :
    (labels at m number rest unit : ℕ) (word : List ℕ) (whole : List ℕ) (left next : ℕ)
    → left ≡ suc m
    → next ≡ m
    → unit ≡ labels ^ m
    → at < length word
    → take at word ++ digits labels left rest ≡ whole
    → take (at + 1) (set word at (rest / unit)) ++ digits labels next (rest % unit) ≡ whole
letter_more labels at m number rest unit word whole left next e f is at_in so_far =
    let first = rest / unit in
    let tail : digits labels next (rest % unit) ≡ digits labels m (rest % labels ^ m) = ap (λ i. digits labels i (rest % unit)) f ∙ ap (λ u. digits labels m (rest % u)) is in
    let head : first ≡ rest / labels ^ m = ap (λ u. rest / u) is in
    ap (λ l. l ++ digits labels next (rest % unit)) (take_more_set word at first at_in)
    ∙ append_assoc (take at word) (first ∷ []) (digits labels next (rest % unit))
    ∙ ap (λ ys. take at word ++ first ∷ ys) tail
    ∙ ap (λ y. take at word ++ y ∷ digits labels m (rest % labels ^ m)) head
    ∙ ap (λ i. take at word ++ digits labels i rest) (sym e)
    ∙ so_far

pub unit_some : (labels left m rest unit : ℕ) → left ≡ suc m → unit ≡ labels ^ m → rest < labels ^ left → 0 < unit
unit_some labels left m rest unit e is lt = let some = power_some labels m rest (subst (λ i. rest < labels ^ i) e lt) in omega arith

pub rest_below : (labels left m next rest unit : ℕ) → left ≡ suc m → next ≡ m → unit ≡ labels ^ m → rest < labels ^ left → rest % unit < labels ^ next
rest_below labels left m next rest unit e f is lt =
    let some = unit_some labels left m rest unit e is lt in
    subst (λ i. rest % unit < labels ^ i) (sym f) (subst (λ u. rest % unit < u) is (mod_below rest unit some))
