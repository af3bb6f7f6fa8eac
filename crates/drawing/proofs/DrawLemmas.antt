-- The lists that make the two automata of a drill, and what the automata are.
use Rattle.std.proofs.Common.{◌≡◌, ℕ, ◌+◌, ◌/◌, ◌<◌, ◌≤◌, ◌^◌, Bool, true, false, cond, List, [], ◌∷◌, ◌++◌, length, get_or, drop, map, filter, fold, All, Contains, refl, sym, ap, ◌∙◌, subst, arith, zero-add, decimal}
use Rattle.std.specs.List.{range_with_len, list_any, AllPairs}
use Rattle.std.specs.Str.Parse.{digits_value}
use Rattle.std.proofs.lemmas.Fmt.{decimal_is_IsNumeral}
use Rattle.std.proofs.lemmas.List.{append-nil}
use Rattle.std.proofs.lemmas.List.Elements.{All-map, All-filter, filter-append}
use Rattle.std.proofs.lemmas.List.FromFn.{length-range_with_len, get_or-range_with_len, length-map-range_with_len, get_or-map-range_with_len, map-range_with_len_more}
use Rattle.std.proofs.Math.Nat.{mod-lt}
use Rattle.std.proofs.lemmas.List.Sorted.{length_permutation}
use Rattle.std.proofs.lemmas.List.Sums.{fold-append}
use Rattle.std.proofs.lemmas.List.Kept.{AllPairs-from_increasing, IsStrictlyIncreasing-filter}
use Rattle.auto_core.specs.declared.parts.Trans.{Trans}
use Rattle.auto_core.specs.Parts.{AreParts}
use Rattle.auto_core.proofs.MemberLemmas.{map_from, range_from, range_rises, no_repeat, pairs_mapped}
use Rattle.ba_format.specs.declared.parts.Joined.{Joined}
use Rattle.ba_format.specs.Sight.{noted}
use Rattle.ba_format.specs.Faults.{same_trans}
use Rattle.ba_format.proofs.LawLemmas.{built_once}
use Rattle.ba_format.proofs.NamedLemmas.{All-seen, different-seen, seen-most, same_trans-refl}
use Rattle.drawing.specs.declared.parts.Drill.{Drill}
use Rattle.drawing.specs.Draws.{draw_at}
use Rattle.drawing.specs.Drawn.{IsInBounds, ring_at, ring, extra_at, ring_and_more, accepts_first, accepts_second, drawn_label}
use Rattle.drawing.specs.Laws.{DrawnAreOne, DrawnAreSmall}

-- ---- lists over the numbers from 0

pub range_push : (n : ℕ) → range_with_len 0 (n + 1) ≡ range_with_len 0 n ++ n ∷ []
range_push n = sym (same (range_with_len 0 (n + 1))) ∙ map-range_with_len_more (λ k. k) 0 n n (zero-add n) ∙ ap (λ l. l ++ n ∷ []) (same (range_with_len 0 n))
  where
    same : (xs : List ℕ) → map (λ k. k) xs ≡ xs
    same [] = refl
    same (x ∷ xs) = ap (λ l. x ∷ l) (same xs)

-- one number more, which passes the test or does not
pub filter_more : (p : ℕ → Bool) (n : ℕ) (made new : List ℕ) (b : Bool) → b ≡ p n → made ≡ filter p (range_with_len 0 n)
    → new ≡ cond b (made ++ n ∷ []) made → new ≡ filter p (range_with_len 0 (n + 1))
filter_more p n made new b is e more =
    more ∙ step b ∙ ap (λ c. filter p (range_with_len 0 n) ++ cond c (n ∷ []) []) is
    ∙ sym (ap (filter p) (range_push n) ∙ filter-append p (range_with_len 0 n) (n ∷ []))
  where
    step : (b : Bool) → cond b (made ++ n ∷ []) made ≡ filter p (range_with_len 0 n) ++ cond b (n ∷ []) []
    step true = ap (λ l. l ++ n ∷ []) e
    step false = e ∙ sym (append-nil (filter p (range_with_len 0 n)))

-- one thing more, which was seen or was not
pub fold_more : {X : Type 0} (same : X → X → Bool) (first : List X) (f : ℕ → X) (n : ℕ) (made new : List X) (b : Bool)
    → made ≡ fold (noted same) first (map f (range_with_len 0 n))
    → b ≡ list_any (same (f n)) made
    → new ≡ cond b made (made ++ f n ∷ [])
    → new ≡ fold (noted same) first (map f (range_with_len 0 (n + 1)))
fold_more same first f n made new b e is more =
    more ∙ ap (λ c. cond c made (made ++ f n ∷ [])) is ∙ ap (λ l. noted same l (f n)) e
    ∙ sym (ap (fold (noted same) first) (map-range_with_len_more f 0 n n (zero-add n)) ∙ fold-append (noted same) first (map f (range_with_len 0 n)) (f n ∷ []))

-- ---- the draws

pub draw_read : (seed count i : ℕ) (draws : List ℕ) → draws ≡ map (draw_at seed) (range_with_len 0 count) → i < count → get_or draws i 0 ≡ draw_at seed i
draw_read seed count i draws are near = ap (λ ws. get_or ws i 0) are ∙ get_or-map-range_with_len (draw_at seed) 0 count i i 0 near (zero-add i)

pub draws_counted : (seed count : ℕ) (draws : List ℕ) → draws ≡ map (draw_at seed) (range_with_len 0 count) → length draws ≡ count
draws_counted seed count draws are = ap length are ∙ length-map-range_with_len (draw_at seed) 0 count

-- ---- the parts of the automata

all_below : (n : ℕ) → All (λ s. s < n) (range_with_len 0 n)
all_below n k d lt =
    let near : k < n = omega (arith, length-range_with_len 0 n) in
    omega (arith, get_or-range_with_len 0 n k d near)

module _ (d : Drill) (bounds : IsInBounds d) where
  some_states : 0 < d.states
  some_states = omega (arith, bounds.states_from)

  some_labels : 0 < d.labels
  some_labels = omega (arith, bounds.labels_from)

  abbrev InBounds : Trans → Type 0
  InBounds t = (t.source < d.states) × (t.target < d.states) × (t.label < d.labels)

  ring_in : All InBounds (ring d)
  ring_in = All-map InBounds (ring_at d) (range_with_len 0 d.states) (λ k e lt.
      let near : k < d.states = omega (arith, length-range_with_len 0 d.states) in
      let is = get_or-range_with_len 0 d.states k e near in
      (omega (arith, is), mod-lt _ some_states, mod-lt _ some_labels))

  extras_in : All InBounds (map (extra_at d) (range_with_len 0 (d.states / 8)))
  extras_in = All-map InBounds (extra_at d) (range_with_len 0 (d.states / 8)) (λ k e lt.
      (mod-lt _ some_states, mod-lt _ some_states, mod-lt _ some_labels))

  more_in : All InBounds (ring_and_more d)
  more_in = All-seen same_trans InBounds (ring d) (map (extra_at d) (range_with_len 0 (d.states / 8))) ring_in extras_in

  ring_apart : AllPairs (λ t u. t ≡ u → ⊥) (ring d)
  ring_apart = pairs_mapped (λ x y. x < y) (λ t u. t ≡ u → ⊥) (ring_at d) (λ x. Unit {0})
      (λ x y u v lt e. let same = ap (λ (t : Trans). t.source) e in omega arith)
      (range_with_len 0 d.states) (λ k e lt. tt) (AllPairs-from_increasing (range_with_len 0 d.states) (range_rises d.states))

  more_apart : AllPairs (λ t u. t ≡ u → ⊥) (ring_and_more d)
  more_apart = different-seen same_trans same_trans-refl (ring d) (map (extra_at d) (range_with_len 0 (d.states / 8))) ring_apart

  ring_counted : length (ring d) ≡ d.states
  ring_counted = length-map-range_with_len (ring_at d) 0 d.states

  pub more_counted : length (ring_and_more d) ≤ d.states + d.states / 8
  more_counted = omega (arith, seen-most same_trans (ring d) (map (extra_at d) (range_with_len 0 (d.states / 8))), ring_counted, length-map-range_with_len (extra_at d) 0 (d.states / 8))

  parts : (p : ℕ → Bool) (ts : List Trans) → All InBounds ts → AllPairs (λ t u. t ≡ u → ⊥) ts → length ts < 2 ^ 32
      → AreParts d.states d.labels 0 ts (filter p (range_with_len 0 d.states))
  parts p ts all apart few = record {
    few = few;
    in_states = (
      some_states,
      (λ k e lt. let h = all k e lt in (h.0, h.1)),
      All-filter p (λ q. q < d.states) (range_with_len 0 d.states) (all_below d.states),
    );
    in_labels = λ k e lt. (all k e lt).2;
    no_transition_twice = no_repeat (λ t u. t ≡ u → ⊥) (λ t differ. differ refl) ts apart;
    no_state_twice = no_repeat (λ x y. x < y) (λ x h. omega arith) (filter p (range_with_len 0 d.states))
        (AllPairs-from_increasing _ (IsStrictlyIncreasing-filter p (range_with_len 0 d.states) (range_rises d.states)));
  }

  pub first_parts : (p : ℕ → Bool) → AreParts d.states d.labels 0 (ring d) (filter p (range_with_len 0 d.states))
  first_parts p = parts p (ring d) ring_in ring_apart (omega (arith, ring_counted, bounds.states_upto))

  pub second_parts : (p : ℕ → Bool) → AreParts d.states d.labels 0 (ring_and_more d) (filter p (range_with_len 0 d.states))
  second_parts p = parts p (ring_and_more d) more_in more_apart (omega (arith, more_counted, bounds.states_upto))

-- parts that are equal to parts of an automaton
pub parts_are : (states labels : ℕ) (ts : List Trans) (qs : List ℕ) (us : List Trans) (rs : List ℕ) → us ≡ ts → rs ≡ qs → AreParts states labels 0 ts qs → AreParts states labels 0 us rs
parts_are states labels ts qs us rs same_ts same_qs h = subst (λ l. AreParts states labels 0 us l) (sym same_qs) (subst (λ l. AreParts states labels 0 l qs) (sym same_ts) h)

-- ---- the labels

-- different numbers have different texts
label_new : (n : ℕ) → n ≤ 26 → Contains (map drawn_label (range_with_len 0 n)) (drawn_label n) → ⊥
label_new n few c =
    let (k, there, is) = map_from drawn_label (range_with_len 0 n) (drawn_label n) c in
    let near = range_from n k there in
    let wide : k < 2 ^ 64 = omega (arith, near) in
    let same : decimal k ≡ decimal n = ap (drop 1) is in
    let k_is : digits_value 10 (decimal k) ≡ k = (decimal_is_IsNumeral k wide).1 in
    let n_is : digits_value 10 (decimal n) ≡ n = (decimal_is_IsNumeral n (omega (arith, few))).1 in
    let one : k ≡ n = sym k_is ∙ ap (digits_value 10) same ∙ n_is in
    omega (arith, near, one)

pub label_is_new : (n : ℕ) (texts : List (List ℕ)) (text : List ℕ) → n ≤ 26 → texts ≡ map drawn_label (range_with_len 0 n) → text ≡ drawn_label n → Contains texts text → ⊥
label_is_new n texts text few are is c = label_new n few (subst (λ ts. Contains ts (drawn_label n)) are (subst (Contains texts) is c))

pub labels_more : (n : ℕ) (texts new : List (List ℕ)) (text : List ℕ) → texts ≡ map drawn_label (range_with_len 0 n) → text ≡ drawn_label n → new ≡ texts ++ text ∷ []
    → new ≡ map drawn_label (range_with_len 0 (n + 1))
labels_more n texts new text are is more =
    more ∙ ap (λ t. texts ++ t ∷ []) is ∙ ap (λ ts. ts ++ drawn_label n ∷ []) are ∙ sym (map-range_with_len_more drawn_label 0 n n (zero-add n))

-- ---- the laws

same_pair : (p q : Joined) → p.first ≡ q.first → p.second ≡ q.second → p.labels ≡ q.labels → p ≡ q
same_pair p q one two three = λ i. record { first = one i; second = two i; labels = three i }

pub drawn_one : DrawnAreOne
drawn_one d p q a b =
    same_pair p q
    (built_once d.states d.labels 0 (ring d) (filter (accepts_first d) (range_with_len 0 d.states)) p.first q.first a.first b.first)
    (built_once d.states d.labels 0 (ring_and_more d) (filter (accepts_second d) (range_with_len 0 d.states)) p.second q.second a.second b.second)
    (a.labels ∙ sym b.labels)

pub drawn_small : DrawnAreSmall
drawn_small d p bounds a =
    let texts : length p.labels ≡ d.labels = ap length a.labels ∙ length-map-range_with_len drawn_label 0 d.labels in
    let one = length_permutation (ring d) p.first.transitions a.first.transitions_given in
    let two = length_permutation (ring_and_more d) p.second.transitions a.second.transitions_given in (
      record {
        valid = a.first.valid;
        over = a.first.labels_given ∙ sym texts;
        states = omega (arith, a.first.states_given, bounds.states_upto);
        transitions = omega (arith, one, ring_counted d bounds, bounds.states_upto);
      },
      record {
        valid = a.second.valid;
        over = a.second.labels_given ∙ sym texts;
        states = omega (arith, a.second.states_given, bounds.states_upto);
        transitions = omega (arith, two, more_counted d bounds, bounds.states_upto);
      },
      omega (arith, texts, bounds.labels_upto),
    )
