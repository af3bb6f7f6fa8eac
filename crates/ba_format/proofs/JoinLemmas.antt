-- Lemmas on joined labels and renumbered automata.
use Rattle.std.proofs.Common.{◌≡◌, ℕ, ◌+◌, ◌<◌, ◌≤◌, Bool, true, false, not, cond, ltb, ◌||◌, List, [], ◌∷◌, ◌++◌, length, take, get_or, map, filter, All, Contains, refl, sym, ap, subst, ◌∙◌, true≢false, inl, inr, arith}
use Rattle.std.specs.List.{list_any}
use Rattle.std.specs.List.Sorted.{IsStrictlyIncreasing}
use Rattle.std.proofs.lemmas.List.{get_or_default, take_more, take_all, length-append, append-nil, append_assoc, get_or-take, length-take, get_or-map, length-map}
use Rattle.std.proofs.lemmas.List.Elements.{filter_more, All-filter, All-head, All-tail}
use Rattle.auto_core.specs.declared.parts.Trans.{Trans}
use Rattle.std.proofs.lemmas.List.Kept.{AllPairs-from_increasing}
use Rattle.std.proofs.lemmas.Bool.{cases_lt, cases_eq}
use Rattle.std.proofs.lemmas.List.Folds.{list_any_at, list_any-append, list_any_none}
use Rattle.ba_format.proofs.SightLemmas.{same_text-refl, same_text-equal}
use Rattle.ba_format.specs.Sight.{same_text, place_in, AreDifferent}
use Rattle.auto_core.specs.Automaton.{Automaton, IsAutomaton, HasRepeat, IsBefore, trans, trans_at}
use Rattle.auto_core.specs.Parts.{AreParts}
use Rattle.ba_format.proofs.LineLemmas.{place_within}
use Rattle.std.proofs.lemmas.List.Sums.{passes_at_first}
use Rattle.std.proofs.lemmas.Bool.Decides.{nat_tests}
use Rattle.ba_format.specs.Joining.{joined_labels, relabelled}

-- the numbers gathered are the accepting ones below q
pub record Gathered (accepting items : List ℕ) (q : ℕ) : Type 0 where
  pub is_front : items ≡ take (length items) accepting
  pub within : length items ≤ length accepting
  pub below : (j : ℕ) → j < length items → get_or accepting j 0 < q
  pub above : (j : ℕ) → length items ≤ j → j < length accepting → q ≤ get_or accepting j 0

pub Gathered-none : (accepting : List ℕ) → Gathered accepting [] 0
Gathered-none accepting = record { is_front = refl; within = omega arith; below = λ j lt. absurd (omega arith); above = λ j _ _. omega arith }

-- the same place
pub place_is : (n k : ℕ) → (k < n → ⊥) → (n < k → ⊥) → n ≡ k
place_is n k a b =
    elim (cases_lt k n) [
      | inl h ↦ absurd (a h)
      | inr h ↦ elim (cases_lt n k) [ inl g ↦ absurd (b g) | inr g ↦ omega arith ]
    ]

-- one more state gathered
pub Gathered-yes : (accepting items : List ℕ) (q : ℕ) → IsStrictlyIncreasing accepting → Contains accepting q → Gathered accepting items q → Gathered accepting (items ++ q ∷ []) (q + 1)
Gathered-yes accepting items q rising c g =
    let up = AllPairs-from_increasing accepting rising in
    let n = length items in
    let k = c.0 in
    let at_k : get_or accepting k 0 ≡ q = get_or_default accepting k 0 q c.1 ∙ c.2 in
    let same : n ≡ k = place_is n k (λ lt. omega (arith, g.below k lt)) (λ lt. omega (arith, up n k 0 lt c.1, g.above n (omega arith) (omega arith))) in
    let inside : n < length accepting = omega arith in
    let here : get_or accepting n 0 ≡ q = ap (λ j. get_or accepting j 0) same ∙ at_k in
    let long : length (items ++ q ∷ []) ≡ n + 1 = length-append items (q ∷ []) in
    record {
      is_front =
          ap (λ l. l ++ q ∷ []) g.is_front
          ∙ ap (λ x. take n accepting ++ x ∷ []) (sym here)
          ∙ sym (take_more accepting n 0 inside)
          ∙ ap (λ m. take m accepting) (sym long);
      within = omega arith;
      below = λ j lt.
          elim (cases_lt j n) [
            | inl h ↦ omega (arith, g.below j h)
            | inr h ↦ let e : j ≡ n = omega arith in omega (arith, ap (λ i. get_or accepting i 0) e)
          ];
      above = λ j le lt. omega (arith, up n j 0 (omega arith) lt);
    }

-- a state that is not accepting
pub Gathered-no : (accepting items : List ℕ) (q : ℕ) → (Contains accepting q → ⊥) → Gathered accepting items q → Gathered accepting items (q + 1)
Gathered-no accepting items q none g =
    record {
      is_front = g.is_front;
      within = g.within;
      below = λ j lt. omega (arith, g.below j lt);
      above = λ j le lt.
          elim (cases_eq (get_or accepting j 0) q) [
            | inl e ↦ absurd (none (j, lt, get_or_default accepting j q 0 lt ∙ e))
            | inr n ↦ omega (arith, g.above j le lt)
          ];
    }

-- all states gathered
pub Gathered-end : (accepting items : List ℕ) (q states : ℕ) → All (λ x. x < states) accepting → states ≤ q → Gathered accepting items q → items ≡ accepting
Gathered-end accepting items q states below h g =
    g.is_front ∙ take_all (length items) accepting (
    elim (cases_lt (length items) (length accepting)) [
      | inl lt ↦ absurd (omega (arith, g.above (length items) (omega arith) lt, below (length items) 0 lt))
      | inr le ↦ le
    ]
    )

-- ---- the joined list

-- a text that isn't found isn't there
pub absent : (texts : List (List ℕ)) (text : List ℕ) → list_any (same_text text) texts ≡ false → Contains texts text → ⊥
absent texts text none c =
    true≢false (sym (list_any_at (same_text text) texts c.0 text c.1 (ap (same_text text) c.2 ∙ same_text-refl text)) ∙ none)

-- the texts before a text that differs from them do not have it
not_earlier : (texts : List (List ℕ)) (i : ℕ) → AreDifferent texts → i < length texts → All (λ t. same_text (get_or texts i []) t ≡ false) (take i texts)
not_earlier texts i different lt k d klt =
    let short : k < i = omega (arith, length-take i texts) in
    unlike _ _ (λ e. different k i d short lt (sym (get_or-take i texts k d short) ∙ sym e ∙ get_or_default texts i [] d lt))
  where
    unlike : (a b : List ℕ) → (a ≡ b → ⊥) → same_text a b ≡ false
    unlike a b h = by (same_text a b) refl
      where
        by : (t : Bool) → same_text a b ≡ t → t ≡ false
        by true e = absurd (h (same_text-equal a b e))
        by false e = refl

-- one text more
pub joined-more : (first second : List (List ℕ)) (i : ℕ) (b : Bool) → AreDifferent second → i < length second
    → list_any (same_text (get_or second i [])) (joined_labels first (take i second)) ≡ b
    → joined_labels first (take (i + 1) second) ≡ cond b (joined_labels first (take i second)) (joined_labels first (take i second) ++ get_or second i [] ∷ [])
joined-more first second i b different lt e =
    let text = get_or second i [] in
    let news = λ (t : List ℕ). not (list_any (same_text t) first) in
    let later : list_any (same_text text) (filter news (take i second)) ≡ false = list_any_none (same_text text) _ (All-filter news (λ t. same_text text t ≡ false) (take i second) (not_earlier second i different lt)) in
    let old : list_any (same_text text) first ≡ b = sym (or_false _) ∙ ap (λ t. list_any (same_text text) first || t) (sym later) ∙ sym (list_any-append (same_text text) first (filter news (take i second))) ∙ e in
    ap (λ l. first ++ l) (filter_more news second i [] lt) ∙ by b _ old
  where
    or_false : (b : Bool) → (b || false) ≡ b
    or_false true = refl
    or_false false = refl

    by : (b o : Bool) → o ≡ b
        → first ++ (filter (λ t. not (list_any (same_text t) first)) (take i second) ++ cond (not o) (get_or second i [] ∷ []) [])
        ≡ cond b (joined_labels first (take i second)) (joined_labels first (take i second) ++ get_or second i [] ∷ [])
    by true true h = ap (λ l. first ++ l) (append-nil _)
    by true false h = absurd (true≢false (sym h))
    by false true h = absurd (true≢false h)
    by false false h = sym (append_assoc first _ _)

-- the loop's step: the text at place i is appended unless it is there
pub joined-step : (first second before after : List (List ℕ)) (i : ℕ) (b : Bool) (text : List ℕ) → AreDifferent second → i < length second → text ≡ get_or second i []
    → list_any (same_text text) before ≡ b → before ≡ joined_labels first (take i second) → length before ≤ length first + i
    → after ≡ cond b before (before ++ text ∷ [])
    → (after ≡ joined_labels first (take (i + 1) second)) × (length after ≤ length first + (i + 1))
joined-step first second before after i b text different lt t has e short done = (
  done ∙ (λ j. cond b (e j) (e j ++ t j ∷ [])) ∙ sym (joined-more first second i b different lt ((λ j. list_any (same_text (sym t j)) (sym e j)) ∙ has)),
  longer b done,
)
  where
    longer : (b : Bool) → after ≡ cond b before (before ++ text ∷ []) → length after ≤ length first + (i + 1)
    longer true d = omega (arith, ap length d)
    longer false d = omega (arith, ap length d, length-append before (text ∷ []))

pub joined-nil : (texts : List (List ℕ)) → joined_labels [] texts ≡ texts
joined-nil [] = refl
joined-nil (t ∷ ts) = ap (λ l. t ∷ l) (joined-nil ts)

-- what passes p and is kept still passes
any_kept : {X : Type 0} (p q : X → Bool) → ((y : X) → p y ≡ true → q y ≡ true) → (xs : List X) → list_any p xs ≡ true → list_any p (filter q xs) ≡ true
any_kept p q agree [] h = h
any_kept {X} p q agree (x ∷ xs) h = by (p x) (q x) refl refl (any_kept p q agree xs)
  where
    by : (b d : Bool) → p x ≡ b → q x ≡ d → (list_any p xs ≡ true → list_any p (filter q xs) ≡ true) → list_any p (cond d (x ∷ filter q xs) (filter q xs)) ≡ true
    by true true e f rest = ap (λ t. t || list_any p (filter q xs)) e
    by true false e f rest = absurd (true≢false (sym (agree x e) ∙ f))
    by false true e f rest = ap (λ t. t || list_any p (filter q xs)) e ∙ rest (ap (λ t. t || list_any p xs) (sym e) ∙ h)
    by false false e f rest = rest (ap (λ t. t || list_any p xs) (sym e) ∙ h)

itself : (texts : List (List ℕ)) (k : ℕ) (d : List ℕ) → k < length texts → list_any (same_text (get_or texts k d)) texts ≡ true
itself texts k d lt = list_any_at (same_text (get_or texts k d)) texts k d lt (same_text-refl (get_or texts k d))

-- each label of the first is in the joined list
pub first_found : (first second : List (List ℕ)) → All (λ t. list_any (same_text t) (joined_labels first second) ≡ true) first
first_found first second k d lt =
    let p = same_text (get_or first k d) in
    list_any-append p first _ ∙ ap (λ b. b || list_any p (filter (λ t. not (list_any (same_text t) first)) second)) (itself first k d lt)

-- each label of the second is in the joined list
pub second_found : (first second : List (List ℕ)) → All (λ t. list_any (same_text t) (joined_labels first second) ≡ true) second
second_found first second k d lt =
    list_any-append (same_text (get_or second k d)) first _ ∙ by (list_any (same_text (get_or second k d)) first) refl
  where
    by : (b : Bool) → list_any (same_text (get_or second k d)) first ≡ b
        → (list_any (same_text (get_or second k d)) first || list_any (same_text (get_or second k d)) (filter (λ t. not (list_any (same_text t) first)) second)) ≡ true
    by true e = ap (λ b. b || list_any (same_text (get_or second k d)) (filter (λ t. not (list_any (same_text t) first)) second)) e
    by false e =
        ap (λ b. b || list_any (same_text (get_or second k d)) (filter (λ t. not (list_any (same_text t) first)) second)) e
        ∙ any_kept (same_text (get_or second k d)) (λ t. not (list_any (same_text t) first))
        (λ y f. ap (λ t. not (list_any (same_text t) first)) (sym (same_text-equal (get_or second k d) y f)) ∙ ap not e) second (itself second k d lt)

-- the list after both were added
pub joined_made : (first second new one both : List (List ℕ)) → new ≡ [] → one ≡ joined_labels new first → both ≡ joined_labels one second → (one ≡ first) × (both ≡ joined_labels first second)
joined_made first second new one both n o b =
    let e = o ∙ ap (λ l. joined_labels l first) n ∙ joined-nil first in
    (e, b ∙ ap (λ l. joined_labels l second) e)

-- ---- renumbered automata

-- a text that is found stands at its number
pub number_within : (texts : List (List ℕ)) (text : List ℕ) → list_any (same_text text) texts ≡ true → place_in same_text texts text < length texts
number_within texts text h = within _ _ (place_within (same_text text) texts ∙ h)
  where
    within : (m n : ℕ) → ltb m n ≡ true → m < n
    within m n e = grind (arith, nat_tests)

pub at_number : (texts : List (List ℕ)) (text : List ℕ) → list_any (same_text text) texts ≡ true → text ≡ get_or texts (place_in same_text texts text) []
at_number texts text h = same_text-equal text _ (passes_at_first (same_text text) texts [] (number_within texts text h))

-- different texts have different numbers
pub number_tells : (texts : List (List ℕ)) (a b : List ℕ) → list_any (same_text a) texts ≡ true → list_any (same_text b) texts ≡ true
    → place_in same_text texts a ≡ place_in same_text texts b → a ≡ b
number_tells texts a b ha hb e = at_number texts a ha ∙ ap (λ n. get_or texts n []) e ∙ sym (at_number texts b hb)

map_same : {X Y : Type 0} (f g : X → Y) (xs : List X) → All (λ x. f x ≡ g x) xs → map f xs ≡ map g xs
map_same f g [] h = refl
map_same f g (x ∷ xs) h = λ i. All-head (λ y. f y ≡ g y) x xs h i ∷ map_same f g xs (All-tail (λ y. f y ≡ g y) x xs h) i

module _ (A : Automaton) (labels joined : List (List ℕ)) (valid : IsAutomaton A) (count : A.labels ≡ length labels) (different : AreDifferent labels)
    (found : All (λ label. list_any (same_text label) joined ≡ true) labels) where
  -- the label of a transition
  label_known : (i : ℕ) → i < length A.transitions → (trans_at A i).label < length labels
  label_known i lt = omega (arith, (valid.in_range i (trans 0 0 0) lt).2, count)

  -- the numbers of the labels are those of their texts
  pub by_numbers : (numbers : List ℕ) → numbers ≡ map (place_in same_text joined) labels
      → map (λ t. trans t.source (get_or numbers t.label 0) t.target) A.transitions ≡ map (relabelled labels joined) A.transitions
  by_numbers numbers e =
      map_same (λ t. trans t.source (get_or numbers t.label 0) t.target) (relabelled labels joined) A.transitions (λ k d lt.
      let t = get_or A.transitions k d in
      let known : t.label < length labels = omega (arith, (valid.in_range k d lt).2, count) in
      ap (λ n. trans t.source n t.target) (ap (λ l. get_or l t.label 0) e ∙ get_or-map (place_in same_text joined) labels t.label [] 0 known))

  -- the transition at a place, with its new label
  at_place : (k : ℕ) (d : Trans) → k < length A.transitions → get_or (map (relabelled labels joined) A.transitions) k d ≡ relabelled labels joined (trans_at A k)
  at_place k d lt = get_or-map (relabelled labels joined) A.transitions k (trans 0 0 0) d lt

  -- transitions with the same new parts are the same
  same_parts : (i j : ℕ) → i < length A.transitions → j < length A.transitions
      → relabelled labels joined (trans_at A i) ≡ relabelled labels joined (trans_at A j)
      → ((trans_at A i).source ≡ (trans_at A j).source) × ((trans_at A i).label ≡ (trans_at A j).label) × ((trans_at A i).target ≡ (trans_at A j).target)
  same_parts i j hi hj e =
      let a = (trans_at A i).label in
      let b = (trans_at A j).label in
      let ha : a < length labels = label_known i hi in
      let hb : b < length labels = label_known j hj in
      let texts : get_or labels a [] ≡ get_or labels b [] = number_tells joined _ _ (found a [] ha) (found b [] hb) (ap (λ t. t.label) e) in (
        ap (λ t. t.source) e,
        place_is a b (λ lt. different b a [] lt ha (sym texts)) (λ lt. different a b [] lt hb texts),
        ap (λ t. t.target) e,
      )

  no_repeat : HasRepeat (map (relabelled labels joined) A.transitions) → ⊥
  no_repeat (i, j, differ, hi, hj, e) =
      let long : length (map (relabelled labels joined) A.transitions) ≡ length A.transitions = length-map A.transitions (relabelled labels joined) in
      let hi' : i < length A.transitions = omega arith in
      let hj' : j < length A.transitions = omega arith in
      let same = same_parts i j hi' hj' (sym (at_place i (trans 0 0 0) hi') ∙ e (trans 0 0 0) ∙ at_place j (trans 0 0 0) hj') in
      differ (place_is i j (λ lt. not_before _ _ (valid.in_order j i lt hi') (sym same.0) (sym same.1) (sym same.2)) (λ lt. not_before _ _ (valid.in_order i j lt hj') same.0 same.1 same.2))
    where
      not_before : (t u : Trans) → IsBefore t u → t.source ≡ u.source → t.label ≡ u.label → t.target ≡ u.target → ⊥
      not_before t u h a b c = elim h [
        | inl lt ↦ omega arith
        | inr more ↦ elim more [ inl p ↦ omega (arith, p.1) | inr p ↦ omega (arith, p.2) ]
      ]

  no_state_twice : HasRepeat A.accepting → ⊥
  no_state_twice (i, j, differ, hi, hj, e) =
      let up = AllPairs-from_increasing A.accepting valid.accepting_in_order in
      differ (place_is i j (λ lt. omega (arith, up j i 0 lt hi, e 0)) (λ lt. omega (arith, up i j 0 lt hj, e 0)))

  pub relabelled_parts : AreParts A.states (length joined) A.initial (map (relabelled labels joined) A.transitions) A.accepting
  relabelled_parts =
      let long : length (map (relabelled labels joined) A.transitions) ≡ length A.transitions = length-map A.transitions (relabelled labels joined) in
      record {
        few = omega (arith, valid.few);
        in_states = (
          valid.initial_is_state,
          (λ k d lt.
              let lt' : k < length A.transitions = omega arith in
              let range = valid.in_range k (trans 0 0 0) lt' in
              let P : Trans → Type 0 = λ t. (t.source < A.states) × (t.target < A.states) in
              subst P (sym (at_place k d lt')) (range.0, range.1)),
          valid.accepting_in_range,
        );
        in_labels = λ k d lt.
            let lt' : k < length A.transitions = omega arith in
            let P : Trans → Type 0 = λ t. t.label < length joined in
            subst P (sym (at_place k d lt')) (number_within joined _ (found (trans_at A k).label [] (label_known k lt')));
        no_transition_twice = no_repeat;
        no_state_twice = no_state_twice;
      }

  -- the new transitions, by the steps that make them
  pub transitions_made : (numbers lent : List ℕ) (given lent_transitions made : List Trans) → numbers ≡ map (place_in same_text joined) labels → lent ≡ numbers → given ≡ A.transitions
      → made ≡ map (λ t. trans t.source (get_or lent t.label 0) t.target) given → lent_transitions ≡ made
      → lent_transitions ≡ map (relabelled labels joined) A.transitions
  transitions_made numbers lent given lent_transitions made e l g m t =
      t ∙ m ∙ (λ i. map (λ t. trans t.source (get_or (l i) t.label 0) t.target) (g i)) ∙ by_numbers numbers e
