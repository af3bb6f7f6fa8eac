-- The transitions that stay, and the automaton that they make.
use Rattle.std.proofs.Common.{◌≡◌, ℕ, ◌+◌, ◌<◌, ◌≤◌, ◌⊎◌, Result, Ok, Err, nat_cmp, inl, inr, Bool, true, false, not, cond, ◌==◌, List, [], ◌∷◌, ◌++◌, length, get_or, map, filter, All, Contains, sym, ap, ◌∙◌, subst, arith, add-one, zero-add}
use Rattle.std.specs.List.{list_any, range_with_len, AllPairs}
use Rattle.std.specs.List.Sorted.{IsStrictlyIncreasing, IsBinarySearchResult}
use Rattle.std.specs.Result.{is_ok}
use Rattle.std.proofs.lemmas.Bool.{cases_Bool, cases_lt, false≢true}
use Rattle.std.proofs.lemmas.List.{map-append, append-nil, length-map, get_or_default}
use Rattle.std.proofs.lemmas.List.Elements.{filter-append, Contains-get_or, All-contains}
use Rattle.std.proofs.lemmas.List.Sums.{length-filter, count_by-le-length}
use Rattle.std.proofs.lemmas.List.FromFn.{length-range_with_len}
use Rattle.std.proofs.lemmas.List.Sorted.{searched, Contains-permutation, IsPermutation-sym}
use Rattle.std.proofs.lemmas.List.Kept.{AllPairs-from_increasing, IsStrictlyIncreasing-filter}
use Rattle.auto_core.specs.Automaton.{Automaton, IsAutomaton, is_accepting, IsBefore, IsInRange, trans, trans_at}
use Rattle.auto_core.specs.Build.{IsBuilt}
use Rattle.auto_core.specs.Parts.{AreParts}
use Rattle.auto_core.specs.Pruning.{IsCut}
use Rattle.auto_core.specs.declared.parts.Trans.{Trans}
use Rattle.auto_core.proofs.RangeLemmas.{range_more}
use Rattle.auto_core.proofs.PathLemmas.{Contains-from_test, test_from_Contains, accepting_from_test, test_from_accepting}
use Rattle.auto_core.proofs.MemberLemmas.{filter_has, filter_from, map_has, map_from, range_has, range_from, range_rises, no_repeat, pairs_mapped, rises_from_pairs, same_members, same_bool}
use Rattle.prune_pairs.specs.Staying.{stays_in, staying_transitions}

-- ---- a number in the ascending list

rising : (xs : List ℕ) → IsStrictlyIncreasing xs → (i j : ℕ) → i ≤ j → j < length xs → get_or xs i 0 ≤ get_or xs j 0
rising xs up i j le j_in = elim (cases_lt i j) [
  | inl lt ↦ let h = AllPairs-from_increasing xs up i j 0 lt j_in in omega arith
  | inr ge ↦ let e : get_or xs i 0 ≡ get_or xs j 0 = ap (λ k. get_or xs k 0) (omega arith) in omega arith
]

pub listed : (xs : List ℕ) (x : ℕ) (r : Result ℕ ℕ) → IsStrictlyIncreasing xs → IsBinarySearchResult (λ y. nat_cmp y x) xs r → is_ok r ≡ list_any (λ y. y == x) xs
listed xs x (Ok i) up h =
    let found = searched xs x (Ok i) h (rising xs up) in
    sym (test_from_Contains xs x (i, found.0, get_or_default xs i x 0 found.0 ∙ found.1))
listed xs x (Err i) up h =
    let parts = searched xs x (Err i) h (rising xs up) in
    same_bool false (list_any (λ y. y == x) xs) (λ t. absurd (false≢true t)) (λ t.
    let (k, k_in, is) = Contains-from_test xs x t in
    let at : get_or xs k 0 ≡ x = get_or_default xs k 0 x k_in ∙ is in
    elim (cases_lt k i) [ inl lt ↦ absurd (omega (arith, parts.1 k lt)) | inr le ↦ absurd (omega (arith, parts.2 k le k_in)) ])

-- ---- loops

-- one number more, if it passes the test
pub more_filtered : (p : ℕ → Bool) (n : ℕ) → filter p (range_with_len 0 (n + 1)) ≡ filter p (range_with_len 0 n) ++ cond (p n) (n ∷ []) []
more_filtered p n =
    ap (λ k. filter p (range_with_len 0 k)) (add-one n)
    ∙ ap (filter p) (range_more 0 n ∙ ap (λ k. range_with_len 0 n ++ k ∷ []) (zero-add n))
    ∙ filter-append p (range_with_len 0 n) (n ∷ [])

pub more_numbers : (p : ℕ → Bool) (n : ℕ) (made new : List ℕ) (b : Bool) → b ≡ p n → made ≡ filter p (range_with_len 0 n) → new ≡ cond b (made ++ n ∷ []) made → new ≡ filter p (range_with_len 0 (n + 1))
more_numbers p n made new b is e more = more ∙ step b ∙ ap (λ c. filter p (range_with_len 0 n) ++ cond c (n ∷ []) []) is ∙ sym (more_filtered p n)
  where
    step : (b : Bool) → cond b (made ++ n ∷ []) made ≡ filter p (range_with_len 0 n) ++ cond b (n ∷ []) []
    step true = ap (λ l. l ++ n ∷ []) e
    step false = e ∙ sym (append-nil (filter p (range_with_len 0 n)))

pub more_mapped : {X : Type 0} (f : ℕ → X) (p : ℕ → Bool) (n : ℕ) (made new : List X) (b : Bool) → b ≡ p n → made ≡ map f (filter p (range_with_len 0 n))
    → new ≡ cond b (made ++ f n ∷ []) made → new ≡ map f (filter p (range_with_len 0 (n + 1)))
more_mapped f p n made new b is e more =
    more ∙ step b ∙ ap (λ c. map f (filter p (range_with_len 0 n)) ++ map f (cond c (n ∷ []) [])) is
    ∙ sym (ap (map f) (more_filtered p n) ∙ map-append f (filter p (range_with_len 0 n)) (cond (p n) (n ∷ []) []))
  where
    step : (b : Bool) → cond b (made ++ f n ∷ []) made ≡ map f (filter p (range_with_len 0 n)) ++ map f (cond b (n ∷ []) [])
    step true = ap (λ l. l ++ f n ∷ []) e
    step false = e ∙ sym (append-nil (map f (filter p (range_with_len 0 n))))

-- ---- the automaton

all_from : {X : Type 0} (P : X → Type 0) (xs : List X) → ((x : X) → Contains xs x → P x) → All P xs
all_from P xs f k d lt = f (get_or xs k d) (Contains-get_or xs k d lt)

never_before : (t : Trans) → IsBefore t t → ⊥
never_before t h = never t.source t.label t.target h
  where
    never : (a b c : ℕ) → IsBefore (trans a b c) (trans a b c) → ⊥
    never a b c h = omega arith

module _ (A : Automaton) (gone : List ℕ) (valid : IsAutomaton A) where
  pub staying_from : (t : Trans) → Contains (staying_transitions A gone) t → (k : ℕ) × (k < length A.transitions) × (trans_at A k ≡ t) × (Contains gone k → ⊥)
  staying_from t h =
      let (k, there, is) = map_from (trans_at A) (filter (stays_in gone) (range_with_len 0 (length A.transitions))) t h in
      let (near, stays) = filter_from (stays_in gone) (range_with_len 0 (length A.transitions)) k there in
      (k, range_from (length A.transitions) k near, is, λ in_gone. false≢true (sym (ap not (test_from_Contains gone k in_gone)) ∙ stays))

  pub staying_has : (k : ℕ) → k < length A.transitions → (Contains gone k → ⊥) → Contains (staying_transitions A gone) (trans_at A k)
  staying_has k k_in not_gone = map_has (trans_at A) (filter (stays_in gone) (range_with_len 0 (length A.transitions))) k
      (filter_has (stays_in gone) (range_with_len 0 (length A.transitions)) k (range_has (length A.transitions) k k_in) (stays (cases_Bool (list_any (λ x. x == k) gone))))
    where
      stays : (list_any (λ x. x == k) gone ≡ true) ⊎ (list_any (λ x. x == k) gone ≡ false) → stays_in gone k ≡ true
      stays (inl t) = absurd (not_gone (Contains-from_test gone k t))
      stays (inr f) = ap not f

  in_A : (t : Trans) → Contains (staying_transitions A gone) t → Contains A.transitions t
  in_A t h = let (k, k_in, is, _) = staying_from t h in (k, k_in, get_or_default A.transitions k t (trans 0 0 0) k_in ∙ is)

  ranged : (t : Trans) → Contains A.transitions t → IsInRange A.states A.labels t
  ranged t h = All-contains (IsInRange A.states A.labels) A.transitions t valid.in_range h

  staying_rise : AllPairs IsBefore (staying_transitions A gone)
  staying_rise = pairs_mapped (λ x y. x < y) IsBefore (trans_at A) (λ k. k < length A.transitions) (λ x y x_in y_in lt. valid.in_order x y lt y_in)
      (filter (stays_in gone) (range_with_len 0 (length A.transitions)))
      (all_from (λ k. k < length A.transitions) (filter (stays_in gone) (range_with_len 0 (length A.transitions))) (λ k h. range_from (length A.transitions) k (filter_from (stays_in gone) (range_with_len 0 (length A.transitions)) k h).0))
      (AllPairs-from_increasing _ (IsStrictlyIncreasing-filter (stays_in gone) (range_with_len 0 (length A.transitions)) (range_rises (length A.transitions))))

  accepting_rise : IsStrictlyIncreasing (filter (is_accepting A) (range_with_len 0 A.states))
  accepting_rise = IsStrictlyIncreasing-filter (is_accepting A) (range_with_len 0 A.states) (range_rises A.states)

  pub cut_parts : AreParts A.states A.labels A.initial (staying_transitions A gone) (filter (is_accepting A) (range_with_len 0 A.states))
  cut_parts = record {
    few = let few = valid.few in omega (arith, length-map (filter (stays_in gone) (range_with_len 0 (length A.transitions))) (trans_at A), length-filter (stays_in gone) (range_with_len 0 (length A.transitions)), count_by-le-length (stays_in gone) (range_with_len 0 (length A.transitions)), length-range_with_len 0 (length A.transitions));
    in_states = (
      valid.initial_is_state,
      all_from (λ t. (t.source < A.states) × (t.target < A.states)) (staying_transitions A gone) (λ t h.
          let r = ranged t (in_A t h) in (r.0, r.1)),
      all_from (λ q. q < A.states) (filter (is_accepting A) (range_with_len 0 A.states)) (λ q h. range_from A.states q (filter_from (is_accepting A) (range_with_len 0 A.states) q h).0),
    );
    in_labels = all_from (λ t. t.label < A.labels) (staying_transitions A gone) (λ t h. (ranged t (in_A t h)).2);
    no_transition_twice = no_repeat IsBefore never_before (staying_transitions A gone) staying_rise;
    no_state_twice = no_repeat (λ x y. x < y) (λ x h. omega arith) (filter (is_accepting A) (range_with_len 0 A.states)) (AllPairs-from_increasing _ accepting_rise);
  }

  pub cut_built : (B : Automaton) → IsBuilt A.states A.labels A.initial (staying_transitions A gone) (filter (is_accepting A) (range_with_len 0 A.states)) B → IsCut A gone B
  cut_built B b = record {
    valid = b.valid;
    states = b.states_given;
    labels = b.labels_given;
    initial = b.initial_given;
    moves = λ p a q. (
      λ m. staying_from (trans p a q) (Contains-permutation B.transitions (staying_transitions A gone) (trans p a q) (IsPermutation-sym (staying_transitions A gone) B.transitions b.transitions_given) m),
      λ (k, k_in, is, not_gone). subst (λ t. Contains B.transitions t) is (Contains-permutation (staying_transitions A gone) B.transitions (trans_at A k) b.transitions_given (staying_has k k_in not_gone)),
    );
    accepting = same_members (λ x y. x < y) (λ x y h k. omega arith) B.accepting A.accepting
        (rises_from_pairs (λ x y. x < y) B.accepting (AllPairs-from_increasing B.accepting b.valid.accepting_in_order))
        (rises_from_pairs (λ x y. x < y) A.accepting (AllPairs-from_increasing A.accepting valid.accepting_in_order))
        (λ q h. accepting_from_test A q (filter_from (is_accepting A) (range_with_len 0 A.states) q (Contains-permutation B.accepting _ q (IsPermutation-sym _ B.accepting b.accepting_given) h)).1)
        (λ q h. Contains-permutation _ B.accepting q b.accepting_given (filter_has (is_accepting A) (range_with_len 0 A.states) q (range_has A.states q (All-contains (λ x. x < A.states) A.accepting q valid.accepting_in_range h)) (test_from_accepting A q h)));
  }
