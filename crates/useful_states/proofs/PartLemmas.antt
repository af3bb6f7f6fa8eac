-- The lists that make an automaton of some of the states, and the automaton that they make.
use Rattle.std.proofs.Common.{◌≡◌, ℕ, ◌+◌, ◌<◌, ◌≤◌, ◌^◌, inl, inr, Bool, true, false, cond, ◌&&◌, List, [], ◌∷◌, ◌++◌, length, get_or, map, filter, All, Contains, sym, ap, ◌∙◌, subst, arith, add-one, zero-add}
use Rattle.std.specs.List.{range_with_len}
use Rattle.std.proofs.lemmas.Bool.{and_parts, and_from}
use Rattle.std.proofs.lemmas.List.{length-map, map-append, append-nil, get_or_default}
use Rattle.std.proofs.lemmas.List.Elements.{All-map, All-filter, filter_passes, filter-append, All-contains}
use Rattle.std.proofs.lemmas.List.Sums.{length-filter, count_by-le-length}
use Rattle.std.proofs.lemmas.List.Sorted.{Contains-permutation, IsPermutation-sym}
use Rattle.std.proofs.lemmas.List.Kept.{AllPairs-filter, AllPairs-from_increasing, IsStrictlyIncreasing-filter}
use Rattle.auto_core.specs.Automaton.{Automaton, IsAutomaton, Moves, IsAccepting, is_accepting, IsBefore, HasRepeat, trans}
use Rattle.auto_core.specs.Build.{IsBuilt}
use Rattle.auto_core.specs.Parts.{AreParts}
use Rattle.auto_core.specs.Useful.{count_below, stays, new_number, IsKeptPart}
use Rattle.auto_core.specs.declared.parts.Trans.{Trans}
use Rattle.auto_core.proofs.RangeLemmas.{range_more}
use Rattle.auto_core.proofs.PathLemmas.{Contains-from_test, test_from_Contains, accepting_from_test, test_from_accepting}
use Rattle.auto_core.proofs.MemberLemmas.{filter_has, filter_from, map_has, map_from, range_has, range_rises, no_repeat, pairs_mapped}
use Rattle.auto_core.proofs.SetLemmas.{transitions_rise}
use Rattle.useful_states.specs.KeptParts.{has, joins, renumbered, kept_transitions, kept_accepting, AreNumbers}
use Rattle.useful_states.proofs.KeepLaws.{count_rises, kept_stays, initial_stays}

never_before : (t : Trans) → IsBefore t t → ⊥
never_before t h = never t.source t.label t.target h
  where
    never : (a b c : ℕ) → IsBefore (trans a b c) (trans a b c) → ⊥
    never a b c h = omega arith

module _ (A : Automaton) (kept : List ℕ) (valid : IsAutomaton A) where
  -- the states that stay
  count : ℕ
  count = count_below (stays A kept) A.states

  number_below : (q : ℕ) → stays A kept q ≡ true → q < A.states → new_number A kept q < count
  unfolding count
  number_below q st q_in = count_rises (stays A kept) q A.states q_in st

  has_stays : (q : ℕ) → has kept q ≡ true → stays A kept q ≡ true
  has_stays q h = kept_stays A kept q (Contains-from_test kept q h)

  -- a transition that is renumbered: both ends stay
  Joined : Trans → Type 0
  Joined t = (stays A kept t.source ≡ true) × (stays A kept t.target ≡ true)

  joined : (t : Trans) → joins kept t ≡ true → Joined t
  unfolding Joined
  joined t h = let (s, r) = and_parts (has kept t.source) (has kept t.target) h in (has_stays t.source s, has_stays t.target r)

  all_joined : All Joined (filter (joins kept) A.transitions)
  all_joined k d lt = joined (get_or (filter (joins kept) A.transitions) k d) (filter_passes (joins kept) A.transitions k d lt)

  renumbered_in_order : (t u : Trans) → Joined t → Joined u → IsBefore t u → IsBefore (renumbered A kept t) (renumbered A kept u)
  unfolding Joined
  renumbered_in_order t u t_joined u_joined h = elim h [
    | inl lt ↦ inl (count_rises (stays A kept) t.source u.source lt t_joined.0)
    | inr more ↦ elim more [
      | inl p ↦ inr (inl (ap (new_number A kept) p.0, p.1))
      | inr p ↦ inr (inr (ap (new_number A kept) p.0, p.1, count_rises (stays A kept) t.target u.target p.2 t_joined.1))
    ]
  ]

  transitions_once : HasRepeat (kept_transitions A kept) → ⊥
  transitions_once = no_repeat IsBefore never_before (kept_transitions A kept)
      (pairs_mapped IsBefore IsBefore (renumbered A kept) Joined renumbered_in_order (filter (joins kept) A.transitions) all_joined
      (AllPairs-filter IsBefore (joins kept) A.transitions (transitions_rise A valid)))

  transitions_few : length (kept_transitions A kept) < 2 ^ 32
  transitions_few =
      let few = valid.few in
      omega (arith, length-map (filter (joins kept) A.transitions) (renumbered A kept), length-filter (joins kept) A.transitions, count_by-le-length (joins kept) A.transitions)

  both : ℕ → Bool
  both q = has kept q && is_accepting A q

  accepting_once : HasRepeat (kept_accepting A kept) → ⊥
  accepting_once = no_repeat (λ x y. x < y) (λ x h. omega arith) (kept_accepting A kept)
      (pairs_mapped (λ x y. x < y) (λ x y. x < y) (new_number A kept) (λ q. stays A kept q ≡ true)
      (λ x y x_st y_st lt. count_rises (stays A kept) x y lt x_st)
      (filter (λ q. has kept q && is_accepting A q) (range_with_len 0 A.states))
      (λ k d lt. has_stays _ (and_parts _ _ (filter_passes (λ q. has kept q && is_accepting A q) (range_with_len 0 A.states) k d lt)).0)
      (AllPairs-from_increasing _ (IsStrictlyIncreasing-filter (λ q. has kept q && is_accepting A q) (range_with_len 0 A.states) (range_rises A.states))))

  pub parts_kept : AreParts (count_below (stays A kept) A.states) A.labels (new_number A kept A.initial) (kept_transitions A kept) (kept_accepting A kept)
  unfolding count Joined
  parts_kept = record {
    few = transitions_few;
    in_states = (
      number_below A.initial (initial_stays A kept) valid.initial_is_state,
      All-map (λ t. (t.source < count) × (t.target < count)) (renumbered A kept) (filter (joins kept) A.transitions) (λ k d lt.
          let in_range = All-filter (joins kept) (λ t. (t.source < A.states) × (t.target < A.states)) A.transitions (λ i e i_in. let r = valid.in_range i e i_in in (r.0, r.1)) k d lt in
          let j = all_joined k d lt in
          (number_below _ j.0 in_range.0, number_below _ j.1 in_range.1)),
      All-map (λ q. q < count) (new_number A kept) (filter (λ q. has kept q && is_accepting A q) (range_with_len 0 A.states)) (λ k d lt.
          let passes = and_parts _ _ (filter_passes (λ q. has kept q && is_accepting A q) (range_with_len 0 A.states) k d lt) in
          number_below _ (has_stays _ passes.0) (All-contains (λ x. x < A.states) A.accepting _ valid.accepting_in_range (accepting_from_test A _ passes.1))),
    );
    in_labels = All-map (λ t. t.label < A.labels) (renumbered A kept) (filter (joins kept) A.transitions)
        (All-filter (joins kept) (λ t. t.label < A.labels) A.transitions (λ k d lt. (valid.in_range k d lt).2));
    no_transition_twice = transitions_once;
    no_state_twice = accepting_once;
  }

  module _ (B : Automaton) (b : IsBuilt (count_below (stays A kept) A.states) A.labels (new_number A kept A.initial) (kept_transitions A kept) (kept_accepting A kept) B) where
    moves_to : (p a q : ℕ) → Moves B p a q → (r s : ℕ) × Contains kept r × Contains kept s × Moves A r a s × (p ≡ new_number A kept r) × (q ≡ new_number A kept s)
    moves_to p a q m =
        let made = Contains-permutation B.transitions (kept_transitions A kept) (trans p a q) (IsPermutation-sym (kept_transitions A kept) B.transitions b.transitions_given) m in
        let (t, there, is) = map_from (renumbered A kept) (filter (joins kept) A.transitions) (trans p a q) made in
        let (in_A, passes) = filter_from (joins kept) A.transitions t there in
        let (source, target) = and_parts (has kept t.source) (has kept t.target) passes in (
          t.source,
          t.target,
          Contains-from_test kept t.source source,
          Contains-from_test kept t.target target,
          subst (λ x. Moves A t.source x t.target) (ap (λ (u : Trans). u.label) is) in_A,
          sym (ap (λ (u : Trans). u.source) is),
          sym (ap (λ (u : Trans). u.target) is),
        )

    moves_from : (p a q r s : ℕ) → Contains kept r → Contains kept s → Moves A r a s → p ≡ new_number A kept r → q ≡ new_number A kept s → Moves B p a q
    moves_from p a q r s r_kept s_kept m p_is q_is =
        let there = filter_has (joins kept) A.transitions (trans r a s) m (and_from (has kept r) (has kept s) (test_from_Contains kept r r_kept) (test_from_Contains kept s s_kept)) in
        let made = map_has (renumbered A kept) (filter (joins kept) A.transitions) (trans r a s) there in
        let in_B = Contains-permutation (kept_transitions A kept) B.transitions (trans (new_number A kept r) a (new_number A kept s)) b.transitions_given made in
        subst (λ x. Moves B x a q) (sym p_is) (subst (λ x. Moves B (new_number A kept r) a x) (sym q_is) in_B)

    accepting_to : (p : ℕ) → IsAccepting B p → (r : ℕ) × Contains kept r × IsAccepting A r × (p ≡ new_number A kept r)
    accepting_to p h =
        let made = Contains-permutation B.accepting (kept_accepting A kept) p (IsPermutation-sym (kept_accepting A kept) B.accepting b.accepting_given) h in
        let (r, there, is) = map_from (new_number A kept) (filter (λ q. has kept q && is_accepting A q) (range_with_len 0 A.states)) p made in
        let (near, passes) = filter_from (λ q. has kept q && is_accepting A q) (range_with_len 0 A.states) r there in
        let (stayed, acc) = and_parts (has kept r) (is_accepting A r) passes in
        (r, Contains-from_test kept r stayed, accepting_from_test A r acc, sym is)

    accepting_from : (p r : ℕ) → Contains kept r → IsAccepting A r → p ≡ new_number A kept r → IsAccepting B p
    accepting_from p r r_kept acc is =
        let near = range_has A.states r (All-contains (λ x. x < A.states) A.accepting r valid.accepting_in_range acc) in
        let there = filter_has (λ q. has kept q && is_accepting A q) (range_with_len 0 A.states) r near (and_from (has kept r) (is_accepting A r) (test_from_Contains kept r r_kept) (test_from_accepting A r acc)) in
        let made = map_has (new_number A kept) (filter (λ q. has kept q && is_accepting A q) (range_with_len 0 A.states)) r there in
        subst (λ x. IsAccepting B x) (sym is) (Contains-permutation (kept_accepting A kept) B.accepting (new_number A kept r) b.accepting_given made)

    pub kept_from_built : IsKeptPart A kept B
    kept_from_built = record {
      valid = b.valid;
      states = b.states_given;
      labels = b.labels_given;
      initial = b.initial_given;
      moves = λ p a q. (moves_to p a q, λ (r, s, r_kept, s_kept, m, p_is, q_is). moves_from p a q r s r_kept s_kept m p_is q_is);
      accepting = λ p. (accepting_to p, λ (r, r_kept, acc, is). accepting_from p r r_kept acc is);
    }

-- ---- loops

-- one accepting state more, if it is kept
pub more_accepting :
    (A : Automaton) (kept : List ℕ) (n : ℕ) (made new : List ℕ) (b : Bool)
    → b ≡ (has kept n && is_accepting A n)
    → made ≡ map (new_number A kept) (filter (λ q. has kept q && is_accepting A q) (range_with_len 0 n))
    → new ≡ cond b (made ++ new_number A kept n ∷ []) made
    → new ≡ map (new_number A kept) (filter (λ q. has kept q && is_accepting A q) (range_with_len 0 (n + 1)))
more_accepting A kept n made new b is e more =
    let both : ℕ → Bool = λ q. has kept q && is_accepting A q in
    let N = new_number A kept in
    let whole : map N (filter both (range_with_len 0 (n + 1))) ≡ map N (filter both (range_with_len 0 n)) ++ map N (cond (both n) (n ∷ []) []) =
    ap (λ l. map N (filter both l)) (ap (λ k. range_with_len 0 k) (add-one n) ∙ range_more 0 n ∙ ap (λ k. range_with_len 0 n ++ k ∷ []) (zero-add n))
    ∙ ap (λ l. map N l) (filter-append both (range_with_len 0 n) (n ∷ []))
    ∙ map-append N (filter both (range_with_len 0 n)) (cond (both n) (n ∷ []) []) in
    more ∙ step b ∙ ap (λ c. map N (filter both (range_with_len 0 n)) ++ map N (cond c (n ∷ []) [])) is ∙ sym whole
  where
    step : (b : Bool) → cond b (made ++ new_number A kept n ∷ []) made ≡ map (new_number A kept) (filter (λ q. has kept q && is_accepting A q) (range_with_len 0 n)) ++ map (new_number A kept) (cond b (n ∷ []) [])
    step true = ap (λ l. l ++ new_number A kept n ∷ []) e
    step false = e ∙ sym (append-nil (map (new_number A kept) (filter (λ q. has kept q && is_accepting A q) (range_with_len 0 n))))

-- a number that was read
pub number_read :
    (A : Automaton) (kept numbers : List ℕ)
    → AreNumbers A kept numbers
    → (at q x : ℕ)
    → at ≡ q
    → q ≤ A.states
    → x ≡ get_or numbers at x
    → x ≡ new_number A kept q
number_read A kept numbers are at q x is q_in read =
    let len = are.len in
    let at_in : at < length numbers = omega arith in
    read ∙ get_or_default numbers at x 0 at_in ∙ ap (λ k. get_or numbers k 0) is ∙ are.each q q_in
