-- The union from its parts.
use Rattle.std.proofs.Common.{◌≡◌, ℕ, zero, suc, ◌+◌, ◌<◌, ◌≤◌, ◌⊎◌, ◌↔◌, inl, inr, Bool, true, false, cond, List, [], ◌∷◌, ◌++◌, length, map, filter, Contains, refl, sym, ap, ◌∙◌, subst, arith, add-zero, add-one, zero-add, append_assoc}
use Rattle.std.specs.List.{range_with_len}
use Rattle.std.proofs.lemmas.Bool.{false≢true, eq-eqb, eqb-true, or_cases, or_left, or_right}
use Rattle.std.proofs.lemmas.List.{get_or_default, map-append, append-nil}
use Rattle.std.proofs.lemmas.List.Elements.{All-contains, Contains-append_left, Contains-append_right, Contains-append_cases, filter-append}
use Rattle.std.proofs.lemmas.List.Sorted.{Contains-permutation, IsPermutation-sym, length_permutation}
use Rattle.auto_core.specs.declared.parts.Trans.{Trans}
use Rattle.auto_core.specs.declared.parts.Mode.{Mode}
use Rattle.auto_core.specs.declared.parts.Mode.TheVariants.{Buchi, Finite}
use Rattle.auto_core.specs.Automaton.{Automaton, IsAutomaton, Moves, IsAccepting, is_accepting, IsBefore, trans, trans_at}
use Rattle.auto_core.specs.Build.{IsBuilt}
use Rattle.auto_core.specs.Parts.{AreParts}
use Rattle.auto_core.proofs.RangeLemmas.{range_more}
use Rattle.auto_core.proofs.PathLemmas.{Contains-here, Contains-cons_cases, none_in_nil, accepting_from_test, test_from_accepting}
use Rattle.auto_core.proofs.MoveLemmas.{move_in_range}
use Rattle.auto_core.proofs.MemberLemmas.{Rises, rises_from_pairs, filter_has, filter_from, map_has, map_from, range_has, range_rises}
use Rattle.auto_ops.specs.Limits.{IsSmallResult, AreMoreThan}
use Rattle.auto_ops.specs.Union.{IsMoveOfOne, second_offset, UnionMoves, IsShiftedAccepting, AcceptsAtOnce, IsUnion}
use Rattle.auto_ops.specs.UnionParts.{shifted, copied, leaves, first_moves, transitions_of_one, union_transitions, accepting_of_one, accepts_at_once, start_if, union_accepting, IsSmallUnion}
use Rattle.auto_ops.proofs.SightLemmas.{Differ, apart_append, apart_map, apart_filter, apart_once, increasing_apart, all_from}

-- ---- transitions

pub same_parts : (t u : Trans) → t.source ≡ u.source → t.label ≡ u.label → t.target ≡ u.target → t ≡ u
same_parts t u p q r = λ i. trans (p i) (q i) (r i)

before_differs : (t u : Trans) → IsBefore t u → t ≡ u → ⊥
before_differs t u h e =
    let s : t.source ≡ u.source = ap (λ (x : Trans). x.source) e in
    let a : t.label ≡ u.label = ap (λ (x : Trans). x.label) e in
    let g : t.target ≡ u.target = ap (λ (x : Trans). x.target) e in
    omega arith

pub transitions_apart : (A : Automaton) → IsAutomaton A → Rises Differ A.transitions
transitions_apart A valid = rises_from_pairs Differ A.transitions (λ i j d lt j_in e.
    let i_in : i < length A.transitions = omega arith in
    before_differs (trans_at A i) (trans_at A j) (valid.in_order i j lt j_in)
    (get_or_default A.transitions i (trans 0 0 0) d i_in ∙ e ∙ get_or_default A.transitions j d (trans 0 0 0) j_in))

module _ (A : Automaton) (offset : ℕ) where
  pub one_has : (p a q : ℕ) → IsMoveOfOne A offset p a q → Contains (transitions_of_one A offset) (trans p a q)
  one_has p a q (r, s, m, inl e, is) =
      let there = Contains-append_left (map (shifted offset) A.transitions) (map (copied offset) (first_moves A)) (trans (offset + r) a (offset + s)) (map_has (shifted offset) A.transitions (trans r a s) m) in
      subst (λ x. Contains (transitions_of_one A offset) (trans x a q)) (sym e) (subst (λ x. Contains (transitions_of_one A offset) (trans (offset + r) a x)) (sym is) there)
  one_has p a q (r, s, m, inr z, is) =
      let first = filter_has (leaves A.initial) A.transitions (trans r a s) m (eq-eqb r A.initial z.1) in
      let there = Contains-append_right (map (shifted offset) A.transitions) (map (copied offset) (first_moves A)) (trans 0 a (offset + s)) (map_has (copied offset) (first_moves A) (trans r a s) first) in
      subst (λ x. Contains (transitions_of_one A offset) (trans x a q)) (sym z.0) (subst (λ x. Contains (transitions_of_one A offset) (trans 0 a x)) (sym is) there)

  with_label : (u : Trans) (p a q : ℕ) → u.label ≡ a → Contains A.transitions u → Moves A u.source a u.target
  with_label u p a q e h = subst (λ x. Moves A u.source x u.target) e h

  pub one_from : (p a q : ℕ) → Contains (transitions_of_one A offset) (trans p a q) → IsMoveOfOne A offset p a q
  one_from p a q h = elim (Contains-append_cases (map (shifted offset) A.transitions) (map (copied offset) (first_moves A)) (trans p a q) h) [
    | inl near ↦
        let (u, there, is) = map_from (shifted offset) A.transitions (trans p a q) near in
        (u.source, u.target, with_label u p a q (ap (λ (t : Trans). t.label) is) there, inl (sym (ap (λ (t : Trans). t.source) is)), sym (ap (λ (t : Trans). t.target) is))
    | inr far ↦
        let (u, first, is) = map_from (copied offset) (first_moves A) (trans p a q) far in
        let (there, test) = filter_from (leaves A.initial) A.transitions u first in
        (u.source, u.target, with_label u p a q (ap (λ (t : Trans). t.label) is) there, inr (sym (ap (λ (t : Trans). t.source) is), eqb-true u.source A.initial test), sym (ap (λ (t : Trans). t.target) is))
  ]

  pub one_apart : 1 ≤ offset → IsAutomaton A → Rises Differ (transitions_of_one A offset)
  one_apart some valid =
      let apart = transitions_apart A valid in
      apart_append (map (shifted offset) A.transitions) (map (copied offset) (first_moves A))
      (apart_map (shifted offset) A.transitions (λ t u t_in u_in e.
      let s : offset + t.source ≡ offset + u.source = ap (λ (x : Trans). x.source) e in
      let g : offset + t.target ≡ offset + u.target = ap (λ (x : Trans). x.target) e in
      same_parts t u (omega arith) (ap (λ (x : Trans). x.label) e) (omega arith)) apart)
      (apart_map (copied offset) (first_moves A) (λ t u t_in u_in e.
      let g : offset + t.target ≡ offset + u.target = ap (λ (x : Trans). x.target) e in
      let s = eqb-true t.source A.initial (filter_from (leaves A.initial) A.transitions t t_in).1 in
      let r = eqb-true u.source A.initial (filter_from (leaves A.initial) A.transitions u u_in).1 in
      same_parts t u (s ∙ sym r) (ap (λ (x : Trans). x.label) e) (omega arith)) (apart_filter (leaves A.initial) A.transitions apart))
      (λ t near far.
      let (u, _, is) = map_from (shifted offset) A.transitions t near in
      let (x, _, is') = map_from (copied offset) (first_moves A) t far in
      let s : offset + u.source ≡ t.source = ap (λ (y : Trans). y.source) is in
      let z : 0 ≡ t.source = ap (λ (y : Trans). y.source) is' in
      omega arith)

  pub accepting_has : (n p : ℕ) → ((r : ℕ) × (r < n) × IsAccepting A r × (p ≡ offset + r)) → Contains (accepting_of_one A offset n) p
  accepting_has n p (r, r_in, acc, is) =
      let there = filter_has (is_accepting A) (range_with_len 0 n) r (range_has n r r_in) (test_from_accepting A r acc) in
      subst (Contains (accepting_of_one A offset n)) (sym is) (map_has (λ q. offset + q) (filter (is_accepting A) (range_with_len 0 n)) r there)

  pub accepting_from : (n p : ℕ) → Contains (accepting_of_one A offset n) p → IsShiftedAccepting A offset p
  accepting_from n p h =
      let (r, there, is) = map_from (λ q. offset + q) (filter (is_accepting A) (range_with_len 0 n)) p h in
      (r, accepting_from_test A r (filter_from (is_accepting A) (range_with_len 0 n) r there).1, sym is)

  pub accepting_apart : (n : ℕ) → Rises Differ (accepting_of_one A offset n)
  accepting_apart n = apart_map (λ q. offset + q) (filter (is_accepting A) (range_with_len 0 n)) (λ x y x_in y_in e. omega arith)
      (apart_filter (is_accepting A) (range_with_len 0 n) (increasing_apart (range_with_len 0 n) (range_rises n)))

pub accepting_below : (A : Automaton) → IsAutomaton A → (q : ℕ) → IsAccepting A q → q < A.states
accepting_below A valid q h = All-contains (λ x. x < A.states) A.accepting q valid.accepting_in_range h

-- ---- state 0

at_once : (mode : Mode) (A B : Automaton) → (accepts_at_once mode A B ≡ true) ↔ AcceptsAtOnce mode A B
at_once Buchi A B = (λ h. absurd (false≢true h), λ h. absurd (never h.0))
  where
    tag : Mode → Bool
    tag Buchi = false
    tag Finite = true

    never : Buchi ≡ Finite → ⊥
    never e = false≢true (ap tag e)
at_once Finite A B = (
  λ h. (
    refl,
    elim (or_cases (is_accepting A A.initial) (is_accepting B B.initial) h) [
      | inl one ↦ inl (accepting_from_test A A.initial one)
      | inr two ↦ inr (accepting_from_test B B.initial two)
    ],
  ),
  λ h. elim h.1 [
    | inl one ↦ or_left (is_accepting A A.initial) (is_accepting B B.initial) (test_from_accepting A A.initial one)
    | inr two ↦ or_right (is_accepting A A.initial) (is_accepting B B.initial) (test_from_accepting B B.initial two)
  ],
)

start_has : (b : Bool) (p : ℕ) → p ≡ 0 → b ≡ true → Contains (start_if b) p
start_has true p e h = Contains-here 0 p [] (sym e)
start_has false p e h = absurd (false≢true h)

start_from : (b : Bool) (p : ℕ) → Contains (start_if b) p → (p ≡ 0) × (b ≡ true)
start_from true p h = elim (Contains-cons_cases 0 p [] h) [ inl e ↦ (sym e, refl) | inr none ↦ absurd (none_in_nil p none) ]
start_from false p h = absurd (none_in_nil p h)

start_apart : (b : Bool) → Rises Differ (start_if b)
start_apart true = (λ y h. absurd (none_in_nil y h), tt)
start_apart false = tt

-- ---- both

module _ (A B : Automaton) (a_valid : IsAutomaton A) (b_valid : IsAutomaton B) where
  pub union_has : (p a q : ℕ) → UnionMoves A B p a q → Contains (union_transitions A B) (trans p a q)
  union_has p a q (inl one) = Contains-append_left (transitions_of_one A 1) (transitions_of_one B (second_offset A)) (trans p a q) (one_has A 1 p a q one)
  union_has p a q (inr two) = Contains-append_right (transitions_of_one A 1) (transitions_of_one B (second_offset A)) (trans p a q) (one_has B (second_offset A) p a q two)

  pub union_from : (p a q : ℕ) → Contains (union_transitions A B) (trans p a q) → UnionMoves A B p a q
  union_from p a q h = elim (Contains-append_cases (transitions_of_one A 1) (transitions_of_one B (second_offset A)) (trans p a q) h) [
    | inl near ↦ inl (one_from A 1 p a q near)
    | inr far ↦ inr (one_from B (second_offset A) p a q far)
  ]

  union_apart : Rises Differ (union_transitions A B)
  union_apart = apart_append (transitions_of_one A 1) (transitions_of_one B (second_offset A)) (one_apart A 1 (omega arith) a_valid) (one_apart B (second_offset A) (omega arith) b_valid)
      (λ t near far.
      let (r, s, m, from, is) = one_from A 1 t.source t.label t.target near in
      let (r', s', m', from', is') = one_from B (second_offset A) t.source t.label t.target far in
      let s_in = (move_in_range A a_valid r t.label s m).1 in
      omega arith)

  pub union_many : (n : ℕ) → n < length (union_transitions A B) → AreMoreThan n (λ (t : Trans). UnionMoves A B t.source t.label t.target)
  union_many n many = record {
    things = union_transitions A B;
    different = apart_once (union_transitions A B) union_apart;
    each = all_from (λ (t : Trans). UnionMoves A B t.source t.label t.target) (union_transitions A B) (λ t h. union_from t.source t.label t.target h);
    many = many;
  }

  pub in_states : (p a q : ℕ) → UnionMoves A B p a q → (p < second_offset A + B.states) × (q < second_offset A + B.states)
  in_states p a q (inl (r, s, m, from, is)) =
      let (r_in, s_in, _) = move_in_range A a_valid r a s m in
      (elim from [ inl e ↦ omega arith | inr z ↦ let e = z.0 in omega arith ], omega arith)
  in_states p a q (inr (r, s, m, from, is)) =
      let (r_in, s_in, _) = move_in_range B b_valid r a s m in
      (elim from [ inl e ↦ omega arith | inr z ↦ let e = z.0 in omega arith ], omega arith)

  pub in_labels : A.labels ≡ B.labels → (p a q : ℕ) → UnionMoves A B p a q → a < A.labels
  in_labels same p a q (inl (r, s, m, from, is)) = (move_in_range A a_valid r a s m).2
  in_labels same p a q (inr (r, s, m, from, is)) = let lt = (move_in_range B b_valid r a s m).2 in omega arith

  module _ (mode : Mode) where
    pub accepted_has : (p : ℕ) → (IsShiftedAccepting A 1 p ⊎ IsShiftedAccepting B (second_offset A) p ⊎ ((p ≡ 0) × AcceptsAtOnce mode A B)) → Contains (union_accepting mode A B) p
    accepted_has p (inl (r, acc, is)) =
        Contains-append_left (start_if (accepts_at_once mode A B) ++ accepting_of_one A 1 A.states) (accepting_of_one B (second_offset A) B.states) p
        (Contains-append_right (start_if (accepts_at_once mode A B)) (accepting_of_one A 1 A.states) p (accepting_has A 1 A.states p (r, accepting_below A a_valid r acc, acc, is)))
    accepted_has p (inr (inl (r, acc, is))) =
        Contains-append_right (start_if (accepts_at_once mode A B) ++ accepting_of_one A 1 A.states) (accepting_of_one B (second_offset A) B.states) p
        (accepting_has B (second_offset A) B.states p (r, accepting_below B b_valid r acc, acc, is))
    accepted_has p (inr (inr (e, once))) =
        Contains-append_left (start_if (accepts_at_once mode A B) ++ accepting_of_one A 1 A.states) (accepting_of_one B (second_offset A) B.states) p
        (Contains-append_left (start_if (accepts_at_once mode A B)) (accepting_of_one A 1 A.states) p (start_has (accepts_at_once mode A B) p e ((at_once mode A B).1 once)))

    pub accepted_from : (p : ℕ) → Contains (union_accepting mode A B) p → (IsShiftedAccepting A 1 p ⊎ IsShiftedAccepting B (second_offset A) p ⊎ ((p ≡ 0) × AcceptsAtOnce mode A B))
    accepted_from p h = elim (Contains-append_cases (start_if (accepts_at_once mode A B) ++ accepting_of_one A 1 A.states) (accepting_of_one B (second_offset A) B.states) p h) [
      | inl front ↦ elim (Contains-append_cases (start_if (accepts_at_once mode A B)) (accepting_of_one A 1 A.states) p front) [
        | inl zero_there ↦ let (e, b) = start_from (accepts_at_once mode A B) p zero_there in inr (inr (e, (at_once mode A B).0 b))
        | inr one ↦ inl (accepting_from A 1 A.states p one)
      ]
      | inr two ↦ inr (inl (accepting_from B (second_offset A) B.states p two))
    ]

    accepted_apart : Rises Differ (union_accepting mode A B)
    accepted_apart = apart_append (start_if (accepts_at_once mode A B) ++ accepting_of_one A 1 A.states) (accepting_of_one B (second_offset A) B.states)
        (apart_append (start_if (accepts_at_once mode A B)) (accepting_of_one A 1 A.states) (start_apart (accepts_at_once mode A B)) (accepting_apart A 1 A.states)
        (λ p near far.
        let z = (start_from (accepts_at_once mode A B) p near).0 in
        let (r, acc, is) = accepting_from A 1 A.states p far in
        omega arith))
        (accepting_apart B (second_offset A) B.states)
        (λ p near far.
        let (r', acc', is') = accepting_from B (second_offset A) B.states p far in
        elim (Contains-append_cases (start_if (accepts_at_once mode A B)) (accepting_of_one A 1 A.states) p near) [
          | inl zero_there ↦ let z = (start_from (accepts_at_once mode A B) p zero_there).0 in omega arith
          | inr one ↦
              let (r, acc, is) = accepting_from A 1 A.states p one in
              let r_in = accepting_below A a_valid r acc in
              omega arith
        ])

    pub accepted_below : (p : ℕ) → (IsShiftedAccepting A 1 p ⊎ IsShiftedAccepting B (second_offset A) p ⊎ ((p ≡ 0) × AcceptsAtOnce mode A B)) → p < second_offset A + B.states
    accepted_below p (inl (r, acc, is)) = let r_in = accepting_below A a_valid r acc in omega arith
    accepted_below p (inr (inl (r, acc, is))) = let r_in = accepting_below B b_valid r acc in omega arith
    accepted_below p (inr (inr (e, once))) = omega arith

    pub union_parts : A.labels ≡ B.labels → IsSmallUnion A B → AreParts (second_offset A + B.states) A.labels 0 (union_transitions A B) (union_accepting mode A B)
    union_parts same small = record {
      few = omega (arith, small.transitions);
      in_states = (
        omega arith,
        all_from (λ (t : Trans). (t.source < second_offset A + B.states) × (t.target < second_offset A + B.states)) (union_transitions A B)
            (λ t h. in_states t.source t.label t.target (union_from t.source t.label t.target h)),
        all_from (λ p. p < second_offset A + B.states) (union_accepting mode A B) (λ p h. accepted_below p (accepted_from p h)),
      );
      in_labels = all_from (λ (t : Trans). t.label < A.labels) (union_transitions A B) (λ t h. in_labels same t.source t.label t.target (union_from t.source t.label t.target h));
      no_transition_twice = apart_once (union_transitions A B) union_apart;
      no_state_twice = apart_once (union_accepting mode A B) accepted_apart;
    }

    pub union_built : (U : Automaton) → IsBuilt (second_offset A + B.states) A.labels 0 (union_transitions A B) (union_accepting mode A B) U → IsUnion mode A B U
    union_built U b = record {
      valid = b.valid;
      states = b.states_given;
      labels = b.labels_given;
      initial = b.initial_given;
      moves = λ p a q. (
        λ m. union_from p a q (Contains-permutation U.transitions (union_transitions A B) (trans p a q) (IsPermutation-sym (union_transitions A B) U.transitions b.transitions_given) m),
        λ m. Contains-permutation (union_transitions A B) U.transitions (trans p a q) b.transitions_given (union_has p a q m),
      );
      accepting = λ p. (
        λ h. accepted_from p (Contains-permutation U.accepting (union_accepting mode A B) p (IsPermutation-sym (union_accepting mode A B) U.accepting b.accepting_given) h),
        λ h. Contains-permutation (union_accepting mode A B) U.accepting p b.accepting_given (accepted_has p h),
      );
    }

    pub union_small : (U : Automaton) → IsSmallUnion A B → IsBuilt (second_offset A + B.states) A.labels 0 (union_transitions A B) (union_accepting mode A B) U → IsSmallResult U
    union_small U small b = record {
      states = omega (arith, b.states_given, small.states);
      transitions = omega (arith, length_permutation (union_transitions A B) U.transitions b.transitions_given, small.transitions);
      labels = omega (arith, b.labels_given, small.labels);
    }

-- ---- the loop over accepting states

-- one state more, if it is accepting
pub more_accepting : (A : Automaton) (offset n : ℕ) (front made new : List ℕ) (b : Bool)
    → b ≡ is_accepting A n
    → made ≡ front ++ accepting_of_one A offset n
    → new ≡ cond b (made ++ (offset + n) ∷ []) made
    → new ≡ front ++ accepting_of_one A offset (n + 1)
more_accepting A offset n front made new b is e more =
    let N : ℕ → ℕ = λ q. offset + q in
    let F = filter (is_accepting A) (range_with_len 0 n) in
    let whole : accepting_of_one A offset (n + 1) ≡ map N F ++ map N (cond (is_accepting A n) (n ∷ []) []) =
    ap (λ l. map N (filter (is_accepting A) l)) (ap (λ k. range_with_len 0 k) (add-one n) ∙ range_more 0 n ∙ ap (λ k. range_with_len 0 n ++ k ∷ []) (zero-add n))
    ∙ ap (λ l. map N l) (filter-append (is_accepting A) (range_with_len 0 n) (n ∷ []))
    ∙ map-append N F (cond (is_accepting A n) (n ∷ []) []) in
    more ∙ step b ∙ ap (λ c. front ++ (map N F ++ map N (cond c (n ∷ []) []))) is ∙ sym (ap (λ l. front ++ l) whole)
  where
    step : (b : Bool) → cond b (made ++ (offset + n) ∷ []) made ≡ front ++ (accepting_of_one A offset n ++ map (λ q. offset + q) (cond b (n ∷ []) []))
    step true = ap (λ l. l ++ (offset + n) ∷ []) e ∙ append_assoc front (accepting_of_one A offset n) ((offset + n) ∷ [])
    step false = e ∙ sym (ap (λ l. front ++ l) (append-nil (accepting_of_one A offset n)))
