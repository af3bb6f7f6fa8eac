-- Sets of states, and automata that are determined by their members.
use Rattle.std.proofs.Common.{◌≡◌, ℕ, ◌<◌, ◌⊎◌, ◌↔◌, inl, inr, Bool, true, false, List, [], ◌∷◌, length, get_or, set, replicate, filter, Contains, IsTrue, ◌==◌, refl, sym, ap, ◌∙◌, subst, arith}
use Rattle.std.specs.List.{list_any, range_with_len, AllPairs}
use Rattle.std.proofs.lemmas.Bool.{cases_lt, cases_eq}
use Rattle.std.proofs.lemmas.List.{get_or_default, get_or-replicate, get_or_past, length-replicate, get_or-set_other}
use Rattle.std.proofs.lemmas.List.Elements.{All-filter}
use Rattle.std.proofs.lemmas.List.Kept.{IsStrictlyIncreasing-filter, AllPairs-from_increasing}
use Rattle.std.proofs.lemmas.List.FromFn.{length-range_with_len, get_or-range_with_len}
use Rattle.std.proofs.Common.{get_or-set_same}
use Rattle.auto_core.specs.Automaton.{Automaton, IsAutomaton, Moves, IsAccepting, IsBefore, trans}
use Rattle.auto_core.specs.Members.{Members, IsSet, Gains}
use Rattle.auto_core.specs.declared.parts.Trans.{Trans}
use Rattle.auto_core.proofs.PathLemmas.{Contains-from_test, test_from_Contains}
use Rattle.auto_core.proofs.MemberLemmas.{filter_has, filter_from, range_has, range_rises, rises_from_pairs, same_members, same_bool}

-- the states whose flag is set
abbrev pub flagged : List Bool → ℕ → List ℕ
flagged flags n = filter (λ q. get_or flags q false) (range_with_len 0 n)

pub valid_set : (flags : List Bool) (n : ℕ) → IsSet (record { states = n; members = flagged flags n })
valid_set flags n = record {
  in_range = All-filter (λ q. get_or flags q false) (λ q. q < n) (range_with_len 0 n) (λ k d lt.
      let len = length-range_with_len 0 n in
      let k_in : k < n = omega arith in
      let at = get_or-range_with_len 0 n k d k_in in
      omega arith);
  in_order = IsStrictlyIncreasing-filter (λ q. get_or flags q false) (range_with_len 0 n) (range_rises n);
}

-- a state is a member just where its flag is set
pub flag_tells : (flags : List Bool) (n q : ℕ) → q < n → IsTrue (get_or flags q false) ↔ Contains (flagged flags n) q
flag_tells flags n q q_in = (
  λ h. filter_has (λ q. get_or flags q false) (range_with_len 0 n) q (range_has n q q_in) h,
  λ h. (filter_from (λ q. get_or flags q false) (range_with_len 0 n) q h).1,
)

-- the test for a member
pub flag_is : (flags : List Bool) (n q : ℕ) → q < n → get_or flags q false ≡ list_any (λ x. x == q) (flagged flags n)
flag_is flags n q q_in = same_bool (get_or flags q false) (list_any (λ x. x == q) (flagged flags n))
    (λ h. test_from_Contains (flagged flags n) q ((flag_tells flags n q q_in).0 h))
    (λ h. (flag_tells flags n q q_in).1 (Contains-from_test (flagged flags n) q h))

-- a flag more is a member more
pub flag_gained : (flags : List Bool) (n q : ℕ) → length flags ≡ n → q < n → Gains (record { states = n; members = flagged flags n }) (record { states = n; members = flagged (set flags q true) n }) q
flag_gained flags n q len q_in = record { states = refl; members = λ r. (to r, from r) }
  where
    q_near : q < length flags
    q_near = omega arith

    to : (r : ℕ) → Contains (flagged (set flags q true) n) r → Contains (flagged flags n) r ⊎ (r ≡ q)
    to r h = elim (cases_eq r q) [
      | inl e ↦ inr e
      | inr apart ↦
          let (there, is) = filter_from (λ q'. get_or (set flags q true) q' false) (range_with_len 0 n) r h in
          inl (filter_has (λ q'. get_or flags q' false) (range_with_len 0 n) r there (sym (get_or-set_other flags q r true false apart) ∙ is))
    ]

    from : (r : ℕ) → Contains (flagged flags n) r ⊎ (r ≡ q) → Contains (flagged (set flags q true) n) r
    from r h = elim (cases_eq r q) [
      | inl e ↦ subst (λ s. Contains (flagged (set flags q true) n) s) (sym e) (filter_has (λ q'. get_or (set flags q true) q' false) (range_with_len 0 n) q (range_has n q q_in) (get_or-set_same flags q true false q_near))
      | inr apart ↦ elim h [
        | inl was ↦
            let (there, is) = filter_from (λ q'. get_or flags q' false) (range_with_len 0 n) r was in
            filter_has (λ q'. get_or (set flags q true) q' false) (range_with_len 0 n) r there (get_or-set_other flags q r true false apart ∙ is)
        | inr e ↦ absurd (apart e)
      ]
    ]

-- no flag is set: there is no member
none_passes : (test : ℕ → Bool) → ((q : ℕ) → test q ≡ false) → (xs : List ℕ) → filter test xs ≡ []
none_passes test none [] = refl
none_passes test none (x ∷ xs) = rw (none x) (none_passes test none xs)

no_flag : (m q : ℕ) → get_or (replicate m false) q false ≡ false
no_flag m q = elim (cases_lt q m) [
  | inl near ↦ get_or-replicate m q false false near
  | inr far ↦ get_or_past (replicate m false) q false (rw (length-replicate {A = Bool} m false) far)
]

pub no_members : (flags : List Bool) (m n : ℕ) → flags ≡ replicate m false → flagged flags n ≡ []
no_members flags m n is = ap (λ f. flagged f n) is ∙ none_passes (λ q. get_or (replicate m false) q false) (no_flag m) (range_with_len 0 n)

pub empty_set : (flags : List Bool) (m n : ℕ) → flags ≡ replicate m false → (let S : Members = record { states = n; members = flagged flags n } in S ≡ record { states = n; members = [] })
empty_set flags m n is = ap (λ ms. let S : Members = record { states = n; members = ms } in S) (no_members flags m n is)

-- ---- automata

before_and_after : (t u : Trans) → IsBefore t u → IsBefore u t → ⊥
before_and_after t u h k = both t.source t.label t.target u.source u.label u.target h k
  where
    both : (a b c x y z : ℕ) → IsBefore (trans a b c) (trans x y z) → IsBefore (trans x y z) (trans a b c) → ⊥
    both a b c x y z h k = omega arith

pub transitions_rise : (A : Automaton) → IsAutomaton A → AllPairs IsBefore A.transitions
transitions_rise A valid i j d lt j_in =
    let i_in : i < length A.transitions = omega arith in
    subst (λ t. IsBefore t (get_or A.transitions j d)) (get_or_default A.transitions i (trans 0 0 0) d i_in)
    (subst (λ t. IsBefore (get_or A.transitions i (trans 0 0 0)) t) (get_or_default A.transitions j (trans 0 0 0) d j_in) (valid.in_order i j lt j_in))

same_record : (s l i : ℕ) (ts us : List Trans) (ps qs : List ℕ) (s' l' i' : ℕ) → s ≡ s' → l ≡ l' → i ≡ i' → ts ≡ us → ps ≡ qs →
    (let A : Automaton = record { states = s; labels = l; initial = i; transitions = ts; accepting = ps } in
    let B : Automaton = record { states = s'; labels = l'; initial = i'; transitions = us; accepting = qs } in A ≡ B)
same_record s l i ts us ps qs s' l' i' a b c d e = λ k. record { states = a k; labels = b k; initial = c k; transitions = d k; accepting = e k }

-- two valid automata with the same numbers, moves and accepting states are one
pub same_automaton :
    (A B : Automaton)
    → IsAutomaton A
    → IsAutomaton B
    → A.states ≡ B.states
    → A.labels ≡ B.labels
    → A.initial ≡ B.initial
    → ((p a q : ℕ) → Moves A p a q ↔ Moves B p a q)
    → ((q : ℕ) → IsAccepting A q ↔ IsAccepting B q)
    → A ≡ B
same_automaton A B valid other states labels initial moves accepting =
    same_record A.states A.labels A.initial A.transitions B.transitions A.accepting B.accepting B.states B.labels B.initial states labels initial
    (same_members IsBefore before_and_after A.transitions B.transitions
    (rises_from_pairs IsBefore A.transitions (transitions_rise A valid)) (rises_from_pairs IsBefore B.transitions (transitions_rise B other))
    (λ t h. (moves t.source t.label t.target).0 h) (λ t h. (moves t.source t.label t.target).1 h))
    (same_members (λ x y. x < y) (λ x y h k. omega arith) A.accepting B.accepting
    (rises_from_pairs (λ x y. x < y) A.accepting (AllPairs-from_increasing A.accepting valid.accepting_in_order))
    (rises_from_pairs (λ x y. x < y) B.accepting (AllPairs-from_increasing B.accepting other.accepting_in_order))
    (λ q h. (accepting q).0 h) (λ q h. (accepting q).1 h))
