-- The tables of an automaton against its transitions.
use Rattle.std.proofs.Common.{◌≡◌, ℕ, ◌+◌, ◌-◌, ◌<◌, ◌≤◌, ◌⊎◌, inl, inr, List, [], ◌∷◌, ◌++◌, length, map, slice_index, All, Contains, sym, refl, ap, ◌∙◌, arith, add_assoc, get_or, false, take, drop, length-take, length-drop, get_or-take, get_or-drop}
use Rattle.std.specs.List.Sorted.{IsNonDecreasing, IsPermutation, IsSortedBy}
use Rattle.std.specs.Ordering.{is_lt, nat_cmp, ordering_then}
use Rattle.std.proofs.lemmas.Bool.Decides.{nat_tests}
use Rattle.std.proofs.lemmas.List.Sorted.{All-permutation, Contains-permutation, length_permutation}
use Rattle.auto_core.specs.contracts.tables.ArrivalOrd.TheImpl.{cmp-value}
use Rattle.std.proofs.lemmas.Bool.{cases_eq, cases_lt}
use Rattle.std.proofs.lemmas.List.{get_or-map, get_or_default, length-map, get_or_push, get_or_append_left}
use Rattle.auto_core.specs.Automaton.{Automaton, IsBefore, IsAscending, IsOutgoing, IsIncoming, HasRepeat, trans}
use Rattle.auto_core.specs.Build.{sources_of, targets_at, target_of, AreStarts, IsStart, AreArrivals}
use Rattle.auto_core.specs.Arrivals.{AreNumbered}
use Rattle.auto_core.specs.declared.parts.Trans.{Trans}
use Rattle.auto_core.specs.declared.tables.Arrival.{Arrival}
use Rattle.auto_core.proofs.Order.{repeat_back, ascends}

source_at : (ts : List Trans) (k d : ℕ) → k < length ts → get_or (sources_of ts) k d ≡ (get_or ts k (trans 0 0 0)).source
source_at ts k d k_in = get_or-map (λ t. t.source) ts k (trans 0 0 0) d k_in

target_at : (ts : List Trans) (ns : List ℕ) (k d : ℕ) → k < length ns → get_or (targets_at ts ns) k d ≡ target_of ts (get_or ns k 0)
target_at ts ns k d k_in = get_or-map (target_of ts) ns k 0 d k_in

upto_source : (t u : Trans) → IsBefore t u → t.source ≤ u.source
upto_source t u b = omega arith

pub sources_rise : (ts : List Trans) → IsAscending ts → IsNonDecreasing (sources_of ts)
sources_rise ts up i j d i_upto j_in =
    let len = length-map ts (λ (t : Trans). t.source) in
    elim (cases_eq i j) [
      | inl e ↦ omega (arith, ap (λ k. get_or (sources_of ts) k d) e)
      | inr n ↦
          omega (
            arith,
            source_at ts i d (omega arith),
            source_at ts j d (omega arith),
            upto_source (get_or ts i (trans 0 0 0)) (get_or ts j (trans 0 0 0)) (up i j (omega arith) (omega arith)),
          )
    ]

pub targets_rise : (ts : List Trans) (ns : List ℕ) → AreArrivals ts ns → IsNonDecreasing (targets_at ts ns)
targets_rise ts ns a i j d i_upto j_in =
    let len = length-map ns (target_of ts) in
    elim (cases_eq i j) [
      | inl e ↦ omega (arith, ap (λ k. get_or (targets_at ts ns) k d) e)
      | inr n ↦
          omega (arith, target_at ts ns i d (omega arith), target_at ts ns j d (omega arith), a.in_order i j (omega arith) (omega arith))
    ]

-- the range of a state's transitions, from the table of starts
pub outgoing_from_starts :
    (A : Automaton) (starts : List ℕ) (p : ℕ)
    → AreStarts (sources_of A.transitions) A.states starts
    → p < A.states
    → IsOutgoing A p (slice_index starts p) (slice_index starts (p + 1))
outgoing_from_starts A starts p s p_in =
    let ts = A.transitions in
    let len = length-map ts (λ (t : Trans). t.source) in
    let b = s.each p (omega arith) in
    let e = s.each (p + 1) (omega arith) in
    let b_in = b.within in
    let e_in = e.within in
    record {
      is_range = elim (cases_lt (slice_index starts (p + 1)) (slice_index starts p)) [
        | inl h ↦ absurd (omega (arith, b.below (slice_index starts (p + 1)) h, e.above (slice_index starts (p + 1)) (omega arith) (omega arith)))
        | inr h ↦ h
      ];
      within = omega arith;
      before = λ t t_before. omega (arith, source_at ts t 0 (omega arith), b.below t t_before);
      inside = λ t t_from t_before.
          omega (arith, source_at ts t 0 (omega arith), b.above t t_from (omega arith), e.below t t_before);
      after = λ t t_from t_in. omega (arith, source_at ts t 0 t_in, e.above t t_from (omega arith));
    }

segment_at :
    (ns : List ℕ) (b m k d : ℕ) → b + m ≤ length ns → k < m → get_or (take m (drop b ns)) k d ≡ get_or ns (b + k) d
segment_at ns b m k d in_list k_in = get_or-take m (drop b ns) k d k_in ∙ get_or-drop b ns k d

segment_length : (ns : List ℕ) (b m : ℕ) → b + m ≤ length ns → length (take m (drop b ns)) ≡ m
segment_length ns b m in_list = omega (arith, length-take m (drop b ns), length-drop b ns)

module _ (A : Automaton) (ns starts : List ℕ) (q : ℕ)
    (a : AreArrivals A.transitions ns)
    (s : AreStarts (targets_at A.transitions ns) A.states starts)
    (q_in : q < A.states) where
  first : ℕ
  first = slice_index starts q

  last : ℕ
  last = slice_index starts (q + 1)

  last_in : last ≤ length ns
  unfolding last
  last_in = omega (arith, (s.each (q + 1) (omega arith)).within, length-map ns (target_of A.transitions))

  first_upto_last : first ≤ last
  unfolding first last
  first_upto_last =
      let b = s.each q (omega arith) in
      let e = s.each (q + 1) (omega arith) in
      let b_in = b.within in
      elim (cases_lt (slice_index starts (q + 1)) (slice_index starts q)) [
        | inl h ↦ absurd (omega (arith, b.below (slice_index starts (q + 1)) h, e.above (slice_index starts (q + 1)) (omega arith) (omega arith)))
        | inr h ↦ h
      ]

  target_here : (k : ℕ) → first ≤ k → k < last → target_of A.transitions (get_or ns k 0) ≡ q
  unfolding first last
  target_here k from below =
      let k_in : k < length ns = omega (arith, last_in) in
      let len = length-map ns (target_of A.transitions) in
      omega (
        arith,
        target_at A.transitions ns k 0 k_in,
        (s.each q (omega arith)).above k from (omega arith),
        (s.each (q + 1) (omega arith)).below k below,
      )

  from_first : (k : ℕ) → k < length ns → target_of A.transitions (get_or ns k 0) ≡ q → first ≤ k
  unfolding first
  from_first k k_in is_q =
      elim (cases_lt k (slice_index starts q)) [
        | inl h ↦ absurd (omega (arith, target_at A.transitions ns k 0 k_in, (s.each q (omega arith)).below k h))
        | inr h ↦ h
      ]

  below_last : (k : ℕ) → k < length ns → target_of A.transitions (get_or ns k 0) ≡ q → k < last
  unfolding last
  below_last k k_in is_q =
      let len = length-map ns (target_of A.transitions) in
      elim (cases_lt k (slice_index starts (q + 1))) [
        | inl h ↦ h
        | inr h ↦
            absurd (omega (arith, target_at A.transitions ns k 0 k_in, (s.each (q + 1) (omega arith)).above k h (omega arith)))
      ]

  segment : List ℕ
  segment = take (last - first) (drop first ns)

  segment_len : length segment ≡ last - first
  unfolding segment
  segment_len = segment_length ns first (last - first) (omega (arith, first_upto_last, last_in))

  segment_item : (k d : ℕ) → k < last - first → get_or segment k d ≡ get_or ns (first + k) d
  unfolding segment
  segment_item k d k_in = segment_at ns first (last - first) k d (omega (arith, first_upto_last, last_in)) k_in

  is_incoming : IsIncoming A q segment
  is_incoming =
      record {
        ascending = λ k k_in.
            let in_first : k < last - first = omega (arith, segment_len) in
            let in_next : k + 1 < last - first = omega (arith, segment_len) in
            omega (
              arith,
              segment_item k 0 in_first,
              segment_item (k + 1) 0 in_next,
              ap (λ j. get_or ns j 0) (add_assoc first k 1),
              target_here (first + k) (omega arith) (omega arith),
              target_here (first + k + 1) (omega arith) (omega arith),
              a.in_order (first + k) (first + k + 1) (omega arith) (omega (arith, last_in)),
            );
        each = λ k d k_in.
            let in_here : k < last - first = omega (arith, segment_len) in
            let in_all : first + k < length ns = omega (arith, last_in) in
            let same = segment_item k d in_here ∙ get_or_default ns (first + k) d 0 in_all in (
              rw same (a.each (first + k) 0 in_all),
              rw same (target_here (first + k) (omega arith) (omega arith)),
            );
        all = λ t t_in is_q.
            let found = a.all t t_in in
            let at : get_or ns found.0 0 ≡ t = get_or_default ns found.0 0 t found.1 ∙ found.2 in
            let is_target : target_of A.transitions (get_or ns found.0 0) ≡ q = rw at is_q in
            let from = from_first found.0 found.1 is_target in
            let below = below_last found.0 found.1 is_target in
            let places : first + (found.0 - first) ≡ found.0 = omega arith in (
              found.0 - first,
              omega (arith, segment_len),
              segment_item (found.0 - first) t (omega arith) ∙ ap (λ k. get_or ns k t) places ∙ found.2,
            );
      }

-- the numbers of a state's incoming transitions, from the tables
pub incoming_from_starts :
    (A : Automaton) (ns starts : List ℕ) (q : ℕ)
    → AreArrivals A.transitions ns
    → AreStarts (targets_at A.transitions ns) A.states starts
    → q < A.states
    → (slice_index starts q ≤ slice_index starts (q + 1))
    × (slice_index starts (q + 1) ≤ length ns)
    × IsIncoming A q (take (slice_index starts (q + 1) - slice_index starts q) (drop (slice_index starts q) ns))
unfolding first last segment
incoming_from_starts A ns starts q a s q_in =
    (first_upto_last A ns starts q a s q_in, last_in A ns starts q a s q_in, is_incoming A ns starts q a s q_in)

-- one arrival stands before another, or is it
pub later_arrival :
    (a b : Arrival)
    → is_lt (cmp-value.it b a) ≡ false
    → (a.target < b.target) ⊎ ((a.target ≡ b.target) × (a.number < b.number)) ⊎ ((a.target ≡ b.target) × (a.number ≡ b.number))
later_arrival a b h = pairs a.target a.number b.target b.number h
  where
    pairs :
        (a b x y : ℕ)
        → is_lt (ordering_then (nat_cmp x a) (nat_cmp y b)) ≡ false
        → (a < x) ⊎ ((a ≡ x) × (b < y)) ⊎ ((a ≡ x) × (b ≡ y))
    pairs a b x y h = grind (arith, nat_tests)

arrival : ℕ → ℕ → Arrival
arrival t n = record { target = t; number = n }

same_arrival : (a b x y : ℕ) → a ≡ x → b ≡ y → arrival a b ≡ arrival x y
same_arrival a b x y p q = cc

IsNumbered : List Trans → Arrival → Type 0
IsNumbered ts a = (a.target ≡ target_of ts a.number) × (a.number < length ts)

no_repeat : (ts : List Trans) (given : List Arrival) → AreNumbered ts given → HasRepeat given → ⊥
no_repeat ts given n (i, j, apart, i_in, j_in, same) =
    let d = arrival 0 0 in
    let len = n.len in
    let at_i = n.each i d (omega arith) in
    let at_j = n.each j d (omega arith) in
    apart (ap (λ (a : Arrival). a.number) (sym at_i ∙ same d ∙ at_j))

order_of :
    (s t x y u v : ℕ)
    → s ≡ u
    → t ≡ v
    → IsBefore (trans s x 0) (trans t y 0)
    → (u < v) ⊎ ((u ≡ v) × (x < y))
order_of s t x y u v p q before = grind arith

module _ (ts : List Trans) (given sorted : List Arrival)
    (n : AreNumbered ts given)
    (p : IsPermutation given sorted)
    (up : IsSortedBy (λ a b. is_lt (cmp-value.it a b)) sorted) where
  nothing : Arrival
  nothing = arrival 0 0

  sorted_len : length sorted ≡ length ts
  sorted_len = length_permutation given sorted p ∙ n.len

  all_numbered : All (IsNumbered ts) sorted
  unfolding IsNumbered
  all_numbered =
      All-permutation (IsNumbered ts) given sorted p (λ k d k_in.
      let len = n.len in
      let k_in' : k < length ts = omega arith in
      rw (n.each k d k_in') (refl, k_in'))

  number_at : (k d : ℕ) → k < length sorted → get_or (map (λ (a : Arrival). a.number) sorted) k d ≡ (get_or sorted k nothing).number
  number_at k d k_in = get_or-map (λ (a : Arrival). a.number) sorted k nothing d k_in

  arrival_at : (t : ℕ) → t < length ts → Contains (map (λ (a : Arrival). a.number) sorted) t
  unfolding arrival
  arrival_at t t_in =
      let here = arrival (target_of ts t) t in
      let in_given : t < length given = omega (arith, n.len) in
      let found = Contains-permutation given sorted here p (t, in_given, n.each t here t_in) in
      let len = length-map sorted (λ (a : Arrival). a.number) in (
        found.0,
        omega (arith, found.1),
        get_or-map (λ (a : Arrival). a.number) sorted found.0 here t found.1 ∙ ap (λ (a : Arrival). a.number) found.2,
      )

  pair_of : Arrival → Trans
  pair_of a = trans a.target a.number 0

  pair_at : (k : ℕ) → k < length sorted → get_or (map pair_of sorted) k (trans 0 0 0) ≡ pair_of (get_or sorted k nothing)
  pair_at k k_in = get_or-map pair_of sorted k nothing (trans 0 0 0) k_in

  next_later : (k : ℕ) → k + 1 < length sorted → IsBefore (pair_of (get_or sorted k nothing)) (pair_of (get_or sorted (k + 1) nothing))
  unfolding pair_of arrival
  next_later k k_in =
      let a = get_or sorted k nothing in
      let b = get_or sorted (k + 1) nothing in
      elim (later_arrival a b (up k nothing (omega arith) k_in)) [
        | inl h ↦ inl h
        | inr h ↦
            elim h [
              | inl q ↦ inr (inl q)
              | inr q ↦
                  let same : a ≡ b = same_arrival a.target a.number b.target b.number q.0 q.1 in
                  let here : k < length sorted = omega arith in
                  let repeat : HasRepeat sorted = (
                    k,
                    k + 1,
                    λ e. omega arith,
                    here,
                    k_in,
                    λ d. get_or_default sorted k d nothing here ∙ same ∙ get_or_default sorted (k + 1) nothing d k_in,
                  ) in
                  absurd (no_repeat ts given n (repeat_back given sorted p repeat))
            ]
      ]

  pairs_ascend : IsAscending (map pair_of sorted)
  pairs_ascend =
      let len = length-map sorted pair_of in
      ascends (map pair_of sorted) (λ k k_in.
      let k_next : k + 1 < length sorted = omega arith in
      let k_here : k < length sorted = omega arith in
      rw (pair_at k k_here, pair_at (k + 1) k_next) (next_later k k_next))

  arrivals : AreArrivals ts (map (λ (a : Arrival). a.number) sorted)
  unfolding IsNumbered pair_of
  arrivals =
      let len = length-map sorted (λ (a : Arrival). a.number) in
      record {
        len = len ∙ sorted_len;
        each = λ k d k_in.
            let in_sorted : k < length sorted = omega arith in
            rw (number_at k d in_sorted) (all_numbered k nothing in_sorted).1;
        all = arrival_at;
        in_order = λ i j i_below j_in.
            let in_j : j < length sorted = omega arith in
            let in_i : i < length sorted = omega arith in
            let pairs_len = length-map sorted pair_of in
            let before = pairs_ascend i j i_below (omega arith) in
            let before' : IsBefore (pair_of (get_or sorted i nothing)) (pair_of (get_or sorted j nothing)) =
            rw (pair_at i in_i, pair_at j in_j) at before in
            let at_i = (all_numbered i nothing in_i).0 in
            let at_j = (all_numbered j nothing in_j).0 in
            rw (number_at i 0 in_i, number_at j 0 in_j) (order_of _ _ _ _ _ _ at_i at_j before');
      }

-- the numbers of the sorted arrivals
pub arrivals_from_sorted :
    (ts : List Trans) (given sorted : List Arrival)
    → AreNumbered ts given
    → IsPermutation given sorted
    → IsSortedBy (λ a b. is_lt (cmp-value.it a b)) sorted
    → AreArrivals ts (map (λ (a : Arrival). a.number) sorted)
arrivals_from_sorted = arrivals

-- one more start
pub starts_push :
    (keys starts new : List ℕ) (p s : ℕ)
    → length starts ≡ p
    → new ≡ starts ++ s ∷ []
    → ((q : ℕ) → q < p → IsStart keys q (slice_index starts q))
    → IsStart keys p s
    → (q : ℕ)
    → q < p + 1
    → IsStart keys q (slice_index new q)
starts_push keys starts new p s len is below here q q_in =
    elim (cases_eq q p) [
      | inl e ↦ rw (e, is, get_or_push starts s 0 p len) here
      | inr n ↦
          let q_below : q < p = omega arith in
          rw (is, get_or_append_left starts (s ∷ []) 0 q (omega arith)) (below q q_below)
    ]
