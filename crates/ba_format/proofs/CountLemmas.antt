-- How much a written text brings.
use Rattle.std.proofs.Common.{◌≡◌, ℕ, ◌+◌, ◌<◌, ◌≤◌, Bool, true, false, eqb, List, [], ◌∷◌, ◌++◌, length, map, fold, get_or, All, Contains, refl, sym, ap, subst, ◌∙◌, arith, if◌then◌else◌}
use Rattle.std.specs.List.{list_any, flat_map, range_with_len, IsDistinct}
use Rattle.std.proofs.lemmas.Cmp.{nat_list_eq_equiv}
use Rattle.std.proofs.lemmas.Grind.{flat_map-append}
use Rattle.std.proofs.lemmas.List.{length-map}
use Rattle.std.proofs.lemmas.List.Elements.{All-nil, All-cons, All-head, All-tail, All-append, All-contains}
use Rattle.std.proofs.lemmas.List.FromFn.{length-map-range_with_len, get_or-map-range_with_len}
use Rattle.std.proofs.lemmas.Map.Keys.{IsDistinct-push}
use Rattle.std.proofs.lemmas.Map.Made.{length-le_from_is_member}
use Rattle.std.proofs.lemmas.Map.Views.{list_any-from_Contains}
use Rattle.indexmap.proofs.CallerLemmas.{Contains-list_any}
use Rattle.auto_core.specs.declared.parts.Trans.{Trans}
use Rattle.auto_core.specs.Automaton.{Automaton, IsAutomaton}
use Rattle.ba_format.specs.Sight.{same_text, noted, first_seen}
use Rattle.ba_format.specs.Grammar.{StateLine}
use Rattle.ba_format.specs.Faults.{states_in, labels_in, transitions_in, same_trans, names_of, labels_of, transitions_of}
use Rattle.ba_format.specs.Writing.{name_text, accepting_written}
use Rattle.ba_format.specs.Laws.{IsWritable, WrittenCounts, WrittenIsRead}
use Rattle.ba_format.proofs.SightLemmas.{same_text-equal}
use Rattle.ba_format.proofs.NamedLemmas.{All-seen, seen-most}
use Rattle.ba_format.proofs.WrittenLemmas.{transition_entry_of, written_entries, contents_of-written, written_reads}
use Rattle.ba_format.proofs.BackLemmas.{renumbered, transitions_listed}

-- ---- texts of the first numbers

none_distinct : IsDistinct same_text []
unfolding IsDistinct
none_distinct = tt

distinct_seen : (xs seen : List (List ℕ)) → IsDistinct same_text seen → IsDistinct same_text (fold (noted same_text) seen xs)
distinct_seen [] seen h = h
distinct_seen (x ∷ xs) seen h = distinct_seen xs (noted same_text seen x) (by (list_any (same_text x) seen) refl)
  where
    by : (b : Bool) → list_any (same_text x) seen ≡ b → IsDistinct same_text (if b then seen else seen ++ x ∷ [])
    by true e = h
    by false e = IsDistinct-push nat_list_eq_equiv seen x h e

-- The text is that of a number below n.
abbrev IsNumbered : (ℕ → List ℕ) → ℕ → List ℕ → Type 0
IsNumbered f n x = (k : ℕ) × (k < n) × (f k ≡ x)

numbered_contains : (f : ℕ → List ℕ) (n : ℕ) (x : List ℕ) → IsNumbered f n x → Contains (map f (range_with_len 0 n)) x
numbered_contains f n x (k, lt, e) = (k, omega (arith, length-map-range_with_len f 0 n), get_or-map-range_with_len f 0 n k k x lt (omega arith) ∙ e)

-- texts of numbers below n are n different ones at most
few_numbered : (f : ℕ → List ℕ) (n : ℕ) (xs : List (List ℕ)) → All (IsNumbered f n) xs → length (first_seen same_text xs) ≤ n
few_numbered f n xs h =
    let seen = first_seen same_text xs in
    let ys = map f (range_with_len 0 n) in
    let all : All (IsNumbered f n) seen = All-seen same_text (IsNumbered f n) [] xs (All-nil (IsNumbered f n)) h in
    let few : length seen ≤ length ys =
    length-le_from_is_member nat_list_eq_equiv seen ys (distinct_seen xs [] none_distinct) (λ q m.
    list_any-from_Contains nat_list_eq_equiv q ys (numbered_contains f n q (All-contains (IsNumbered f n) seen q all (Contains-list_any same_text same_text-equal seen q m)))) in
    omega (arith, few, length-map-range_with_len f 0 n)

-- ---- the lines' names and labels

transition_names : (n : ℕ) (labels : List (List ℕ)) (ts : List Trans) → All (λ t. (t.source < n) × (t.target < n)) ts
    → All (IsNumbered name_text n) (flat_map states_in (map (transition_entry_of labels) ts))
transition_names n labels [] h = All-nil (IsNumbered name_text n)
transition_names n labels (t ∷ ts) h =
    let range = All-head (λ t. (t.source < n) × (t.target < n)) t ts h in
    let later = flat_map states_in (map (transition_entry_of labels) ts) in
    All-cons (IsNumbered name_text n) (name_text t.source) (name_text t.target ∷ later) (t.source, range.0, refl)
    (All-cons (IsNumbered name_text n) (name_text t.target) later (t.target, range.1, refl)
    (transition_names n labels ts (All-tail (λ t. (t.source < n) × (t.target < n)) t ts h)))

state_names : (n : ℕ) (qs : List ℕ) → All (λ q. q < n) qs → All (IsNumbered name_text n) (flat_map states_in (map (λ q. StateLine (name_text q)) qs))
state_names n [] h = All-nil (IsNumbered name_text n)
state_names n (q ∷ qs) h =
    All-cons (IsNumbered name_text n) (name_text q) (flat_map states_in (map (λ q. StateLine (name_text q)) qs)) (q, All-head (λ q. q < n) q qs h, refl)
    (state_names n qs (All-tail (λ q. q < n) q qs h))

transition_labels : (n : ℕ) (labels : List (List ℕ)) (ts : List Trans) → All (λ t. t.label < n) ts
    → All (IsNumbered (λ a. get_or labels a []) n) (flat_map labels_in (map (transition_entry_of labels) ts))
transition_labels n labels [] h = All-nil (IsNumbered (λ a. get_or labels a []) n)
transition_labels n labels (t ∷ ts) h =
    All-cons (IsNumbered (λ a. get_or labels a []) n) (get_or labels t.label []) (flat_map labels_in (map (transition_entry_of labels) ts))
    (t.label, All-head (λ t. t.label < n) t ts h, refl)
    (transition_labels n labels ts (All-tail (λ t. t.label < n) t ts h))

state_labels : (P : List ℕ → Type 0) (qs : List ℕ) → All P (flat_map labels_in (map (λ q. StateLine (name_text q)) qs))
state_labels P [] = All-nil P
state_labels P (q ∷ qs) = state_labels P qs

-- ---- the counts

accepting_below : (A : Automaton) → IsAutomaton A → (b : Bool) → All (λ q. q < A.states + 1) (if b then A.states ∷ [] else A.accepting)
accepting_below A v true = All-cons (λ q. q < A.states + 1) A.states [] (omega arith) (All-nil (λ q. q < A.states + 1))
accepting_below A v false = λ k d lt. omega (arith, v.accepting_in_range k d lt)

module _ (A : Automaton) (labels : List (List ℕ)) (w : IsWritable A labels) where
  few_names : length (names_of (written_entries A labels)) ≤ A.states + 1
  few_names =
      let v = w.valid in
      let n = A.states + 1 in
      let transitions = map (transition_entry_of labels) A.transitions in
      let states = map (λ q. StateLine (name_text q)) (accepting_written A) in
      let later : All (IsNumbered name_text n) (flat_map states_in (transitions ++ states)) =
      subst (All (IsNumbered name_text n)) (sym (flat_map-append states_in transitions states))
      (All-append (IsNumbered name_text n) (flat_map states_in transitions) (flat_map states_in states)
      (transition_names n labels A.transitions (λ k d lt. let r = v.in_range k d lt in (omega (arith, r.0), omega (arith, r.1))))
      (state_names n (accepting_written A) (accepting_below A v (eqb (length A.accepting) 0)))) in
      few_numbered name_text n (name_text A.initial ∷ flat_map states_in (transitions ++ states))
      (All-cons (IsNumbered name_text n) (name_text A.initial) (flat_map states_in (transitions ++ states)) (A.initial, omega (arith, v.initial_is_state), refl) later)

  few_labels : length (labels_of (written_entries A labels)) ≤ A.labels
  few_labels =
      let P = IsNumbered (λ a. get_or labels a []) A.labels in
      let transitions = map (transition_entry_of labels) A.transitions in
      let states = map (λ q. StateLine (name_text q)) (accepting_written A) in
      few_numbered (λ a. get_or labels a []) A.labels (flat_map labels_in (transitions ++ states))
      (subst (All P) (sym (flat_map-append labels_in transitions states))
      (All-append P (flat_map labels_in transitions) (flat_map labels_in states)
      (transition_labels A.labels labels A.transitions (λ k d lt. (w.valid.in_range k d lt).2))
      (state_labels P (accepting_written A))))

  few_transitions : length (transitions_of (written_entries A labels)) ≤ length A.transitions
  few_transitions =
      let said = flat_map (transitions_in (names_of (written_entries A labels)) (labels_of (written_entries A labels))) (written_entries A labels) in
      omega (arith, seen-most same_trans [] said, ap length (transitions_listed A labels w), length-map A.transitions (renumbered A labels))

pub written_counts : WrittenCounts
written_counts A labels w =
    let same = sym (contents_of-written A labels w) in
    record {
      states = subst (λ es. length (names_of es) ≤ A.states + 1) same (few_names A labels w);
      labels = subst (λ es. length (labels_of es) ≤ A.labels) same (few_labels A labels w);
      transitions = subst (λ es. length (transitions_of es) ≤ length A.transitions) same (few_transitions A labels w);
    }

pub written_is_read : WrittenIsRead
written_is_read A labels limits w states letters transitions =
    let c = written_counts A labels w in
    written_reads A labels limits w (record {
      states = omega (arith, c.states, states);
      labels = omega (arith, c.labels, letters);
      transitions = omega (arith, c.transitions, transitions);
    })
