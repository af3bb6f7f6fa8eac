-- What a written text reads as is the written automaton with its states renamed.
use Rattle.std.proofs.Common.{◌≡◌, ℕ, suc, ◌^◌, ◌<◌, ◌≤◌, Bool, true, false, eqb, ◌&&◌, List, [], ◌∷◌, ◌++◌, length, map, fold, reverse, drop, get_or, All, Contains, ◌⊎◌, inl, inr, refl, sym, ap, subst, ◌∙◌, true≢false, arith, if◌then◌else◌}
use Rattle.std.specs.Fmt.{decimal}
use Rattle.std.specs.List.{list_any, flat_map, range_with_len}
use Rattle.std.proofs.lemmas.List.{append-nil, reverse-append, reverse-reverse}
use Rattle.std.proofs.lemmas.List.Elements.{All-nil, All-cons, All-contains, Contains-append_left, Contains-push, Contains-push_cases}
use Rattle.std.proofs.lemmas.List.Concat.{flat_map_single}
use Rattle.std.proofs.lemmas.List.Folds.{flat_map-map}
use Rattle.std.proofs.lemmas.List.Sorted.{IsPermutation-sym, Contains-permutation}
use Rattle.std.proofs.lemmas.Grind.{flat_map-append}
use Rattle.std.proofs.lemmas.Bool.Decides.{nat_tests}
use Rattle.std.proofs.lemmas.Fmt.{decimal_injective}
use Rattle.indexmap.proofs.CallerLemmas.{Contains-list_any}
use Rattle.auto_core.specs.declared.parts.Trans.{Trans}
use Rattle.auto_core.specs.declared.parts.Mode.{Mode}
use Rattle.auto_core.specs.Automaton.{Automaton, Moves, is_accepting, trans}
use Rattle.auto_core.specs.Accept.{Same}
use Rattle.auto_core.proofs.Accepting.{Contains-from_test, test-from_Contains}
use Rattle.ba_format.specs.declared.parts.Named.{Named}
use Rattle.ba_format.specs.declared.parts.Joined.{Joined}
use Rattle.ba_format.specs.Sight.{same_text, noted, first_seen, place_in}
use Rattle.ba_format.specs.Grammar.{StateLine}
use Rattle.ba_format.specs.Faults.{states_in, labels_in, transitions_in, same_trans, state_lines, names_of, labels_of, transitions_of, accepting_names, accepting_numbers, accepting_of}
use Rattle.ba_format.specs.Reading.{IsReading}
use Rattle.ba_format.specs.Joining.{relabelled, IsJoined}
use Rattle.ba_format.specs.Writing.{name_text, accepting_written}
use Rattle.ba_format.specs.Laws.{IsWritable, WrittenReadsBack}
use Rattle.ba_format.proofs.JoinLemmas.{at_number, number_tells}
use Rattle.ba_format.proofs.DraftLemmas.{AllFound, AllFound-noted, AllFound-left, AllFound-right}
use Rattle.ba_format.proofs.LawLemmas.{contains_cases, contains_later, contains_first}
use Rattle.ba_format.proofs.RenameLemmas.{IsRenaming, renamed_same}
use Rattle.ba_format.proofs.WrittenLemmas.{transition_entry_of, written_entries, contents_of-written}

-- ---- members

contains_none : {X : Type 0} (z : X) → Contains [] z → ⊥
contains_none z (k, lt, e) = absurd (omega arith)

contains_map : {X Y : Type 0} (f : X → Y) (xs : List X) (y : Y) → Contains (map f xs) y → (x : X) × Contains xs x × (f x ≡ y)
contains_map f [] y c = absurd (contains_none y c)
contains_map {X} {Y} f (x ∷ xs) y c = elim (contains_cases (f x) (map f xs) y c) [
  | inl e ↦ (x, contains_first x xs, e)
  | inr later ↦ let r = contains_map f xs y later in (r.0, contains_later x xs r.0 r.1, r.2)
]

map_contains : {X Y : Type 0} (f : X → Y) (xs : List X) (x : X) → Contains xs x → Contains (map f xs) (f x)
map_contains f [] x c = absurd (contains_none x c)
map_contains f (y ∷ ys) x c = elim (contains_cases y ys x c) [
  | inl e ↦ subst (λ z. Contains (map f (y ∷ ys)) (f z)) e (contains_first (f y) (map f ys))
  | inr later ↦ contains_later (f y) (map f ys) (f x) (map_contains f ys x later)
]

module _ {X : Type 0} (same : X → X → Bool) (equal : (x y : X) → same x y ≡ true → x ≡ y) where
  noted_from : (seen : List X) (x z : X) → Contains (noted same seen x) z → Contains seen z ⊎ (x ≡ z)
  noted_from seen x z = by (list_any (same x) seen)
    where
      by : (b : Bool) → Contains (if b then seen else seen ++ x ∷ []) z → Contains seen z ⊎ (x ≡ z)
      by true c = inl c
      by false c = Contains-push_cases seen x z c

  noted_keeps : (seen : List X) (x z : X) → Contains seen z → Contains (noted same seen x) z
  noted_keeps seen x z c = by (list_any (same x) seen)
    where
      by : (b : Bool) → Contains (if b then seen else seen ++ x ∷ []) z
      by true = c
      by false = Contains-append_left seen (x ∷ []) z c

  noted_has : (seen : List X) (x : X) → Contains (noted same seen x) x
  noted_has seen x = by (list_any (same x) seen) refl
    where
      by : (b : Bool) → list_any (same x) seen ≡ b → Contains (if b then seen else seen ++ x ∷ []) x
      by true e = Contains-list_any same equal seen x e
      by false e = Contains-push seen x

  seen_from : (xs seen : List X) (z : X) → Contains (fold (noted same) seen xs) z → Contains seen z ⊎ Contains xs z
  seen_from [] seen z c = inl c
  seen_from (x ∷ xs) seen z c = elim (seen_from xs (noted same seen x) z c) [
    | inl d ↦ elim (noted_from seen x z d) [ inl k ↦ inl k | inr e ↦ inr (subst (Contains (x ∷ xs)) e (contains_first x xs)) ]
    | inr d ↦ inr (contains_later x xs z d)
  ]

  seen_keeps : (xs seen : List X) (z : X) → Contains seen z → Contains (fold (noted same) seen xs) z
  seen_keeps [] seen z c = c
  seen_keeps (x ∷ xs) seen z c = seen_keeps xs (noted same seen x) z (noted_keeps seen x z c)

  seen_has : (xs seen : List X) (z : X) → Contains xs z → Contains (fold (noted same) seen xs) z
  seen_has [] seen z c = absurd (contains_none z c)
  seen_has (x ∷ xs) seen z c = elim (contains_cases x xs z c) [
    | inl e ↦ subst (Contains (fold (noted same) (noted same seen x) xs)) e (seen_keeps xs (noted same seen x) x (noted_has seen x))
    | inr d ↦ seen_has xs (noted same seen x) z d
  ]

  -- things seen are the things
  first_from : (xs : List X) (z : X) → Contains (first_seen same xs) z → Contains xs z
  first_from xs z c = elim (seen_from xs [] z c) [ inl n ↦ absurd (contains_none z n) | inr d ↦ d ]

  first_has : (xs : List X) (z : X) → Contains xs z → Contains (first_seen same xs) z
  first_has xs z c = seen_has xs [] z c

eqb-equal : (a b : ℕ) → eqb a b ≡ true → a ≡ b
eqb-equal a b e = grind (arith, nat_tests)

same_trans-equal : (t u : Trans) → same_trans t u ≡ true → t ≡ u
same_trans-equal t u h =
    let one = both (eqb t.source u.source && eqb t.label u.label) (eqb t.target u.target) h in
    let two = both (eqb t.source u.source) (eqb t.label u.label) one.0 in
    λ i. trans (eqb-equal t.source u.source two.0 i) (eqb-equal t.label u.label two.1 i) (eqb-equal t.target u.target one.1 i)
  where
    both : (a b : Bool) → (a && b) ≡ true → (a ≡ true) × (b ≡ true)
    both true b h = (refl, h)
    both false b h = absurd (true≢false (sym h))

-- ---- names

name_tells : (p q : ℕ) → p < 2 ^ 64 → q < 2 ^ 64 → name_text p ≡ name_text q → p ≡ q
name_tells p q hp hq e = decimal_injective p q hp hq (sym (inner p) ∙ ap (λ l. reverse (drop 1 (reverse (drop 1 l)))) e ∙ inner q)
  where
    inner : (n : ℕ) → reverse (drop 1 (reverse (drop 1 (name_text n)))) ≡ decimal n
    inner n = ap (λ l. reverse (drop 1 l)) (reverse-append (decimal n) (93 ∷ [])) ∙ reverse-reverse (decimal n)

-- ---- what is found among the names and labels

found_states : (names labels : List (List ℕ)) (ts : List Trans) → AllFound names (flat_map states_in (map (transition_entry_of labels) ts))
    → All (λ t. (list_any (same_text (name_text t.source)) names ≡ true) × (list_any (same_text (name_text t.target)) names ≡ true)) ts
found_states names labels [] h = All-nil (λ t. (list_any (same_text (name_text t.source)) names ≡ true) × (list_any (same_text (name_text t.target)) names ≡ true))
found_states names labels (t ∷ ts) h =
    All-cons (λ t. (list_any (same_text (name_text t.source)) names ≡ true) × (list_any (same_text (name_text t.target)) names ≡ true)) t ts (h.0, h.1.0) (found_states names labels ts h.1.1)

found_labels : (seen labels : List (List ℕ)) (ts : List Trans) → AllFound seen (flat_map labels_in (map (transition_entry_of labels) ts))
    → All (λ t. list_any (same_text (get_or labels t.label [])) seen ≡ true) ts
found_labels seen labels [] h = All-nil (λ t. list_any (same_text (get_or labels t.label [])) seen ≡ true)
found_labels seen labels (t ∷ ts) h = All-cons (λ t. list_any (same_text (get_or labels t.label [])) seen ≡ true) t ts h.0 (found_labels seen labels ts h.1)

found_accepting : (names : List (List ℕ)) (qs : List ℕ) → AllFound names (flat_map states_in (map (λ q. StateLine (name_text q)) qs)) → All (λ q. list_any (same_text (name_text q)) names ≡ true) qs
found_accepting names [] h = All-nil (λ q. list_any (same_text (name_text q)) names ≡ true)
found_accepting names (q ∷ qs) h = All-cons (λ q. list_any (same_text (name_text q)) names ≡ true) q qs h.0 (found_accepting names qs h.1)

-- ---- the parts of what is read

no_transitions : (names labels : List (List ℕ)) (qs : List ℕ) → flat_map (transitions_in names labels) (map (λ q. StateLine (name_text q)) qs) ≡ []
no_transitions names labels [] = refl
no_transitions names labels (q ∷ qs) = no_transitions names labels qs

no_state_lines : (labels : List (List ℕ)) (ts : List Trans) → flat_map state_lines (map (transition_entry_of labels) ts) ≡ []
no_state_lines labels [] = refl
no_state_lines labels (t ∷ ts) = no_state_lines labels ts

only_state_lines : (qs : List ℕ) → flat_map state_lines (map (λ q. StateLine (name_text q)) qs) ≡ map name_text qs
only_state_lines [] = refl
only_state_lines (q ∷ qs) = ap (λ l. name_text q ∷ l) (only_state_lines qs)

-- the names and labels that are read
abbrev pub NS : Automaton → List (List ℕ) → List (List ℕ)
NS A labels = names_of (written_entries A labels)

abbrev pub LS : Automaton → List (List ℕ) → List (List ℕ)
LS A labels = labels_of (written_entries A labels)

-- the number that a state has where it is read
abbrev pub renamed : Automaton → List (List ℕ) → ℕ → ℕ
renamed A labels q = place_in same_text (NS A labels) (name_text q)

-- a transition in the numbers of what is read
abbrev pub renumbered : Automaton → List (List ℕ) → Trans → Trans
renumbered A labels t = trans (renamed A labels t.source) (place_in same_text (LS A labels) (get_or labels t.label [])) (renamed A labels t.target)

-- a state that stands in the text
abbrev Known : Automaton → List (List ℕ) → ℕ → Type 0
Known A labels q = (list_any (same_text (name_text q)) (NS A labels) ≡ true) × (q < A.states)

not_zero : (n : ℕ) → 0 < n → eqb n 0 ≡ false
not_zero n h = grind (arith, nat_tests)

same_bool : (a b : Bool) → (a ≡ true → b ≡ true) → (b ≡ true → a ≡ true) → a ≡ b
same_bool true b f g = sym (f refl)
same_bool false true f g = g refl
same_bool false false f g = refl

module _ (A : Automaton) (labels : List (List ℕ)) (w : IsWritable A labels) where
  tail_states : AllFound (NS A labels) (flat_map states_in (map (transition_entry_of labels) A.transitions) ++ flat_map states_in (map (λ q. StateLine (name_text q)) (accepting_written A)))
  tail_states =
      subst (AllFound (NS A labels)) (flat_map-append states_in (map (transition_entry_of labels) A.transitions) (map (λ q. StateLine (name_text q)) (accepting_written A)))
      (AllFound-noted (flat_map states_in (written_entries A labels)) []).1

  initial_known : list_any (same_text (name_text A.initial)) (NS A labels) ≡ true
  initial_known = (AllFound-noted (flat_map states_in (written_entries A labels)) []).0

  ends_known : (t : Trans) → Contains A.transitions t → (list_any (same_text (name_text t.source)) (NS A labels) ≡ true) × (list_any (same_text (name_text t.target)) (NS A labels) ≡ true)
  ends_known t c =
      All-contains (λ t. (list_any (same_text (name_text t.source)) (NS A labels) ≡ true) × (list_any (same_text (name_text t.target)) (NS A labels) ≡ true)) A.transitions t
      (found_states (NS A labels) labels A.transitions (AllFound-left (flat_map states_in (map (transition_entry_of labels) A.transitions)) (flat_map states_in (map (λ q. StateLine (name_text q)) (accepting_written A))) (NS A labels) tail_states)) c

  accepting_known : (q : ℕ) → Contains (accepting_written A) q → list_any (same_text (name_text q)) (NS A labels) ≡ true
  accepting_known q c =
      All-contains (λ q. list_any (same_text (name_text q)) (NS A labels) ≡ true) (accepting_written A) q
      (found_accepting (NS A labels) (accepting_written A) (AllFound-right (flat_map states_in (map (transition_entry_of labels) A.transitions)) (flat_map states_in (map (λ q. StateLine (name_text q)) (accepting_written A))) (NS A labels) tail_states)) c

  label_known : (t : Trans) → Contains A.transitions t → list_any (same_text (get_or labels t.label [])) (LS A labels) ≡ true
  label_known t c =
      All-contains (λ t. list_any (same_text (get_or labels t.label [])) (LS A labels) ≡ true) A.transitions t
      (found_labels (LS A labels) labels A.transitions
      (AllFound-left (flat_map labels_in (map (transition_entry_of labels) A.transitions)) (flat_map labels_in (map (λ q. StateLine (name_text q)) (accepting_written A))) (LS A labels)
      (subst (AllFound (LS A labels)) (flat_map-append labels_in (map (transition_entry_of labels) A.transitions) (map (λ q. StateLine (name_text q)) (accepting_written A)))
      (AllFound-noted (flat_map labels_in (written_entries A labels)) [])))) c

  ranges : (t : Trans) → Contains A.transitions t → (t.source < A.states) × (t.target < A.states) × (t.label < A.labels)
  ranges t c = All-contains (λ t. (t.source < A.states) × (t.target < A.states) × (t.label < A.labels)) A.transitions t w.valid.in_range c

  source_known : (t : Trans) → Contains A.transitions t → Known A labels t.source
  source_known t c = ((ends_known t c).0, (ranges t c).0)

  target_known : (t : Trans) → Contains A.transitions t → Known A labels t.target
  target_known t c = ((ends_known t c).1, (ranges t c).1)

  tells : (p q : ℕ) → p ≤ 2 ^ 32 → q ≤ 2 ^ 32 → list_any (same_text (name_text p)) (NS A labels) ≡ true → list_any (same_text (name_text q)) (NS A labels) ≡ true → renamed A labels p ≡ renamed A labels q → p ≡ q
  tells p q bp bq hp hq e = name_tells p q (omega arith) (omega arith) (number_tells (NS A labels) (name_text p) (name_text q) hp hq e)

  -- the transitions of the lines
  pub transitions_listed : flat_map (transitions_in (NS A labels) (LS A labels)) (written_entries A labels) ≡ map (renumbered A labels) A.transitions
  transitions_listed =
      let T = transitions_in (NS A labels) (LS A labels) in
      flat_map-append T (map (transition_entry_of labels) A.transitions) (map (λ q. StateLine (name_text q)) (accepting_written A))
      ∙ (λ i. flat_map-map T (transition_entry_of labels) A.transitions i ++ no_transitions (NS A labels) (LS A labels) (accepting_written A) i)
      ∙ append-nil (flat_map (λ t. renumbered A labels t ∷ []) A.transitions)
      ∙ flat_map_single (renumbered A labels) A.transitions

  -- the states of the accepting lines
  accepting_listed : accepting_names (written_entries A labels) ≡ map name_text (accepting_written A)
  accepting_listed =
      flat_map-append state_lines (map (transition_entry_of labels) A.transitions) (map (λ q. StateLine (name_text q)) (accepting_written A))
      ∙ (λ i. no_state_lines labels A.transitions i ++ only_state_lines (accepting_written A) i)

  some_accepting : (b : Bool) → eqb (length A.accepting) 0 ≡ b → eqb (length (map name_text (if b then A.states ∷ [] else A.accepting))) 0 ≡ false
  some_accepting true e = refl
  some_accepting false e = by A.accepting e
    where
      by : (qs : List ℕ) → eqb (length qs) 0 ≡ false → eqb (length (map name_text qs)) 0 ≡ false
      by [] e = e
      by (q ∷ qs) e = not_zero (suc (length (map name_text qs))) (omega arith)

  accepting_numbered : accepting_of (written_entries A labels) ≡ first_seen (λ a b. eqb a b) (map (place_in same_text (NS A labels)) (map name_text (accepting_written A)))
  accepting_numbered =
      ap (λ b. if b then range_with_len 0 (length (NS A labels)) else accepting_numbers (written_entries A labels)) (ap (λ l. eqb (length l) 0) accepting_listed ∙ some_accepting (eqb (length A.accepting) 0) refl)
      ∙ ap (λ l. first_seen (λ a b. eqb a b) (map (place_in same_text (NS A labels)) l)) accepting_listed

  module _ (names : List (List ℕ)) (read : Named) (joined : Joined) (rd : IsReading (written_entries A labels) read)
      (j : IsJoined (record { auto = A; names = names; labels = labels }) read joined) where
    from_read : (u : Trans) → Contains read.auto.transitions u → (t : Trans) × Contains A.transitions t × (renumbered A labels t ≡ u)
    from_read u c =
        contains_map (renumbered A labels) A.transitions u
        (subst (λ l. Contains l u) transitions_listed
        (first_from same_trans same_trans-equal (flat_map (transitions_in (NS A labels) (LS A labels)) (written_entries A labels)) u
        (Contains-permutation read.auto.transitions (transitions_of (written_entries A labels)) u (IsPermutation-sym (transitions_of (written_entries A labels)) read.auto.transitions rd.auto.transitions_given) c)))

    to_read : (t : Trans) → Contains A.transitions t → Contains read.auto.transitions (renumbered A labels t)
    to_read t c =
        Contains-permutation (transitions_of (written_entries A labels)) read.auto.transitions (renumbered A labels t) rd.auto.transitions_given
        (first_has same_trans same_trans-equal (flat_map (transitions_in (NS A labels) (LS A labels)) (written_entries A labels)) (renumbered A labels t)
        (subst (λ l. Contains l (renumbered A labels t)) (sym transitions_listed) (map_contains (renumbered A labels) A.transitions t c)))

    -- the letter of a transition in the joined numbers
    letter : Trans → ℕ
    letter t = place_in same_text joined.labels (get_or labels t.label [])

    same_letter : (t : Trans) → Contains A.transitions t
        → relabelled read.labels joined.labels (renumbered A labels t) ≡ trans (renamed A labels t.source) (place_in same_text joined.labels (get_or labels t.label [])) (renamed A labels t.target)
    same_letter t c =
        (λ i. relabelled (rd.labels i) joined.labels (renumbered A labels t))
        ∙ ap (λ text. trans (renamed A labels t.source) (place_in same_text joined.labels text) (renamed A labels t.target)) (sym (at_number (LS A labels) (get_or labels t.label []) (label_known t c)))

    to_second : (t : Trans) → Contains A.transitions t → Moves joined.second (renamed A labels t.source) (place_in same_text joined.labels (get_or labels t.label [])) (renamed A labels t.target)
    to_second t c =
        Contains-permutation (map (relabelled read.labels joined.labels) read.auto.transitions) joined.second.transitions _ j.second.transitions_given
        (subst (Contains (map (relabelled read.labels joined.labels) read.auto.transitions)) (same_letter t c)
        (map_contains (relabelled read.labels joined.labels) read.auto.transitions (renumbered A labels t) (to_read t c)))

    from_second : (u : Trans) → Contains joined.second.transitions u
        → (t : Trans) × Contains A.transitions t × (trans (renamed A labels t.source) (place_in same_text joined.labels (get_or labels t.label [])) (renamed A labels t.target) ≡ u)
    from_second u c =
        let given = contains_map (relabelled read.labels joined.labels) read.auto.transitions u
        (Contains-permutation joined.second.transitions (map (relabelled read.labels joined.labels) read.auto.transitions) u (IsPermutation-sym (map (relabelled read.labels joined.labels) read.auto.transitions) joined.second.transitions j.second.transitions_given) c) in
        let own = from_read given.0 given.1 in
        (own.0, own.1, sym (same_letter own.0 own.1) ∙ ap (relabelled read.labels joined.labels) own.2 ∙ given.2)

    to_first : (t : Trans) → Contains A.transitions t → Moves joined.first t.source (place_in same_text joined.labels (get_or labels t.label [])) t.target
    to_first t c =
        Contains-permutation (map (relabelled labels joined.labels) A.transitions) joined.first.transitions (relabelled labels joined.labels t) j.first.transitions_given
        (map_contains (relabelled labels joined.labels) A.transitions t c)

    from_first : (u : Trans) → Contains joined.first.transitions u → (t : Trans) × Contains A.transitions t × (relabelled labels joined.labels t ≡ u)
    from_first u c =
        contains_map (relabelled labels joined.labels) A.transitions u
        (Contains-permutation joined.first.transitions (map (relabelled labels joined.labels) A.transitions) u (IsPermutation-sym (map (relabelled labels joined.labels) A.transitions) joined.first.transitions j.first.transitions_given) c)

    -- ---- accepting states

    accepting_from : (z : ℕ) → Contains joined.second.accepting z → (q : ℕ) × Contains (accepting_written A) q × (renamed A labels q ≡ z)
    accepting_from z c =
        let in_read = Contains-permutation joined.second.accepting read.auto.accepting z (IsPermutation-sym read.auto.accepting joined.second.accepting j.second.accepting_given) c in
        let in_text = Contains-permutation read.auto.accepting (accepting_of (written_entries A labels)) z (IsPermutation-sym (accepting_of (written_entries A labels)) read.auto.accepting rd.auto.accepting_given) in_read in
        let numbers = map (place_in same_text (NS A labels)) (map name_text (accepting_written A)) in
        let named = contains_map (place_in same_text (NS A labels)) (map name_text (accepting_written A)) z (first_from (λ a b. eqb a b) eqb-equal numbers z (subst (λ l. Contains l z) accepting_numbered in_text)) in
        let own = contains_map name_text (accepting_written A) named.0 named.1 in
        (own.0, own.1, ap (place_in same_text (NS A labels)) own.2 ∙ named.2)

    accepting_to : (q : ℕ) → Contains (accepting_written A) q → Contains joined.second.accepting (renamed A labels q)
    accepting_to q c =
        let numbers = map (place_in same_text (NS A labels)) (map name_text (accepting_written A)) in
        let listed = map_contains (place_in same_text (NS A labels)) (map name_text (accepting_written A)) (name_text q) (map_contains name_text (accepting_written A) q c) in
        Contains-permutation read.auto.accepting joined.second.accepting (renamed A labels q) j.second.accepting_given
        (Contains-permutation (accepting_of (written_entries A labels)) read.auto.accepting (renamed A labels q) rd.auto.accepting_given
        (subst (λ l. Contains l (renamed A labels q)) (sym accepting_numbered) (first_has (λ a b. eqb a b) eqb-equal numbers (renamed A labels q) listed)))

    -- a state of A in the written list is accepting, and the other way round
    written_is : (b : Bool) → eqb (length A.accepting) 0 ≡ b → (q : ℕ) → q < A.states → Contains (if b then A.states ∷ [] else A.accepting) q → Contains A.accepting q
    written_is true e q lt c = elim (contains_cases A.states [] q c) [ inl same ↦ absurd (omega arith) | inr none ↦ absurd (contains_none q none) ]
    written_is false e q lt c = c

    is_written : (b : Bool) → eqb (length A.accepting) 0 ≡ b → (q : ℕ) → Contains A.accepting q → Contains (if b then A.states ∷ [] else A.accepting) q
    is_written true e q c = absurd (empty (length A.accepting) c.0 e c.1)
      where
        empty : (n k : ℕ) → eqb n 0 ≡ true → k < n → ⊥
        empty n k e lt = let z = eqb-equal n 0 e in omega arith
    is_written false e q c = c

    small : (b : Bool) (q : ℕ) → Contains (if b then A.states ∷ [] else A.accepting) q → q ≤ 2 ^ 32
    small true q c = elim (contains_cases A.states [] q c) [ inl same ↦ omega (arith, w.valid.states_fit) | inr none ↦ absurd (contains_none q none) ]
    small false q c = omega (arith, All-contains (λ q. q < A.states) A.accepting q w.valid.accepting_in_range c, w.valid.states_fit)

    accepting_same : (q : ℕ) → Known A labels q → is_accepting joined.second (renamed A labels q) ≡ is_accepting joined.first q
    accepting_same q k =
        same_bool (is_accepting joined.second (renamed A labels q)) (is_accepting joined.first q)
        (λ h.
        let from = accepting_from (renamed A labels q) (Contains-from_test joined.second.accepting (renamed A labels q) h) in
        let p = from.0 in
        let same = tells p q (small (eqb (length A.accepting) 0) p from.1) (omega (arith, k.1, w.valid.states_fit)) (accepting_known p from.1) k.0 from.2 in
        let own = written_is (eqb (length A.accepting) 0) refl q k.1 (subst (Contains (accepting_written A)) same from.1) in
        test-from_Contains joined.first.accepting q (Contains-permutation A.accepting joined.first.accepting q j.first.accepting_given own))
        (λ h.
        let own = Contains-permutation joined.first.accepting A.accepting q (IsPermutation-sym A.accepting joined.first.accepting j.first.accepting_given) (Contains-from_test joined.first.accepting q h) in
        test-from_Contains joined.second.accepting (renamed A labels q) (accepting_to q (is_written (eqb (length A.accepting) 0) refl q own)))

    renaming : IsRenaming joined.first joined.second (renamed A labels) (Known A labels)
    renaming =
        record {
          first = subst (Known A labels) (sym j.first.initial_given) (initial_known, w.valid.initial_is_state);
          initial = j.second.initial_given ∙ rd.auto.initial_given ∙ ap (renamed A labels) (sym j.first.initial_given);
          stays = λ p a q h m.
              let t = from_first (trans p a q) m in
              subst (Known A labels) (ap (λ u. u.target) t.2) (target_known t.0 t.1);
          there = λ p a q h m.
              let t = from_first (trans p a q) m in
              subst (λ (u : Trans). Contains joined.second.transitions (trans (renamed A labels u.source) u.label (renamed A labels u.target))) t.2 (to_second t.0 t.1);
          back = λ p a z h m.
              let t = from_second (trans (renamed A labels p) a z) m in
              let k = source_known t.0 t.1 in
              let same = tells t.0.source p (omega (arith, k.1, w.valid.states_fit)) (omega (arith, h.1, w.valid.states_fit)) k.0 h.0 (ap (λ u. u.source) t.2) in (
                t.0.target,
                sym (ap (λ u. u.target) t.2),
                subst (λ s. Moves joined.first s a t.0.target) same (subst (λ x. Moves joined.first t.0.source x t.0.target) (ap (λ u. u.label) t.2) (to_first t.0 t.1)),
              );
          accepts = accepting_same;
          tells = λ p q hp hq e. tells p q (omega (arith, hp.1, w.valid.states_fit)) (omega (arith, hq.1, w.valid.states_fit)) hp.0 hq.0 e;
        }

    pub read_back_same : (mode : Mode) → Same joined.first joined.second mode
    read_back_same mode = renamed_same joined.first joined.second (renamed A labels) (Known A labels) renaming mode

pub written_reads_back : WrittenReadsBack
written_reads_back A labels names limits read joined mode w reads j =
    read_back_same A labels w names read joined (subst (λ es. IsReading es read) (contents_of-written A labels w) reads.reading) j mode
