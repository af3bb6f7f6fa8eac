-- `universal`: the made automaton accepts everything over the read one's labels, and that stays as it is.
use Rattle.std.proofs.Common.{◌≡◌, ℕ, zero, suc, ◌+◌, ◌*◌, ◌<◌, ◌≤◌, ◌^◌, Bool, true, false, not, cond, List, [], ◌∷◌, ◌++◌, length, map, filter, fold, get_or, All, Contains, None, inl, inr, refl, sym, ◌∙◌, ap, subst, arith, append-nil, length-append}
use Rattle.std.specs.List.{list_any, flat_map, range_with_len}
use Rattle.std.specs.Fmt.{decimal}
use Rattle.std.proofs.lemmas.Bool.{ltb-true}
use Rattle.std.proofs.lemmas.Fmt.{length-decimal-le_succ}
use Rattle.std.proofs.lemmas.List.{append_assoc, get_or_append_left}
use Rattle.std.proofs.lemmas.List.Elements.{All-contains, All-contains_itself}
use Rattle.std.proofs.lemmas.List.Folds.{list_any_at}
use Rattle.std.proofs.lemmas.List.Sorted.{IsPermutation-refl}
use Rattle.std.proofs.lemmas.List.FromFn.{length-map-range_with_len, get_or-map-range_with_len}
use Rattle.auto_core.specs.Automaton.{Automaton, IsAutomaton, IsInRange, Moves, trans}
use Rattle.auto_core.specs.Accept.{AcceptsLasso, AcceptsWord, Includes}
use Rattle.auto_core.specs.Build.{IsBuilt}
use Rattle.auto_core.specs.Parts.{AreParts}
use Rattle.auto_core.specs.Run.{Run, repeated}
use Rattle.auto_core.specs.declared.parts.Trans.{Trans}
use Rattle.auto_core.specs.declared.parts.Mode.{Mode}
use Rattle.auto_core.specs.declared.parts.Mode.TheVariants.{Buchi, Finite}
use Rattle.ba_format.specs.declared.parts.Limits.{Limits}
use Rattle.ba_format.specs.declared.parts.Named.{Named}
use Rattle.ba_format.specs.declared.parts.Joined.{Joined}
use Rattle.ba_format.specs.Faults.{fault_of, labels_of, labels_in, contents_of}
use Rattle.ba_format.specs.Grammar.{StateLine}
use Rattle.ba_format.specs.Joining.{IsJoined, joined_labels}
use Rattle.ba_format.specs.Laws.{IsLabelText, IsWritable}
use Rattle.ba_format.specs.Reading.{Reads}
use Rattle.ba_format.specs.Sight.{same_text, noted, first_seen, AreDifferent}
use Rattle.ba_format.specs.Writing.{written, name_text, state_text, transition_text}
use Rattle.ba_format.proofs.CountLemmas.{written_is_read}
use Rattle.ba_format.proofs.FaultlessLemmas.{read_is_within}
use Rattle.ba_format.proofs.LabelLemmas.{labels_fit}
use Rattle.ba_format.proofs.LawLemmas.{contains_cases, contains_first, contains_later, joins_as_one}
use Rattle.ba_format.proofs.SightLemmas.{same_text-refl, noted-new, not_found}
use Rattle.ba_format.proofs.WrittenLemmas.{transition_entry_of, contents_of-written}
use Rattle.cert_check.specs.Rules.{AreLabels}
use Rattle.rabit_frame.specs.declared.files.TheConstants.{SECOND_LIMITS}
use Rattle.rabit_cli.specs.Universal.{loops, all_loops, IsLassoOver, AcceptsAll, universality}
use Rattle.ba_format.proofs.WithLemmas.{written_same, with_labels, includes_then}
use Rattle.ba_format.proofs.OwnLemmas.{labels_count, stays_itself}
use Rattle.rabit_cli.proofs.PairLemmas.{can_decide, within_first}
use Rattle.rabit_frame.proofs.VerdictLemmas.{loop_has_letters}
use Rattle.rabit_cli.proofs.PropertyLemmas.{IsDecidable}

-- ---- the automaton of all loops is valid, and accepts everything

loop_at : (n k : ℕ) (d : Trans) → k < n → get_or (loops n) k d ≡ trans 0 k 0
loop_at n k d lt = get_or-map-range_with_len (λ a. trans 0 a 0) 0 n k k d lt (omega arith)

loops_count : (n : ℕ) → length (loops n) ≡ n
loops_count n = length-map-range_with_len (λ a. trans 0 a 0) 0 n

one_below : (k d : ℕ) → k < 1 → get_or (0 ∷ []) k d < 1
one_below zero d lt = omega arith
one_below (suc k) d lt = absurd (omega arith)

pub loops_valid : (n : ℕ) → n ≤ 65536 → IsAutomaton (all_loops n)
loops_valid n few = record {
  states_fit = omega arith;
  labels_fit = omega arith;
  initial_is_state = omega arith;
  in_range = λ k d lt. (let short : k < n = omega (arith, loops_count n) in subst (λ t. (t.source < 1) × (t.target < 1) × (t.label < n)) (sym (loop_at n k d short)) (omega arith, omega arith, short));
  in_order = λ i j lt short.
      (let here : j < n = omega (arith, loops_count n) in
      let one = loop_at n i (trans 0 0 0) (omega arith) in
      let two = loop_at n j (trans 0 0 0) here in
      inr (inl (ap (λ t. t.source) one ∙ sym (ap (λ t. t.source) two), omega (arith, ap (λ t. t.label) one, ap (λ t. t.label) two))));
  few = omega (arith, loops_count n);
  accepting_in_range = one_below;
  accepting_in_order = λ k short. absurd (omega arith);
}

pub loops_built : (n : ℕ) → n ≤ 256 → IsBuilt 1 n 0 (loops n) (0 ∷ []) (all_loops n)
loops_built n few = record {
  valid = loops_valid n (omega arith);
  states_given = refl;
  labels_given = refl;
  initial_given = refl;
  transitions_given = IsPermutation-refl (loops n);
  accepting_given = IsPermutation-refl (0 ∷ []);
}

pub loops_parts : (n : ℕ) → n ≤ 256 → AreParts 1 n 0 (loops n) (0 ∷ [])
loops_parts n few = record {
  few = omega (arith, loops_count n);
  in_states = (
    omega arith,
    λ k d lt. (let short : k < n = omega (arith, loops_count n) in subst (λ t. (t.source < 1) × (t.target < 1)) (sym (loop_at n k d short)) (omega arith, omega arith)),
    one_below,
  );
  in_labels = λ k d lt. (let short : k < n = omega (arith, loops_count n) in subst (λ t. t.label < n) (sym (loop_at n k d short)) short);
  no_transition_twice = λ (i, j, other, here, there, same).
      (let one = loop_at n i (trans 0 0 0) (omega (arith, here, loops_count n)) in
      let two = loop_at n j (trans 0 0 0) (omega (arith, there, loops_count n)) in
      other (ap (λ t. t.label) (sym one ∙ same (trans 0 0 0) ∙ two)));
  no_state_twice = λ (i, j, other, here, there, same). other (omega (arith, here, there));
}

moves_by : (n a : ℕ) → a < n → Moves (all_loops n) 0 a 0
moves_by n a lt = (a, omega (arith, loops_count n), loop_at n a (trans 0 a 0) lt)

abbrev has_letter : List ℕ → Bool
has_letter [] = false
has_letter (a ∷ w) = true

runs_over : (n : ℕ) (w : List ℕ) → ((a : ℕ) → Contains w a → a < n) → Run (all_loops n) 0 w 0 (has_letter w)
runs_over n [] letters = (refl, refl)
runs_over n (a ∷ w) letters =
    (0, has_letter w, moves_by n a (letters a (contains_first a w)), runs_over n w (λ b has. letters b (contains_later a w b has)), refl)

module _ (n : ℕ) where
  letters_of : (w : List ℕ) → All (λ a. a < n) w → (a : ℕ) → Contains w a → a < n
  letters_of w over a has = All-contains (λ x. x < n) w a over has

  repeated_once : (v : List ℕ) → repeated v 1 ≡ v
  repeated_once v = append-nil v

  loops_accept_lasso : (u v : List ℕ) → All (λ a. a < n) u → All (λ a. a < n) v → 0 < length v → AcceptsLasso (all_loops n) u v
  loops_accept_lasso u [] over_u over_v more = absurd (omega arith)
  loops_accept_lasso u (a ∷ v) over_u over_v more = record {
    before = 0;
    turns = 1;
    state = 0;
    flag = has_letter u;
    enters = subst (λ w. Run (all_loops n) 0 w 0 (has_letter u)) (sym (append-nil u)) (runs_over n u (letters_of u over_u));
    some_turn = omega arith;
    cycles = subst (λ w. Run (all_loops n) 0 w 0 true) (sym (repeated_once (a ∷ v))) (runs_over n (a ∷ v) (letters_of (a ∷ v) over_v));
  }

  loops_accept_word : (w : List ℕ) → All (λ a. a < n) w → AcceptsWord (all_loops n) w
  loops_accept_word w over = record { state = 0; flag = has_letter w; run = runs_over n w (letters_of w over); ends = (0, omega arith, refl) }

-- the letters of a run are labels
run_letters : (A : Automaton) → IsAutomaton A → (w : List ℕ) (p q : ℕ) (flag : Bool) → Run A p w q flag → (a : ℕ) → Contains w a → a < A.labels
run_letters A valid [] p q flag run a has = absurd (let lt = has.1 in omega arith)
run_letters A valid (b ∷ w) p q flag (next, later, move, rest, e) a has = elim (contains_cases b w a has) [
  | inl same ↦ (let range = All-contains (IsInRange A.states A.labels) A.transitions (trans p b next) valid.in_range move in subst (λ x. x < A.labels) same range.2)
  | inr there ↦ run_letters A valid w next q later rest a there
]

-- ---- its text has the labels in their order

taken : (labels : List (List ℕ)) → map (λ a. get_or labels a []) (range_with_len 0 (length labels)) ≡ labels
taken labels = go 0 labels labels (λ k lt. let e : 0 + k ≡ k = omega arith in ap (λ z. get_or labels z []) e)
  where
    go : (at : ℕ) (all rest : List (List ℕ)) → ((k : ℕ) → k < length rest → get_or all (at + k) [] ≡ get_or rest k []) → map (λ a. get_or all a []) (range_with_len at (length rest)) ≡ rest
    go at all [] same = refl
    go at all (x ∷ rest) same =
        let here : at + 0 ≡ at = omega arith in
        let first : get_or all at [] ≡ x = subst (λ z. get_or all z [] ≡ x) here (same 0 (omega arith)) in
        let later = go (at + 1) all rest (λ k lt. let there : at + suc k ≡ (at + 1) + k = omega arith in subst (λ z. get_or all z [] ≡ get_or rest k []) there (same (suc k) (omega arith))) in
        λ i. first i ∷ later i

lines_labels : (labels : List (List ℕ)) (ns : List ℕ) → flat_map labels_in (map (transition_entry_of labels) (map (λ a. trans 0 a 0) ns) ++ StateLine (name_text 0) ∷ []) ≡ map (λ a. get_or labels a []) ns
lines_labels labels [] = refl
lines_labels labels (a ∷ ns) = ap (λ ls. get_or labels a [] ∷ ls) (lines_labels labels ns)

seen_once : (seen rest : List (List ℕ)) → AreDifferent (seen ++ rest) → fold (noted same_text) seen rest ≡ seen ++ rest
seen_once seen [] different = sym (append-nil seen)
seen_once seen (x ∷ rest) different =
    let new : list_any (same_text x) seen ≡ false = not_found seen x (λ has.
    different has.0 (length seen) x (omega (arith, has.1)) (omega (arith, length-append seen (x ∷ rest))) (in_front seen (x ∷ rest) has.0 x has.1 ∙ has.2 ∙ sym (at_seam seen x rest x))) in
    let step = noted-new same_text seen x new in
    let more : AreDifferent ((seen ++ x ∷ []) ++ rest) = subst AreDifferent (sym (append_assoc seen (x ∷ []) rest)) different in
    ap (λ s. fold (noted same_text) s rest) step ∙ seen_once (seen ++ x ∷ []) rest more ∙ append_assoc seen (x ∷ []) rest
  where
    in_front : (xs ys : List (List ℕ)) (k : ℕ) (d : List ℕ) → k < length xs → get_or (xs ++ ys) k d ≡ get_or xs k d
    in_front [] ys k d lt = absurd (omega arith)
    in_front (z ∷ xs) ys zero d lt = refl
    in_front (z ∷ xs) ys (suc k) d lt = in_front xs ys k d (omega arith)

    at_seam : (xs : List (List ℕ)) (y : List ℕ) (ys : List (List ℕ)) (d : List ℕ) → get_or (xs ++ y ∷ ys) (length xs) d ≡ y
    at_seam [] y ys d = refl
    at_seam (z ∷ xs) y ys d = at_seam xs y ys d

module _ (labels : List (List ℕ)) (few : length labels ≤ 256) (fit : All IsLabelText labels × AreDifferent labels) where
  pub loops_writable : IsWritable (all_loops (length labels)) labels
  loops_writable = record { valid = loops_valid (length labels) (omega arith); all_named = omega arith; different = fit.1; fit = fit.0 }

  -- it has no fault, where the limits leave room for it
  pub universal_has_no_fault : (limits : Limits) → 2 ≤ limits.states → 256 ≤ limits.labels → 256 ≤ limits.transitions → fault_of (written (all_loops (length labels)) labels) limits ≡ None
  universal_has_no_fault limits states names transitions =
      written_is_read (all_loops (length labels)) labels limits loops_writable (omega arith) (omega arith) (omega (arith, loops_count (length labels)))

  pub labels_written : labels_of (contents_of (written (all_loops (length labels)) labels)) ≡ labels
  labels_written =
      ap labels_of (contents_of-written (all_loops (length labels)) labels loops_writable)
      ∙ ap (first_seen same_text) (lines_labels labels (range_with_len 0 (length labels)) ∙ taken labels)
      ∙ seen_once [] labels fit.1

-- ---- how long it is

name_short : length (name_text 0) ≤ 3
name_short =
    let few = length-decimal-le_succ 0 (omega arith) in
    let whole : length (name_text 0) ≡ suc (length (decimal 0) + 1) = ap suc (length-append (decimal 0) (93 ∷ [])) in
    omega (arith, few, whole)

state_short : length (state_text 0) ≤ 4
state_short = omega (arith, name_short, length-append (name_text 0) (10 ∷ []))

line_short : (label : List ℕ) → length label ≤ 255 → length (label ++ 44 ∷ (name_text 0 ++ 45 ∷ 62 ∷ (name_text 0 ++ 10 ∷ []))) ≤ 265
line_short label few =
    let name = name_text 0 in
    let inner : length (name ++ 10 ∷ []) ≡ length name + 1 = length-append name (10 ∷ []) in
    let middle : length (name ++ 45 ∷ 62 ∷ (name ++ 10 ∷ [])) ≡ length name + suc (suc (length (name ++ 10 ∷ []))) = length-append name (45 ∷ 62 ∷ (name ++ 10 ∷ [])) in
    let whole : length (label ++ 44 ∷ (name ++ 45 ∷ 62 ∷ (name ++ 10 ∷ []))) ≡ length label + suc (length (name ++ 45 ∷ 62 ∷ (name ++ 10 ∷ []))) =
    length-append label (44 ∷ (name ++ 45 ∷ 62 ∷ (name ++ 10 ∷ []))) in
    omega (arith, name_short, inner, middle, whole)

short_lines : (labels : List (List ℕ)) (at k : ℕ) → All IsLabelText labels → at + k ≤ length labels → length (flat_map (transition_text labels) (map (λ a. trans 0 a 0) (range_with_len at k))) ≤ 265 * k
short_lines labels at zero fit le = omega arith
short_lines labels at (suc k) fit le =
    let line = transition_text labels (trans 0 at 0) in
    let lines = flat_map (transition_text labels) (map (λ a. trans 0 a 0) (range_with_len (at + 1) k)) in
    let here : length line ≤ 265 = line_short (get_or labels at []) (fit at [] (omega arith)).short in
    let rest = short_lines labels (at + 1) k fit (omega arith) in
    let whole : length (line ++ lines) ≡ length line + length lines = length-append line lines in
    omega (arith, here, rest, whole)

pub universal_is_short : (labels : List (List ℕ)) → length labels ≤ 256 → All IsLabelText labels → length (written (all_loops (length labels)) labels) ≤ 2 ^ 24
universal_is_short labels few fit =
    let lines = flat_map (transition_text labels) (map (λ a. trans 0 a 0) (range_with_len 0 (length labels))) in
    let short = short_lines labels 0 (length labels) fit (omega arith) in
    let state = state_text 0 in
    let last : length (state ++ []) ≡ length state + 0 = length-append state [] in
    let later : length (lines ++ (state ++ [])) ≡ length lines + length (state ++ []) = length-append lines (state ++ []) in
    let whole : length (written (all_loops (length labels)) labels) ≡ length state + length (lines ++ (state ++ [])) = length-append state (lines ++ (state ++ [])) in
    omega (arith, short, state_short, last, later, whole)

-- labels joined to themselves
pub joined_itself : (labels : List (List ℕ)) → joined_labels labels labels ≡ labels
joined_itself labels = ap (λ more. labels ++ more) (all_old labels (λ x has. has)) ∙ append-nil labels
  where
    all_old : (xs : List (List ℕ)) → ((x : List ℕ) → Contains xs x → Contains labels x) → filter (λ label. not (list_any (same_text label) labels)) xs ≡ []
    all_old [] from = refl
    all_old (x ∷ xs) from =
        let has = from x (contains_first x xs) in
        let old : list_any (same_text x) labels ≡ true = list_any_at (same_text x) labels has.0 x has.1 (ap (same_text x) has.2 ∙ same_text-refl x) in
        ap (λ b. cond (not b) (x ∷ filter (λ label. not (list_any (same_text label) labels)) xs) (filter (λ label. not (list_any (same_text label) labels)) xs)) old
        ∙ all_old xs (λ z c. from z (contains_later x xs z c))

-- ---- what its text reads as

pub includes_all : (A : Automaton) (n : ℕ) → A.labels ≡ n → (m : Mode) → Includes (all_loops n) A m → AcceptsAll m A
includes_all A n count Buchi includes = λ u v (over_u, over_v, more).
    includes u v (loops_accept_lasso n u v (subst (λ k. All (λ a. a < k) u) count over_u) (subst (λ k. All (λ a. a < k) v) count over_v) more)
includes_all A n count Finite includes = λ w over. includes w (loops_accept_word n w (subst (λ k. All (λ a. a < k) w) count over))

-- ---- the joined automata

module _ (bytes : List ℕ) (one other : Named) (pair : Joined) (read : Reads bytes SECOND_LIMITS one) (made : Reads (written (all_loops (length one.labels)) one.labels) SECOND_LIMITS other) (joined : IsJoined other one pair) (few : length one.labels ≤ 256) where
  fit : All IsLabelText one.labels × AreDifferent one.labels
  fit = labels_fit bytes SECOND_LIMITS one read

  other_labels : other.labels ≡ one.labels
  other_labels = made.reading.labels ∙ labels_written one.labels few fit

  pub universal_labels : pair.labels ≡ one.labels
  universal_labels = joined.labels ∙ ap (λ ls. joined_labels ls one.labels) other_labels ∙ joined_itself one.labels

  second_stays : pair.second ≡ one.auto
  second_stays = stays_itself bytes SECOND_LIMITS one read pair.labels pair.second universal_labels joined.second

  first_accepts : (m : Mode) → Includes (all_loops (length one.labels)) pair.first m
  first_accepts m =
      let n = length one.labels in
      let turned : Joined = record { first = with_labels (all_loops n) (length pair.labels); second = pair.first; labels = pair.labels } in
      let all : pair.labels ≡ joined_labels one.labels other.labels = universal_labels ∙ sym (ap (joined_labels one.labels) other_labels ∙ joined_itself one.labels) in
      let short : length pair.labels < 2 ^ 32 = omega (arith, ap length universal_labels) in
      (written_same one.labels (all_loops n) m (loops_writable one.labels few fit) SECOND_LIMITS other turned made all short joined.first).0

  abbrev n : ℕ
  n = length one.labels

  count : one.auto.labels ≡ n
  count = labels_count bytes SECOND_LIMITS one read

  universal_holds : (m : Mode) → Includes pair.first pair.second m → AcceptsAll m one.auto
  universal_holds m includes = includes_all one.auto n count m (subst (λ A. Includes (all_loops n) A m) second_stays (includes_then m (all_loops n) pair.first pair.second (first_accepts m) includes))

  letters_over : (w : List ℕ) (p q : ℕ) (flag : Bool) → Run pair.first p w q flag → AreLabels one.auto.labels w
  letters_over w p q flag run =
      let labels : pair.first.labels ≡ one.auto.labels = joined.first.labels_given ∙ ap length universal_labels ∙ sym count in
      subst (λ k. All (λ a. a < k) w) labels (λ k d lt. run_letters pair.first joined.first.valid w p q flag run (get_or w k d) (All-contains_itself w k d lt))

  lasso_over : (u v : List ℕ) → AcceptsLasso pair.first u v → IsLassoOver one.auto u v
  lasso_over u v accepts =
      let first = letters_over (u ++ repeated v accepts.before) pair.first.initial accepts.state accepts.flag accepts.enters in
      let some_v = ltb-true 0 (length v) (loop_has_letters pair.first u v accepts) in
      let turns = letters_over (repeated v accepts.turns) accepts.state accepts.state true accepts.cycles in
      (front u (repeated v accepts.before) first, one_turn v accepts.turns accepts.some_turn turns, some_v)
    where
      front : (xs ys : List ℕ) → AreLabels one.auto.labels (xs ++ ys) → AreLabels one.auto.labels xs
      front xs ys over = λ k d lt. subst (λ x. x < one.auto.labels) (get_or_append_left xs ys d k lt) (over k d (omega (arith, length-append xs ys)))

      one_turn : (v : List ℕ) (t : ℕ) → 1 ≤ t → AreLabels one.auto.labels (repeated v t) → AreLabels one.auto.labels v
      one_turn v zero from over = absurd (omega arith)
      one_turn v (suc t) from over = front v (repeated v t) over

pub universality_decidable : IsDecidable universality
universality_decidable = record {
  one_pair = λ one other x y p q. joins_as_one other one x y p q;
  valid = λ one other pair joined. (joined.first.valid, joined.second.valid);
  can = λ one other pair first second joined. can_decide other one pair (within_first other second) first joined;
  labels = λ bytes one other pair read made joined. universal_labels bytes one other pair read made joined (few_labels bytes one read);
  holds = λ bytes one other pair read made joined. universal_holds bytes one other pair read made joined (few_labels bytes one read);
  lasso = λ bytes one other pair read made joined l apart. (
    lasso_over bytes one other pair read made joined (few_labels bytes one read) l.prefix l.turn apart.0,
    λ accepts. apart.1 (subst (λ A. AcceptsLasso A l.prefix l.turn) (sym (second_stays bytes one other pair read made joined (few_labels bytes one read))) accepts),
  );
  word = λ bytes one other pair read made joined w apart. (
    letters_over bytes one other pair read made joined (few_labels bytes one read) w pair.first.initial apart.0.state apart.0.flag apart.0.run,
    λ accepts. apart.1 (subst (λ A. AcceptsWord A w) (sym (second_stays bytes one other pair read made joined (few_labels bytes one read))) accepts),
  );
}
  where
    few_labels : (bytes : List ℕ) (one : Named) → Reads bytes SECOND_LIMITS one → length one.labels ≤ 256
    few_labels bytes one read = (let within = read_is_within bytes SECOND_LIMITS one read in omega (arith, within.labels, within.labels_named))
