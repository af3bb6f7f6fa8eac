-- Two automata joined in the one order or in the other differ in the numbers of their labels alone.
use Rattle.std.proofs.Common.{◌≡◌, ℕ, zero, suc, ◌<◌, ◌≤◌, Bool, true, false, not, ◌||◌, inl, inr, List, [], ◌∷◌, ◌++◌, length, map, filter, get_or, All, Contains, refl, sym, ap, subst, ◌∙◌, true≢false, arith}
use Rattle.std.specs.List.{list_any}
use Rattle.std.specs.List.Sorted.{IsPermutation}
use Rattle.std.proofs.lemmas.List.{get_or-map, get_or_default, length-map, map-append}
use Rattle.std.proofs.lemmas.List.Elements.{All-append, All-contains, All-filter, Contains-append_left, Contains-append_cases}
use Rattle.std.proofs.lemmas.List.Sorted.{Contains-permutation, IsPermutation-sym}
use Rattle.auto_core.specs.declared.parts.Trans.{Trans}
use Rattle.auto_core.specs.declared.parts.Mode.{Mode}
use Rattle.auto_core.specs.declared.parts.Mode.TheVariants.{Buchi, Finite}
use Rattle.auto_core.specs.Automaton.{Automaton, IsAutomaton, IsInRange, IsAccepting, Moves, is_accepting, trans}
use Rattle.auto_core.specs.Run.{Run, repeated}
use Rattle.auto_core.specs.Accept.{AcceptsLasso, AcceptsWord, Includes}
use Rattle.auto_core.proofs.Accepting.{Contains-from_test, test-from_Contains}
use Rattle.auto_core.proofs.PathLemmas.{Contains-here, Contains-later, Contains-cons_cases, none_in_nil}
use Rattle.ba_format.specs.Sight.{same_text, place_in, AreDifferent}
use Rattle.ba_format.specs.Joining.{joined_labels, relabelled, IsRelabelled}
use Rattle.ba_format.proofs.JoinLemmas.{at_number, number_tells, number_within, place_is, first_found, second_found}
use Rattle.ba_format.proofs.LabelLemmas.{labels_fit}
use Rattle.ba_format.specs.Joins.{JoinOrderDoesNotMatter}
use Rattle.ba_format.proofs.JoinedReadLemmas.{joined_different, read_labels}

-- ---- letters of words

few_in_both : (u w : List ℕ) (P : ℕ → Type 0) → ((a : ℕ) → Contains u a → P a) → ((a : ℕ) → Contains w a → P a) → (a : ℕ) → Contains (u ++ w) a → P a
few_in_both u w P hu hw a has = elim (Contains-append_cases u w a has) [ inl left ↦ hu a left | inr right ↦ hw a right ]

few_repeated : (v : List ℕ) (P : ℕ → Type 0) → ((a : ℕ) → Contains v a → P a) → (n : ℕ) → (a : ℕ) → Contains (repeated v n) a → P a
few_repeated v P h zero a has = absurd (none_in_nil a has)
few_repeated v P h (suc n) a has = few_in_both v (repeated v n) P h (few_repeated v P h n) a has

-- ---- an automaton over two lists of labels

module _ (A : Automaton) (labels source target : List (List ℕ)) (valid : IsAutomaton A) (named : A.labels ≤ length labels)
    (in_source : All (λ text. list_any (same_text text) source ≡ true) labels)
    (in_target : All (λ text. list_any (same_text text) target ≡ true) labels)
    (covered : All (λ text. list_any (same_text text) target ≡ true) source)
    (different : AreDifferent source)
    (B C : Automaton) (over_source : IsRelabelled A labels source B) (over_target : IsRelabelled A labels target C) where
  -- the number in the other list
  abbrev turned : ℕ → ℕ
  turned a = place_in same_text target (get_or source a [])

  -- a move is that of a transition
  of_move : (L : List (List ℕ)) (X : Automaton) → IsRelabelled A labels L X → (p a q : ℕ) → Moves X p a q → (t : Trans) × Contains A.transitions t × (relabelled labels L t ≡ trans p a q)
  of_move L X is p a q move =
      let (k, lt, e) = Contains-permutation X.transitions (map (relabelled labels L) A.transitions) (trans p a q) (IsPermutation-sym (map (relabelled labels L) A.transitions) X.transitions is.transitions_given) move in
      let within : k < length A.transitions = omega (arith, length-map A.transitions (relabelled labels L)) in
      let t = get_or A.transitions k (trans 0 0 0) in
      (t, (k, within, get_or_default A.transitions k t (trans 0 0 0) within), sym (get_or-map (relabelled labels L) A.transitions k (trans 0 0 0) (trans p a q) within) ∙ e)

  to_move : (L : List (List ℕ)) (X : Automaton) → IsRelabelled A labels L X → (t : Trans) → Contains A.transitions t → Contains X.transitions (relabelled labels L t)
  to_move L X is t (k, lt, e) =
      let f = relabelled labels L in
      let within : k < length (map f A.transitions) = omega (arith, length-map A.transitions f) in
      Contains-permutation (map f A.transitions) X.transitions (f t) is.transitions_given (k, within, get_or-map f A.transitions k t (f t) lt ∙ ap f e)

  label_of : (t : Trans) → Contains A.transitions t → t.label < length labels
  label_of t has = let range = All-contains (IsInRange A.states A.labels) A.transitions t valid.in_range has in omega (arith, range.2)

  there : (p a q : ℕ) → Moves B p a q → Moves C p (turned a) q
  there p a q move =
      let (t, has, e) = of_move source B over_source p a q move in
      let text = get_or labels t.label [] in
      let known = label_of t has in
      let number : place_in same_text source text ≡ a = ap (λ (u : Trans). u.label) e in
      let here : get_or source a [] ≡ text = ap (λ n. get_or source n []) (sym number) ∙ sym (at_number source text (in_source t.label [] known)) in
      let from : t.source ≡ p = ap (λ (u : Trans). u.source) e in
      let to : t.target ≡ q = ap (λ (u : Trans). u.target) e in
      subst (Contains C.transitions) (λ i. trans (from i) (place_in same_text target (sym here i)) (to i)) (to_move target C over_target t has)

  back : (p a q : ℕ) → a < length source → Moves C p (turned a) q → Moves B p a q
  back p a q lt move =
      let (t, has, e) = of_move target C over_target p (turned a) q move in
      let text = get_or labels t.label [] in
      let known = label_of t has in
      let same : text ≡ get_or source a [] = number_tells target text (get_or source a []) (in_target t.label [] known) (covered a [] lt) (ap (λ (u : Trans). u.label) e) in
      let number = place_in same_text source text in
      let number_text : text ≡ get_or source number [] = at_number source text (in_source t.label [] known) in
      let within : number < length source = number_within source text (in_source t.label [] known) in
      let one : number ≡ a = place_is number a (λ less. different a number [] less within (sym same ∙ number_text)) (λ less. different number a [] less lt (sym number_text ∙ same)) in
      let from : t.source ≡ p = ap (λ (u : Trans). u.source) e in
      let to : t.target ≡ q = ap (λ (u : Trans). u.target) e in
      subst (Contains B.transitions) (λ i. trans (from i) (one i) (to i)) (to_move source B over_source t has)

  -- both begin in the same state, and have the same accepting states
  begins : C.initial ≡ B.initial
  begins = over_target.initial_given ∙ sym over_source.initial_given

  accepting_there : (q : ℕ) → IsAccepting B q → IsAccepting C q
  accepting_there q has = Contains-permutation A.accepting C.accepting q over_target.accepting_given (Contains-permutation B.accepting A.accepting q (IsPermutation-sym A.accepting B.accepting over_source.accepting_given) has)

  accepting_back : (q : ℕ) → IsAccepting C q → IsAccepting B q
  accepting_back q has = Contains-permutation A.accepting B.accepting q over_source.accepting_given (Contains-permutation C.accepting A.accepting q (IsPermutation-sym A.accepting C.accepting over_target.accepting_given) has)

  same_test : (q : ℕ) → is_accepting C q ≡ is_accepting B q
  same_test q = by (is_accepting B q) refl
    where
      by : (b : Bool) → is_accepting B q ≡ b → is_accepting C q ≡ b
      by true e = test-from_Contains C.accepting q (accepting_there q (Contains-from_test B.accepting q e))
      by false e = none (is_accepting C q) refl
        where
          none : (c : Bool) → is_accepting C q ≡ c → c ≡ false
          none false f = refl
          none true f = absurd (true≢false (sym (test-from_Contains B.accepting q (accepting_back q (Contains-from_test C.accepting q f))) ∙ e))

  run_there : (p : ℕ) (w : List ℕ) (q : ℕ) (flag : Bool) → Run B p w q flag → Run C p (map turned w) q flag
  run_there p [] q flag run = run
  run_there p (a ∷ w) q flag (next, later, move, rest, e) =
      (next, later, there p a next move, run_there next w q later rest, e ∙ ap (λ b. b || later) (sym (same_test next)))

  run_back : (p : ℕ) (w : List ℕ) (q : ℕ) (flag : Bool) → ((a : ℕ) → Contains w a → a < length source) → Run C p (map turned w) q flag → Run B p w q flag
  run_back p [] q flag few run = run
  run_back p (a ∷ w) q flag few (next, later, move, rest, e) =
      (next, later, back p a next (few a (Contains-here a a w refl)) move, run_back next w q later (λ b has. few b (Contains-later a b w has)) rest, e ∙ ap (λ b. b || later) (same_test next))

  -- the letters of a run are labels
  run_letters : (p : ℕ) (w : List ℕ) (q : ℕ) (flag : Bool) → Run B p w q flag → (a : ℕ) → Contains w a → a < length source
  run_letters p [] q flag run a has = absurd (none_in_nil a has)
  run_letters p (b ∷ w) q flag (next, later, move, rest, e) a has = elim (Contains-cons_cases b a w has) [
    | inl same ↦
        let (t, lies, is) = of_move source B over_source p b next move in
        let number : place_in same_text source (get_or labels t.label []) ≡ b = ap (λ (u : Trans). u.label) is in
        omega (arith, number_within source (get_or labels t.label []) (in_source t.label [] (label_of t lies)), number, same)
    | inr behind ↦ run_letters next w q later rest a behind
  ]

  -- the word n times, in the other numbers
  turned_repeated : (v : List ℕ) (n : ℕ) → map turned (repeated v n) ≡ repeated (map turned v) n
  turned_repeated v zero = refl
  turned_repeated v (suc n) = map-append turned v (repeated v n) ∙ ap (λ w. map turned v ++ w) (turned_repeated v n)

  turned_path : (u v : List ℕ) (n : ℕ) → map turned (u ++ repeated v n) ≡ map turned u ++ repeated (map turned v) n
  turned_path u v n = map-append turned u (repeated v n) ∙ ap (λ w. map turned u ++ w) (turned_repeated v n)

  pub lasso_there : (u v : List ℕ) → AcceptsLasso B u v → AcceptsLasso C (map turned u) (map turned v)
  lasso_there u v l = record {
    before = l.before;
    turns = l.turns;
    state = l.state;
    flag = l.flag;
    enters =
        subst (λ w. Run C C.initial w l.state l.flag) (turned_path u v l.before)
        (subst (λ p. Run C p (map turned (u ++ repeated v l.before)) l.state l.flag) (sym begins) (run_there B.initial (u ++ repeated v l.before) l.state l.flag l.enters));
    some_turn = l.some_turn;
    cycles = subst (λ w. Run C l.state w l.state true) (turned_repeated v l.turns) (run_there l.state (repeated v l.turns) l.state true l.cycles);
  }

  pub lasso_back : (u v : List ℕ) → ((a : ℕ) → Contains u a → a < length source) → ((a : ℕ) → Contains v a → a < length source) → AcceptsLasso C (map turned u) (map turned v) → AcceptsLasso B u v
  lasso_back u v few_u few_v l = record {
    before = l.before;
    turns = l.turns;
    state = l.state;
    flag = l.flag;
    enters =
        run_back B.initial (u ++ repeated v l.before) l.state l.flag (few_in_both u (repeated v l.before) (λ a. a < length source) few_u (few_repeated v (λ a. a < length source) few_v l.before))
        (subst (λ p. Run C p (map turned (u ++ repeated v l.before)) l.state l.flag) begins (subst (λ w. Run C C.initial w l.state l.flag) (sym (turned_path u v l.before)) l.enters));
    some_turn = l.some_turn;
    cycles = run_back l.state (repeated v l.turns) l.state true (few_repeated v (λ a. a < length source) few_v l.turns) (subst (λ w. Run C l.state w l.state true) (sym (turned_repeated v l.turns)) l.cycles);
  }

  -- the letters of an accepted lasso are labels
  pub lasso_letters : (u v : List ℕ) → AcceptsLasso B u v → (((a : ℕ) → Contains u a → a < length source) × ((a : ℕ) → Contains v a → a < length source))
  lasso_letters u v l = (
    λ a has. run_letters B.initial (u ++ repeated v l.before) l.state l.flag l.enters a (Contains-append_left u (repeated v l.before) a has),
    by l.turns l.some_turn l.cycles,
  )
    where
      by : (n : ℕ) → 1 ≤ n → Run B l.state (repeated v n) l.state true → (a : ℕ) → Contains v a → a < length source
      by zero some run a has = absurd (omega arith)
      by (suc n) some run a has = run_letters l.state (v ++ repeated v n) l.state true run a (Contains-append_left v (repeated v n) a has)

  pub word_there : (w : List ℕ) → AcceptsWord B w → AcceptsWord C (map turned w)
  word_there w x = record {
    state = x.state;
    flag = x.flag;
    run = subst (λ p. Run C p (map turned w) x.state x.flag) (sym begins) (run_there B.initial w x.state x.flag x.run);
    ends = accepting_there x.state x.ends;
  }

  pub word_back : (w : List ℕ) → ((a : ℕ) → Contains w a → a < length source) → AcceptsWord C (map turned w) → AcceptsWord B w
  word_back w few x = record {
    state = x.state;
    flag = x.flag;
    run = run_back B.initial w x.state x.flag few (subst (λ p. Run C p (map turned w) x.state x.flag) begins x.run);
    ends = accepting_back x.state x.ends;
  }

  pub word_letters : (w : List ℕ) → AcceptsWord B w → (a : ℕ) → Contains w a → a < length source
  word_letters w x = run_letters B.initial w x.state x.flag x.run

-- ---- both orders

-- what each text of a joined list is found in is found of all of them
covered_by : (first second target : List (List ℕ)) → All (λ text. list_any (same_text text) target ≡ true) first → All (λ text. list_any (same_text text) target ≡ true) second
    → All (λ text. list_any (same_text text) target ≡ true) (joined_labels first second)
covered_by first second target one two =
    let news = λ (label : List ℕ). not (list_any (same_text label) first) in
    let Found = λ (text : List ℕ). (list_any (same_text text) target ≡ true) in
    All-append Found first (filter news second) one (All-filter news Found second two)

-- every letter of the word is below n
abbrev AreBelow : ℕ → List ℕ → Type 0
AreBelow n w = (a : ℕ) → Contains w a → a < n

-- an inclusion over the one list of labels gives one over the other
carried_over : (n : ℕ) (f : ℕ → ℕ) (C D E F : Automaton) (m : Mode) → Includes C D m
    → ((u v : List ℕ) → AcceptsLasso E u v → AcceptsLasso C (map f u) (map f v))
    → ((u v : List ℕ) → AcceptsLasso E u v → AreBelow n u × AreBelow n v)
    → ((u v : List ℕ) → AreBelow n u → AreBelow n v → AcceptsLasso D (map f u) (map f v) → AcceptsLasso F u v)
    → ((w : List ℕ) → AcceptsWord E w → AcceptsWord C (map f w))
    → ((w : List ℕ) → AcceptsWord E w → AreBelow n w)
    → ((w : List ℕ) → AreBelow n w → AcceptsWord D (map f w) → AcceptsWord F w)
    → Includes E F m
carried_over n f C D E F Buchi is over letters back over_word letters_of_word back_word = λ u v l. let few = letters u v l in back u v few.0 few.1 (is (map f u) (map f v) (over u v l))
carried_over n f C D E F Finite is over letters back over_word letters_of_word back_word = λ w x. back_word w (letters_of_word w x) (is (map f w) (over_word w x))

pub join_order_does_not_matter : JoinOrderDoesNotMatter
join_order_does_not_matter text other limits bounds one two joined converse mode r s j c includes =
    let L = joined_labels one.labels two.labels in
    let M = joined_labels two.labels one.labels in
    let fit_one = (labels_fit text limits one r).1 in
    let fit_two = (labels_fit other bounds two s).1 in
    let own : one.auto.labels ≤ length one.labels = omega (arith, read_labels text limits one r) in
    let also : two.auto.labels ≤ length two.labels = omega (arith, read_labels other bounds two s) in
    let one_in_L = first_found one.labels two.labels in
    let two_in_L = second_found one.labels two.labels in
    let one_in_M = second_found two.labels one.labels in
    let two_in_M = first_found two.labels one.labels in
    let M_in_L = covered_by two.labels one.labels L two_in_L one_in_L in
    let apart = joined_different two.labels one.labels fit_two fit_one in
    let first = subst (λ l. IsRelabelled one.auto one.labels l joined.first) j.labels j.first in
    let second = subst (λ l. IsRelabelled two.auto two.labels l joined.second) j.labels j.second in
    let back_first = subst (λ l. IsRelabelled two.auto two.labels l converse.first) c.labels c.first in
    let back_second = subst (λ l. IsRelabelled one.auto one.labels l converse.second) c.labels c.second in
    carried_over (length M) (λ a. place_in same_text L (get_or M a [])) joined.first joined.second converse.second converse.first mode includes
    (lasso_there one.auto one.labels M L r.reading.auto.valid own one_in_M one_in_L M_in_L apart converse.second joined.first back_second first)
    (lasso_letters one.auto one.labels M L r.reading.auto.valid own one_in_M one_in_L M_in_L apart converse.second joined.first back_second first)
    (lasso_back two.auto two.labels M L s.reading.auto.valid also two_in_M two_in_L M_in_L apart converse.first joined.second back_first second)
    (word_there one.auto one.labels M L r.reading.auto.valid own one_in_M one_in_L M_in_L apart converse.second joined.first back_second first)
    (word_letters one.auto one.labels M L r.reading.auto.valid own one_in_M one_in_L M_in_L apart converse.second joined.first back_second first)
    (word_back two.auto two.labels M L s.reading.auto.valid also two_in_M two_in_L M_in_L apart converse.first joined.second back_first second)
