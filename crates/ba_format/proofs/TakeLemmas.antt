-- Lemmas on a line that is taken, and on one that is not.
use Rattle.std.proofs.Common.{◌≡◌, ℕ, ◌<◌, ◌≤◌, Bool, true, false, eqb, ltb, leb, ◌&&◌, List, [], ◌∷◌, ◌++◌, length, map, fold, None, Some, Result, Ok, Err, refl, sym, ap, subst, ◌∙◌, arith, if◌then◌else◌}
use Rattle.std.specs.List.{list_any, list_all, flat_map}
use Rattle.std.proofs.lemmas.List.{map-append, length-append, length-map}
use Rattle.std.proofs.lemmas.List.Sums.{fold-append}
use Rattle.std.proofs.lemmas.List.Folds.{list_all-append}
use Rattle.std.proofs.lemmas.Bool.Decides.{nat_tests}
use Rattle.auto_core.specs.Automaton.{trans}
use Rattle.ba_format.specs.declared.parts.BaKind.TheVariants.{TwoInitial, TooManyStates, TooManyLabels, TooManyTransitions}
use Rattle.ba_format.specs.declared.parts.Limits.{Limits}
use Rattle.ba_format.specs.declared.draft.Opening.{Opening}
use Rattle.ba_format.specs.declared.draft.Opening.TheVariants.{Nothing, OneState, States, Transitions}
use Rattle.ba_format.specs.declared.draft.NotTaken.{NotTaken}
use Rattle.ba_format.specs.declared.draft.NotTaken.TheVariants.{Line, Memory}
use Rattle.ba_format.specs.declared.draft.Draft.{Draft}
use Rattle.ba_format.specs.Sight.{same_text, noted, place_in}
use Rattle.ba_format.specs.Grammar.{LineContent, StateLine, TransitionLine, content_of, own_fault}
use Rattle.ba_format.specs.Faults.{states_in, names_of, labels_of, transitions_of, same_trans, state_lines, accepting_names, accepting_numbers, is_state_line, opens_twice, later_fault}
use Rattle.std.specs.Option.{option_or}
use Rattle.ba_format.specs.Draft.{Takes, TakesLine, trans_with, Opens, Stands, Fits, TellsKind, PastLimit, NotesState, NotesTransition, after_state, accepting_after}
use Rattle.ba_format.proofs.DraftLemmas.{AllFound, AllFound-noted, AllFound-right, flat-push, numbers-all, names-push, labels-push, transitions-push, number-all, found-noted}

-- ---- which fault a line has after others

ltb_yes : (m n : ℕ) → m < n → ltb m n ≡ true
ltb_yes m n h = grind (arith, nat_tests)

ltb_not : (m n : ℕ) → n ≤ m → ltb m n ≡ false
ltb_not m n h = grind (arith, nat_tests)

module _ (limits : Limits) (entries : List LineContent) (entry : LineContent) where
  after : List LineContent
  after = entries ++ entry ∷ []

  pub fault_twice : opens_twice entries entry ≡ true → later_fault limits entries entry ≡ Some TwoInitial
  fault_twice e = rw e refl

  pub fault_states : opens_twice entries entry ≡ false → limits.states < length (names_of (entries ++ entry ∷ [])) → later_fault limits entries entry ≡ Some TooManyStates
  fault_states e h = rw (e, ltb_yes limits.states (length (names_of (entries ++ entry ∷ []))) h) refl

  pub fault_labels : opens_twice entries entry ≡ false → length (names_of (entries ++ entry ∷ [])) ≤ limits.states → limits.labels < length (labels_of (entries ++ entry ∷ [])) → later_fault limits entries entry ≡ Some TooManyLabels
  fault_labels e s h = rw (e, ltb_not limits.states (length (names_of (entries ++ entry ∷ []))) s, ltb_yes limits.labels (length (labels_of (entries ++ entry ∷ []))) h) refl

  pub fault_transitions : opens_twice entries entry ≡ false → length (names_of (entries ++ entry ∷ [])) ≤ limits.states → length (labels_of (entries ++ entry ∷ [])) ≤ limits.labels → limits.transitions < length (transitions_of (entries ++ entry ∷ [])) → later_fault limits entries entry ≡ Some TooManyTransitions
  fault_transitions e s l h = rw (e, ltb_not limits.states (length (names_of (entries ++ entry ∷ []))) s, ltb_not limits.labels (length (labels_of (entries ++ entry ∷ []))) l, ltb_yes limits.transitions (length (transitions_of (entries ++ entry ∷ []))) h) refl

  pub no_fault : opens_twice entries entry ≡ false → Fits limits (entries ++ entry ∷ []) → later_fault limits entries entry ≡ None
  no_fault e f = rw (e, ltb_not limits.states (length (names_of (entries ++ entry ∷ []))) f.states, ltb_not limits.labels (length (labels_of (entries ++ entry ∷ []))) f.labels, ltb_not limits.transitions (length (transitions_of (entries ++ entry ∷ []))) f.transitions) refl

  pub past_states : (n : ℕ) (e : NotTaken) → opens_twice entries entry ≡ false → n ≤ length (names_of (entries ++ entry ∷ [])) → PastLimit TooManyStates limits.states n e → TellsKind (later_fault limits entries entry) e
  past_states n (Line kind) one h p = fault_states one (omega (arith, p.1)) ∙ ap Some (sym p.0)
  past_states n Memory one h p = tt

  pub past_labels : (e : NotTaken) → opens_twice entries entry ≡ false → length (names_of (entries ++ entry ∷ [])) ≤ limits.states → PastLimit TooManyLabels limits.labels (length (labels_of (entries ++ entry ∷ []))) e → TellsKind (later_fault limits entries entry) e
  past_labels (Line kind) one s p = fault_labels one s p.1 ∙ ap Some (sym p.0)
  past_labels Memory one s p = tt

-- ---- how the lines begin

all_state_lines : (entries : List LineContent) (entry : LineContent) → list_all is_state_line (entries ++ entry ∷ []) ≡ (list_all is_state_line entries && is_state_line entry)
all_state_lines entries entry = list_all-append is_state_line entries (entry ∷ []) ∙ ap (λ b. list_all is_state_line entries && b) (and_true (is_state_line entry))
  where
    and_true : (b : Bool) → (b && true) ≡ b
    and_true true = refl
    and_true false = refl

opens-state : (o : Opening) (entries : List LineContent) (name : List ℕ) → Opens o entries → Opens (after_state o) (entries ++ StateLine name ∷ [])
opens-state Nothing entries name h = (ap (λ es. length (es ++ StateLine name ∷ [])) h, ap (λ es. list_all is_state_line (es ++ StateLine name ∷ [])) h)
opens-state OneState entries name h = (omega (arith, h.0, length-append entries (StateLine name ∷ [])), all_state_lines entries (StateLine name) ∙ ap (λ b. b && true) h.1)
opens-state States entries name h = (omega (arith, h.0, length-append entries (StateLine name ∷ [])), all_state_lines entries (StateLine name) ∙ ap (λ b. b && true) h.1)
opens-state Transitions entries name h = (omega (arith, h.0, length-append entries (StateLine name ∷ [])), all_state_lines entries (StateLine name) ∙ ap (λ b. b && true) h.1)

opens-transition : (entries : List LineContent) (label source target : List ℕ) → Opens Transitions (entries ++ TransitionLine label source target ∷ [])
opens-transition entries label source target =
    (omega (arith, length-append entries (TransitionLine label source target ∷ [])), all_state_lines entries (TransitionLine label source target) ∙ and_false (list_all is_state_line entries))
  where
    and_false : (b : Bool) → (b && false) ≡ false
    and_false true = refl
    and_false false = refl

-- two or more state lines alone stand before a transition line just where the draft says so
pub opens_twice-states : (entries : List LineContent) (label source target : List ℕ) → Opens States entries → opens_twice entries (TransitionLine label source target) ≡ true
opens_twice-states entries label source target h = ap (λ b. b && leb 2 (length entries)) h.1 ∙ enough (length entries) h.0
  where
    enough : (n : ℕ) → 2 ≤ n → (true && leb 2 n) ≡ true
    enough n h = grind (arith, nat_tests)

pub opens_twice-other : (o : Opening) (entries : List LineContent) (label source target : List ℕ) → Opens o entries → (o ≡ States → ⊥) → opens_twice entries (TransitionLine label source target) ≡ false
opens_twice-other Nothing entries label source target h n = ap (λ es. list_all is_state_line es && leb 2 (length es)) h
opens_twice-other OneState entries label source target h n = ap (λ b. b && leb 2 (length entries)) h.1 ∙ ap (λ k. true && leb 2 k) h.0
opens_twice-other States entries label source target h n = absurd (n refl)
opens_twice-other Transitions entries label source target h n = ap (λ b. b && leb 2 (length entries)) h.1

-- ---- accepting states

names_in_states : (entries : List LineContent) (seen : List (List ℕ)) → AllFound seen (flat_map states_in entries) → AllFound seen (flat_map state_lines entries)
names_in_states [] seen h = tt
names_in_states (StateLine name ∷ entries) seen h = (h.0, names_in_states entries seen h.1)
names_in_states (TransitionLine label source target ∷ entries) seen h = names_in_states entries seen h.1.1

pub accepting-found : (entries : List LineContent) → AllFound (names_of entries) (accepting_names entries)
accepting-found [] = tt
accepting-found (first ∷ entries) = names_in_states entries _ (AllFound-right (states_in first) (flat_map states_in entries) _ (AllFound-noted (flat_map states_in (first ∷ entries)) []))

accepting_names-push : (first : LineContent) (entries : List LineContent) (entry : LineContent) → accepting_names ((first ∷ entries) ++ entry ∷ []) ≡ accepting_names (first ∷ entries) ++ state_lines entry
accepting_names-push first entries entry = flat-push state_lines entries entry

accepting-push : (first : LineContent) (rest : List LineContent) (entry : LineContent)
    → accepting_numbers ((first ∷ rest) ++ entry ∷ []) ≡ fold (noted (λ a b. eqb a b)) (accepting_numbers (first ∷ rest)) (map (place_in same_text (names_of ((first ∷ rest) ++ entry ∷ []))) (state_lines entry))
accepting-push first rest entry =
    let entries = first ∷ rest in
    let N = names_of (entries ++ entry ∷ []) in
    let eq : ℕ → ℕ → Bool = λ a b. eqb a b in
    let kept : map (place_in same_text N) (accepting_names entries) ≡ map (place_in same_text (names_of entries)) (accepting_names entries) =
    (λ i. map (place_in same_text (names-push entries entry i)) (accepting_names entries)) ∙ numbers-all (accepting_names entries) (states_in entry) (names_of entries) (accepting-found entries) in
    ap (λ l. fold (noted eq) [] (map (place_in same_text N) l)) (accepting_names-push first rest entry)
    ∙ ap (fold (noted eq) []) (map-append (place_in same_text N) (accepting_names entries) (state_lines entry))
    ∙ fold-append (noted eq) [] (map (place_in same_text N) (accepting_names entries)) (map (place_in same_text N) (state_lines entry))
    ∙ ap (λ l. fold (noted eq) (fold (noted eq) [] l) (map (place_in same_text N) (state_lines entry))) kept

some_lines : (entries : List LineContent) (entry : LineContent) → 0 < length entries
    → accepting_numbers (entries ++ entry ∷ []) ≡ fold (noted (λ a b. eqb a b)) (accepting_numbers entries) (map (place_in same_text (names_of (entries ++ entry ∷ []))) (state_lines entry))
some_lines [] entry h = absurd (omega arith)
some_lines (first ∷ rest) entry h = accepting-push first rest entry

accepting-state : (o : Opening) (entries : List LineContent) (name : List ℕ) (keys : List ℕ) (at : ℕ) → Opens o entries → keys ≡ accepting_numbers entries
    → at ≡ place_in same_text (names_of (entries ++ StateLine name ∷ [])) name → accepting_after o keys at ≡ accepting_numbers (entries ++ StateLine name ∷ [])
accepting-state Nothing entries name keys at h k a = k ∙ ap accepting_numbers h ∙ ap (λ es. accepting_numbers (es ++ StateLine name ∷ [])) (sym h)
accepting-state OneState entries name keys at h k a = (λ i. noted (λ a b. eqb a b) (k i) (a i)) ∙ sym (some_lines entries (StateLine name) (omega (arith, h.0)))
accepting-state States entries name keys at h k a = (λ i. noted (λ a b. eqb a b) (k i) (a i)) ∙ sym (some_lines entries (StateLine name) (omega (arith, h.0)))
accepting-state Transitions entries name keys at h k a = (λ i. noted (λ a b. eqb a b) (k i) (a i)) ∙ sym (some_lines entries (StateLine name) h.0)

accepting-transition : (entries : List LineContent) (label source target : List ℕ) → accepting_numbers (entries ++ TransitionLine label source target ∷ []) ≡ accepting_numbers entries
accepting-transition [] label source target = refl
accepting-transition (first ∷ rest) label source target = accepting-push first rest (TransitionLine label source target)

-- ---- a state line

-- what numbering a text says
abbrev pub Numbers : List (List ℕ) → List (List ℕ) → List ℕ → ℕ → ℕ → Type 0
Numbers old new text at limit = length old ≤ limit → (new ≡ noted same_text old text) × (at ≡ place_in same_text new text) × (length new ≤ limit)

pub state_taken : (limits : Limits) (entries : List LineContent) (name : List ℕ) (old : Draft) (names : List (List ℕ)) (at : ℕ) (new : Draft) → Stands old entries → Fits limits entries
    → Numbers old.names names name at limits.states → NotesState (record old { names = names }) at new
    → (later_fault limits entries (StateLine name) ≡ None) × Stands new (entries ++ StateLine name ∷ []) × Fits limits (entries ++ StateLine name ∷ [])
state_taken limits entries name old names at new s f number note =
    let entry = StateLine name in
    let after = entries ++ entry ∷ [] in
    let h = number (omega (arith, ap length s.names, f.states)) in
    let names_after : names ≡ names_of after = h.0 ∙ ap (λ l. noted same_text l name) s.names ∙ sym (names-push entries entry) in
    let labels_after : labels_of after ≡ labels_of entries = labels-push entries entry in
    let transitions_after : transitions_of after ≡ transitions_of entries = transitions-push entries entry in
    let number_after : at ≡ place_in same_text (names_of after) name = h.1 ∙ ap (λ l. place_in same_text l name) names_after in
    let fits : Fits limits after =
    record {
      states = omega (arith, ap length names_after, h.2);
      labels = omega (arith, ap length labels_after, f.labels);
      transitions = omega (arith, ap length transitions_after, f.transitions);
    } in (
      no_fault limits entries entry refl fits,
      record {
        names = note.names ∙ names_after;
        labels = note.labels ∙ s.labels ∙ sym labels_after;
        transitions = ap (λ t. map trans_with t.keys) note.transitions ∙ s.transitions ∙ sym transitions_after;
        accepting = note.accepting ∙ accepting-state old.opening entries name old.accepting.keys at s.opening s.accepting number_after;
        opening = subst (λ o. Opens o after) (sym note.opening) (opens-state old.opening entries name s.opening);
      },
      fits,
    )

pub state_not_taken : (limits : Limits) (entries : List LineContent) (name : List ℕ) (old : Draft) (e : NotTaken) → Stands old entries → Fits limits entries
    → (length old.names ≤ limits.states → PastLimit TooManyStates limits.states (length (noted same_text old.names name)) e)
    → TellsKind (later_fault limits entries (StateLine name)) e
state_not_taken limits entries name old e s f p =
    let past = p (omega (arith, ap length s.names, f.states)) in
    let known = ap length (names-push entries (StateLine name)) in
    let same = ap (λ l. length (noted same_text l name)) s.names in
    past_states limits entries (StateLine name) (length (noted same_text old.names name)) e refl (omega (arith, known, same)) past

-- ---- a transition line

length-noted : (text : List ℕ) (seen : List (List ℕ)) → length seen ≤ length (noted same_text seen text)
length-noted text seen = by (list_any (same_text text) seen)
  where
    by : (b : Bool) → length seen ≤ length (if b then seen else seen ++ text ∷ [])
    by true = omega arith
    by false = omega (arith, length-append seen (text ∷ []))

module _ (limits : Limits) (entries : List LineContent) (label source target : List ℕ) (old : Draft) (s : Stands old entries) (f : Fits limits entries) (one : old.opening ≡ States → ⊥) where
  entry' : LineContent
  entry' = TransitionLine label source target

  once : opens_twice entries (TransitionLine label source target) ≡ false
  once = opens_twice-other old.opening entries label source target s.opening one

  pub source_not_taken : (e : NotTaken) → (length old.names ≤ limits.states → PastLimit TooManyStates limits.states (length (noted same_text old.names source)) e)
      → TellsKind (later_fault limits entries (TransitionLine label source target)) e
  source_not_taken e p =
      let past = p (omega (arith, ap length s.names, f.states)) in
      let known = ap length (names-push entries (TransitionLine label source target)) in
      let same = ap (λ l. length (noted same_text l source)) s.names in
      past_states limits entries (TransitionLine label source target) (length (noted same_text old.names source)) e once (omega (arith, known, same, length-noted target (noted same_text (names_of entries) source))) past

  module _ (names1 : List (List ℕ)) (p : ℕ) (n1 : Numbers old.names names1 source p limits.states) where
    first : (names1 ≡ noted same_text old.names source) × (p ≡ place_in same_text names1 source) × (length names1 ≤ limits.states)
    first = n1 (omega (arith, ap length s.names, f.states))

    names_two : noted same_text names1 target ≡ names_of (entries ++ TransitionLine label source target ∷ [])
    names_two = ap (λ l. noted same_text l target) (first.0 ∙ ap (λ l. noted same_text l source) s.names) ∙ sym (names-push entries (TransitionLine label source target))

    pub target_not_taken : (e : NotTaken) → (length names1 ≤ limits.states → PastLimit TooManyStates limits.states (length (noted same_text names1 target)) e)
        → TellsKind (later_fault limits entries (TransitionLine label source target)) e
    target_not_taken e q = past_states limits entries (TransitionLine label source target) (length (noted same_text names1 target)) e once (omega (arith, ap length names_two)) (q first.2)

    module _ (names2 : List (List ℕ)) (q : ℕ) (n2 : Numbers names1 names2 target q limits.states) where
      second : (names2 ≡ noted same_text names1 target) × (q ≡ place_in same_text names2 target) × (length names2 ≤ limits.states)
      second = n2 first.2

      names_after : names2 ≡ names_of (entries ++ TransitionLine label source target ∷ [])
      names_after = second.0 ∙ names_two

      states_fit : length (names_of (entries ++ TransitionLine label source target ∷ [])) ≤ limits.states
      states_fit = omega (arith, ap length names_after, second.2)

      labels_one : noted same_text old.labels label ≡ labels_of (entries ++ TransitionLine label source target ∷ [])
      labels_one = ap (λ l. noted same_text l label) s.labels ∙ sym (labels-push entries (TransitionLine label source target))

      pub label_not_taken : (e : NotTaken) → (length old.labels ≤ limits.labels → PastLimit TooManyLabels limits.labels (length (noted same_text old.labels label)) e)
          → TellsKind (later_fault limits entries (TransitionLine label source target)) e
      label_not_taken e p' =
          past_labels limits entries (TransitionLine label source target) e once states_fit
          (subst (λ n. PastLimit TooManyLabels limits.labels n e) (ap length labels_one) (p' (omega (arith, ap length s.labels, f.labels))))

      module _ (labels1 : List (List ℕ)) (a : ℕ) (n3 : Numbers old.labels labels1 label a limits.labels) (new : Draft)
          (note : NotesTransition (record old { names = names2; labels = labels1 }) (p, a, q) new) where
        third : (labels1 ≡ noted same_text old.labels label) × (a ≡ place_in same_text labels1 label) × (length labels1 ≤ limits.labels)
        third = n3 (omega (arith, ap length s.labels, f.labels))

        labels_after : labels1 ≡ labels_of (entries ++ TransitionLine label source target ∷ [])
        labels_after = third.0 ∙ labels_one

        labels_fit : length (labels_of (entries ++ TransitionLine label source target ∷ [])) ≤ limits.labels
        labels_fit = omega (arith, ap length labels_after, third.2)

        source_number : p ≡ place_in same_text (names_of (entries ++ TransitionLine label source target ∷ [])) source
        source_number =
            first.1
            ∙ sym (number-all source (target ∷ []) names1 (subst (λ l. list_any (same_text source) l ≡ true) (sym first.0) (found-noted source old.names)))
            ∙ ap (λ l. place_in same_text l source) names_two

        transitions_after : map trans_with new.transitions.keys ≡ transitions_of (entries ++ TransitionLine label source target ∷ [])
        transitions_after =
            note.transitions
            ∙ (λ i.
            noted same_trans (s.transitions i)
            (trans (source_number i) ((third.1 ∙ ap (λ l. place_in same_text l label) labels_after) i) ((second.1 ∙ ap (λ l. place_in same_text l target) names_after) i)))
            ∙ sym (transitions-push entries (TransitionLine label source target))

        count_after : length new.transitions.keys ≡ length (transitions_of (entries ++ TransitionLine label source target ∷ []))
        count_after = sym (length-map new.transitions.keys trans_with) ∙ ap length transitions_after

        pub transition_not_taken : limits.transitions < length new.transitions.keys → later_fault limits entries (TransitionLine label source target) ≡ Some TooManyTransitions
        transition_not_taken h = fault_transitions limits entries (TransitionLine label source target) once states_fit labels_fit (omega (arith, count_after))

        pub transition_taken : length new.transitions.keys ≤ limits.transitions
            → (later_fault limits entries (TransitionLine label source target) ≡ None)
            × Stands new (entries ++ TransitionLine label source target ∷ []) × Fits limits (entries ++ TransitionLine label source target ∷ [])
        transition_taken h =
            let fits : Fits limits (entries ++ TransitionLine label source target ∷ []) =
            record { states = states_fit; labels = labels_fit; transitions = omega (arith, count_after) } in (
              no_fault limits entries (TransitionLine label source target) once fits,
              record {
                names = note.names ∙ names_after;
                labels = note.labels ∙ labels_after;
                transitions = transitions_after;
                accepting = ap (λ t. t.keys) note.accepting ∙ s.accepting ∙ sym (accepting-transition entries label source target);
                opening = subst (λ o. Opens o (entries ++ TransitionLine label source target ∷ [])) (sym note.opening) (opens-transition entries label source target);
              },
              fits,
            )

-- ---- any line

taken_by : (limits : Limits) (entries : List LineContent) (line : List ℕ) (draft : Draft) (r : Result (Unit {0}) NotTaken) → own_fault line ≡ None → Takes limits entries (content_of line) draft r → TakesLine limits entries line draft r
taken_by limits entries line draft (Ok u) own h = (ap (λ o. option_or o (later_fault limits entries (content_of line))) own ∙ h.0, h.1, h.2)
taken_by limits entries line draft (Err (Line kind)) own h = ap (λ o. option_or o (later_fault limits entries (content_of line))) own ∙ h
taken_by limits entries line draft (Err Memory) own h = tt

-- a line without a fault of its own
pub line_taken : (limits : Limits) (entries : List LineContent) (line : List ℕ) (entry : LineContent) (draft : Draft) (r : Result (Unit {0}) NotTaken) → own_fault line ≡ None → entry ≡ content_of line
    → Takes limits entries entry draft r → TakesLine limits entries line draft r
line_taken limits entries line entry draft r own e h = taken_by limits entries line draft r own (subst (λ x. Takes limits entries x draft r) e h)
