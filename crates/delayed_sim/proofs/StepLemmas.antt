-- The automaton of the places, as it is made.
use Rattle.std.proofs.Common.{◌≡◌, ℕ, ◌+◌, ◌-◌, ◌*◌, ◌/◌, ◌%◌, ◌^◌, ◌<◌, ◌≤◌, ◌↔◌, inl, inr, List, [], ◌∷◌, ◌++◌, length, get_or, Contains, All, drop, refl, sym, ap, ◌∙◌, subst, arith, length-append}
use Rattle.std.proofs.lemmas.Bool.{cases_eq, cases_order}
use Rattle.std.proofs.lemmas.Nat.{div-add-mod', div-mul-add, mod-mul-add, mul-add-lt, mod_below, div_below, same_from_place}
use Rattle.std.proofs.lemmas.List.{get_or_default, get_or_push, get_or_append_left}
use Rattle.std.proofs.lemmas.List.Quantifiers.{all_pairs_push}
use Rattle.std.proofs.lemmas.List.Elements.{Contains-push, Contains-push_cases, Contains-append_left, Contains-get_or, All-contains, All-push, All-cons}
use Rattle.std.proofs.lemmas.List.Sorted.{Contains-permutation, IsPermutation-sym}
use Rattle.std.proofs.Math.Nat.{mul_comm}
use Rattle.auto_core.specs.Automaton.{Automaton, IsAutomaton, IsInRange, IsBefore, Moves, IsAccepting, trans, trans_at}
use Rattle.auto_core.specs.declared.parts.Trans.{Trans}
use Rattle.auto_core.specs.Build.{IsBuilt}
use Rattle.auto_core.specs.Parts.{AreParts}
use Rattle.auto_core.specs.Delayed.{IsTripleWord, Announces}
use Rattle.auto_core.proofs.MemberLemmas.{no_repeat}
use Rattle.auto_core.proofs.PathLemmas.{none_in_nil}
use Rattle.auto_core.proofs.MoveLemmas.{number_of, move_at, move_in_range}
use Rattle.delayed_sim.specs.Words.{word_number, digits, place_of, ArePlaces}
use Rattle.delayed_sim.specs.Steps.{step_announcing, step_at, AreSteps, AreAcceptingPlaces}
use Rattle.delayed_sim.proofs.AheadLemmas.{word_after}
use Rattle.delayed_sim.proofs.FewLemmas.{IsSmall, place_rises}
use Rattle.delayed_sim.proofs.WordLemmas.{number_push, number_one, number-digits, length-digits, digits_below, power_zero}
use Rattle.delayed_sim.proofs.PlaceLemmas.{letters_before, word_below, place_is, place_below, place_state}

not_itself : (t u : Trans) → t.source ≡ u.source → t.label ≡ u.label → t.target ≡ u.target → IsBefore t u → ⊥
not_itself t u e f g h = omega arith

module _ (A : Automaton) (n : ℕ) (valid : IsAutomaton A) (some : 1 ≤ n) (small : IsSmall A n) (steps : List Trans) (accepting : List ℕ) (moves : AreSteps A (A.labels ^ (n - 1)) steps (length A.transitions * A.labels ^ (n - 1))) (ends : AreAcceptingPlaces A (A.labels ^ (n - 1)) accepting (A.states * A.labels ^ (n - 1))) where
  in_range : (i : ℕ) → i < length A.transitions → IsInRange A.states A.labels (trans_at A i)
  in_range i i_in = valid.in_range i (trans 0 0 0) i_in

  number_in : (k : ℕ) → k < length steps → k / A.labels ^ (n - 1) < length A.transitions
  number_in k k_in = div_below k (A.labels ^ (n - 1)) (length A.transitions) small.words (omega (arith, moves.0))

  -- the word before a move
  ahead_below : (a c : ℕ) → a < A.labels → c < A.labels ^ (n - 1) → (a * A.labels ^ (n - 1) + c) / A.labels < A.labels ^ (n - 1)
  ahead_below a c a_in c_in = div_below (a * A.labels ^ (n - 1) + c) A.labels (A.labels ^ (n - 1)) small.labels (mul-add-lt a (A.labels ^ (n - 1)) c A.labels a_in c_in)

  source_below : (t : Trans) (c : ℕ) → IsInRange A.states A.labels t → c < A.labels ^ (n - 1) → (step_announcing A.labels (A.labels ^ (n - 1)) t c).source < A.states * A.labels ^ (n - 1)
  source_below t c range c_in =
      let below = mul-add-lt t.source (A.labels ^ (n - 1)) ((t.label * A.labels ^ (n - 1) + c) / A.labels) A.states range.0 (ahead_below t.label c range.2 c_in) in
      omega (arith, mul_comm (A.labels ^ (n - 1)) A.states)

  target_below : (t : Trans) (c : ℕ) → IsInRange A.states A.labels t → c < A.labels ^ (n - 1) → (step_announcing A.labels (A.labels ^ (n - 1)) t c).target < A.states * A.labels ^ (n - 1)
  target_below t c range c_in =
      let below = mul-add-lt t.target (A.labels ^ (n - 1)) c A.states range.1 c_in in
      omega (arith, mul_comm (A.labels ^ (n - 1)) A.states)

  next_below : (k : ℕ) → k % A.labels ^ (n - 1) < A.labels ^ (n - 1)
  next_below k = mod_below k (A.labels ^ (n - 1)) small.words

  -- moves with different numbers differ
  step_one : (i j : ℕ) → i < length steps → j < length steps → step_at A (A.labels ^ (n - 1)) i ≡ step_at A (A.labels ^ (n - 1)) j → i ≡ j
  step_one i j i_in j_in e =
      let v = A.labels ^ (n - 1) in
      let t = trans_at A (i / v) in
      let u = trans_at A (j / v) in
      let t_in = in_range (i / v) (number_in i i_in) in
      let u_in = in_range (j / v) (number_in j j_in) in
      let labels : t.label ≡ u.label = ap (λ (x : Trans). x.label) e in
      let targets = same_from_place t.target (i % v) u.target (j % v) v (next_below i) (next_below j) (ap (λ (x : Trans). x.target) e) in
      let sources = same_from_place t.source ((t.label * v + i % v) / A.labels) u.source ((u.label * v + j % v) / A.labels) v (ahead_below t.label (i % v) t_in.2 (next_below i)) (ahead_below u.label (j % v) u_in.2 (next_below j)) (ap (λ (x : Trans). x.source) e) in
      let rows : i / v ≡ j / v = elim (cases_order (i / v) (j / v)) [
        | inl same ↦ same
        | inr (inl lt) ↦ absurd (not_itself t u sources.0 labels targets.0 (valid.in_order (i / v) (j / v) lt (number_in j j_in)))
        | inr (inr gt) ↦ absurd (not_itself u t (sym sources.0) (sym labels) (sym targets.0) (valid.in_order (j / v) (i / v) gt (number_in i i_in)))
      ] in
      sym (div-add-mod' i v) ∙ ap (λ x. x * v + i % v) rows ∙ ap (λ y. j / v * v + y) targets.1 ∙ div-add-mod' j v

  pub place_parts : AreParts (A.states * A.labels ^ (n - 1)) A.labels (A.initial * A.labels ^ (n - 1)) steps accepting
  place_parts = record {
    few = let upto = small.steps in omega (arith, moves.0);
    in_states = (
      first_below,
      λ k d k_in.
          let at = moves.1 k d (omega (arith, moves.0)) in
          let range = in_range (k / A.labels ^ (n - 1)) (number_in k k_in) in
          let P : Trans → Type 0 = λ t. (t.source < A.states * A.labels ^ (n - 1)) × (t.target < A.states * A.labels ^ (n - 1)) in
          subst P (sym at) (source_below (trans_at A (k / A.labels ^ (n - 1))) (k % A.labels ^ (n - 1)) range (next_below k), target_below (trans_at A (k / A.labels ^ (n - 1))) (k % A.labels ^ (n - 1)) range (next_below k)),
      λ k d k_in. ((ends.each (get_or accepting k d)).0 (k, k_in, sym (get_or_default accepting k d (get_or accepting k d) k_in))).0,
    );
    in_labels = λ k d k_in.
        let at = moves.1 k d (omega (arith, moves.0)) in
        let P : Trans → Type 0 = λ t. t.label < A.labels in
        subst P (sym at) (in_range (k / A.labels ^ (n - 1)) (number_in k k_in)).2;
    no_transition_twice = λ (i, j, differ, i_in, j_in, e).
        let d = trans 0 0 0 in
        differ (step_one i j i_in j_in (sym (moves.1 i d (omega (arith, moves.0))) ∙ e d ∙ moves.1 j d (omega (arith, moves.0))));
    no_state_twice = no_repeat (λ x y. x < y) (λ x lt. omega arith) accepting ends.in_order;
  }
    where
      first_below : A.initial * A.labels ^ (n - 1) < A.states * A.labels ^ (n - 1)
      first_below =
          let first = place_rises A.initial A.states (A.labels ^ (n - 1)) 0 0 valid.initial_is_state small.words in
          omega arith

  module _ (L : Automaton) (built : IsBuilt (A.states * A.labels ^ (n - 1)) A.labels (A.initial * A.labels ^ (n - 1)) steps accepting L) where
    move_of_step : (x a y : ℕ) → Contains steps (trans x a y) → Moves L x a y
    move_of_step x a y h = Contains-permutation steps L.transitions (trans x a y) built.transitions_given h

    step_of_move : (x a y : ℕ) → Moves L x a y → Contains steps (trans x a y)
    step_of_move x a y h = Contains-permutation L.transitions steps (trans x a y) (IsPermutation-sym steps L.transitions built.transitions_given) h

    -- the number of a word with one letter more at either end
    ends_meet : (b : List ℕ) (more a : ℕ) (c : List ℕ) → IsTripleWord A.labels n c → Announces b more a c → word_number A.labels b * A.labels + more ≡ a * A.labels ^ (n - 1) + word_number A.labels c
    ends_meet b more a c is_word e =
        sym (number_push A.labels b more) ∙ ap (word_number A.labels) e ∙ ap (λ i. a * A.labels ^ i + word_number A.labels c) (letters_before A.labels n c is_word)

    forth : (b : List ℕ) (p more a : ℕ) (c : List ℕ) (p' : ℕ) → IsTripleWord A.labels n b → more < A.labels → Announces b more a c → Moves A p a p' → Moves L (place_of A.labels p b) a (place_of A.labels p' c)
    forth b p more a c p' is_word lt e move =
        let v = A.labels ^ (n - 1) in
        let (t, t_in, is) = number_of A p a p' move in
        let next = word_after A.labels n b more a c is_word lt e in
        let m = word_number A.labels c in
        let m_in = word_below A.labels n c next in
        let k = t * v + m in
        let k_in : k < length steps = let below = mul-add-lt t v m (length A.transitions) t_in m_in in omega (arith, moves.0, mul_comm v (length A.transitions)) in
        let to = trans (place_of A.labels p b) a (place_of A.labels p' c) in
        let ahead : (a * v + m) / A.labels ≡ word_number A.labels b = ap (λ x. x / A.labels) (sym (ends_meet b more a c next e)) ∙ div-mul-add (word_number A.labels b) A.labels more lt in
        let made : step_announcing A.labels v (trans p a p') m ≡ to =
        ap (λ x. trans (p * v + x) a (p' * v + m)) ahead
        ∙ ap (λ x. trans x a (p' * v + m)) (sym (place_is A.labels n p b is_word))
        ∙ ap (λ y. trans (place_of A.labels p b) a y) (sym (place_is A.labels n p' c next)) in
        let here : step_at A v k ≡ to =
        ap (λ i. step_announcing A.labels v (trans_at A i) (k % v)) (div-mul-add t v m m_in)
        ∙ ap (λ i. step_announcing A.labels v (trans_at A t) i) (mod-mul-add t v m m_in)
        ∙ ap (λ u. step_announcing A.labels v u m) is
        ∙ made in
        move_of_step (place_of A.labels p b) a (place_of A.labels p' c) (k, k_in, moves.1 k to (omega (arith, moves.0)) ∙ here)

    -- The move back from places.
    abbrev MovesBack : List ℕ → ℕ → ℕ → ℕ → Type 0
    MovesBack b p a y = (more : ℕ) × (c : List ℕ) × (p' : ℕ) × (more < A.labels) × Announces b more a c × Moves A p a p' × (place_of A.labels p' c ≡ y)

    back : (b : List ℕ) (p a y : ℕ) → IsTripleWord A.labels n b → Moves L (place_of A.labels p b) a y → MovesBack b p a y
    back b p a y is_word move =
        let v = A.labels ^ (n - 1) in
        let (k, k_in, at) = step_of_move (place_of A.labels p b) a y move in
        let here : step_at A v k ≡ trans (place_of A.labels p b) a y = sym (moves.1 k (trans (place_of A.labels p b) a y) (omega (arith, moves.0))) ∙ at in
        let t = trans_at A (k / v) in
        let t_number = number_in k k_in in
        let range = in_range (k / v) t_number in
        let m = k % v in
        let m_in = next_below k in
        let by : t.label ≡ a = ap (λ (x : Trans). x.label) here in
        let x = t.label * v + m in
        let from = same_from_place t.source (x / A.labels) p (word_number A.labels b) v (ahead_below t.label m range.2 m_in) (word_below A.labels n b is_word) (ap (λ (x : Trans). x.source) here ∙ place_is A.labels n p b is_word) in
        let c = digits A.labels (n - 1) m in
        let c_len : length c ≡ n - 1 = length-digits A.labels (n - 1) m in
        let c_below : All (λ a. a < A.labels) c = digits_below A.labels (n - 1) m m_in in
        let c_is_word : IsTripleWord A.labels n c = (omega arith, c_below) in
        let more = x % A.labels in
        let more_in : more < A.labels = mod_below x A.labels small.labels in
        let b_len : length b ≡ n - 1 = letters_before A.labels n b is_word in
        let number : word_number A.labels (b ++ more ∷ []) ≡ word_number A.labels (a ∷ c) =
        number_push A.labels b more
        ∙ ap (λ i. i * A.labels + more) (sym from.1)
        ∙ div-add-mod' x A.labels
        ∙ ap (λ i. i * v + m) by
        ∙ ap (λ i. a * v + i) (sym (number-digits A.labels (n - 1) m m_in))
        ∙ ap (λ i. a * A.labels ^ i + word_number A.labels c) (sym c_len) in
        let a_in : a < A.labels = subst (λ i. i < A.labels) by range.2 in
        let e : Announces b more a c = number_one A.labels (b ++ more ∷ []) (a ∷ c) (omega (arith, length-append b (more ∷ []))) (All-push (λ a. a < A.labels) b more is_word.1 more_in) (All-cons (λ a. a < A.labels) a c a_in c_below) number in
        let go : Moves A p a t.target = subst (λ i. Moves A i a t.target) from.0 (subst (λ i. Moves A t.source i t.target) by (move_at A (k / v) t_number)) in
        let to : place_of A.labels t.target c ≡ y = place_is A.labels n t.target c c_is_word ∙ ap (λ i. t.target * v + i) (number-digits A.labels (n - 1) m m_in) ∙ ap (λ (x : Trans). x.target) here in
        (more, c, t.target, more_in, e, go, to)

    pub built_places : ArePlaces A n L
    built_places = record {
      valid = built.valid;
      states = built.states_given;
      labels = built.labels_given;
      forth = forth;
      back = back;
      accepting = λ b p is_word. (
        λ h.
            let there = Contains-permutation L.accepting accepting (place_of A.labels p b) (IsPermutation-sym accepting L.accepting built.accepting_given) h in
            subst (λ i. IsAccepting A i) (place_state A.labels n p b is_word) ((ends.each (place_of A.labels p b)).0 there).1,
        λ h.
            let p_in : p < A.states = All-contains (λ q. q < A.states) A.accepting p valid.accepting_in_range h in
            let inside = place_below A.labels n A.states p b is_word p_in in
            let there = (ends.each (place_of A.labels p b)).1 (inside, subst (λ i. IsAccepting A i) (sym (place_state A.labels n p b is_word)) h) in
            Contains-permutation accepting L.accepting (place_of A.labels p b) built.accepting_given there,
      );
    }

-- ---- the lists as they are made

pub steps_none : (A : Automaton) (words : ℕ) → AreSteps A words [] 0
steps_none A words = (refl, λ k d lt. absurd (omega arith))

pub steps_more : (A : Automaton) (words : ℕ) (old new : List Trans) (number : ℕ) (t : Trans) → AreSteps A words old number → new ≡ old ++ t ∷ [] → t ≡ step_at A words number → AreSteps A words new (number + 1)
steps_more A words old new number t h is at = (
  ap length is ∙ length-append old (t ∷ []) ∙ ap (λ n. n + 1) h.0,
  λ k d lt. ap (λ xs. get_or xs k d) is ∙ elim (cases_eq k number) [
    | inl e ↦ ap (λ i. get_or (old ++ t ∷ []) i d) e ∙ get_or_push old t d number h.0 ∙ at ∙ ap (step_at A words) (sym e)
    | inr apart ↦ get_or_append_left old (t ∷ []) d k (omega (arith, h.0)) ∙ h.1 k d (omega arith)
  ],
)

pub ends_none : (A : Automaton) (words : ℕ) → AreAcceptingPlaces A words [] 0
ends_none A words = record {
  each = λ x. (λ h. absurd (none_in_nil x h), λ is. let lt = is.0 in absurd (omega arith));
  in_order = λ i j d lt j_in. absurd (omega arith);
}

pub ends_more : (A : Automaton) (words : ℕ) (old new : List ℕ) (x : ℕ) → AreAcceptingPlaces A words old x → new ≡ old ++ x ∷ [] → IsAccepting A (x / words) → AreAcceptingPlaces A words new (x + 1)
ends_more A words old new x h is accepting = subst (λ l. AreAcceptingPlaces A words l (x + 1)) (sym is) (record {
  each = λ y. (
    λ has. elim (Contains-push_cases old x y has) [
      | inl was ↦ let both = (h.each y).0 was in let lt = both.0 in (omega arith, both.1)
      | inr e ↦ (omega arith, subst (λ z. IsAccepting A (z / words)) e accepting)
    ],
    λ both. elim (cases_eq y x) [
      | inl e ↦ subst (λ z. Contains (old ++ x ∷ []) z) (sym e) (Contains-push old x)
      | inr apart ↦ let lt = both.0 in Contains-append_left old (x ∷ []) y ((h.each y).1 (omega arith, both.1))
    ],
  );
  in_order = all_pairs_push (λ y z. y < z) old x h.in_order (λ k d k_in. ((h.each (get_or old k d)).0 (Contains-get_or old k d k_in)).0);
})

pub ends_same : (A : Automaton) (words : ℕ) (old : List ℕ) (x : ℕ) → AreAcceptingPlaces A words old x → (IsAccepting A (x / words) → ⊥) → AreAcceptingPlaces A words old (x + 1)
ends_same A words old x h none = record {
  each = λ y. (
    λ has. let both = (h.each y).0 has in let lt = both.0 in (omega arith, both.1),
    λ both. elim (cases_eq y x) [
      | inl e ↦ absurd (none (subst (λ z. IsAccepting A (z / words)) e both.1))
      | inr apart ↦ let lt = both.0 in (h.each y).1 (omega arith, both.1)
    ],
  );
  in_order = h.in_order;
}

-- ---- one letter: the places are the states

pub place_alone : (labels p : ℕ) → place_of labels p [] ≡ p
place_alone labels p = grind (arith, power_zero labels)

pub places_alone : (A : Automaton) → IsAutomaton A → ArePlaces A 1 A
places_alone A valid = record {
  valid = valid;
  states = once A.states A.labels;
  labels = refl;
  forth = forth;
  back = back;
  accepting = accepting;
}
  where
    once : (s l : ℕ) → s ≡ s * l ^ (1 - 1)
    once s l = grind (arith, power_zero l)

    forth : (b : List ℕ) (p more a : ℕ) (c : List ℕ) (p' : ℕ) → IsTripleWord A.labels 1 b → more < A.labels → Announces b more a c → Moves A p a p' → Moves A (place_of A.labels p b) a (place_of A.labels p' c)
    forth [] p more a c p' is_word lt e move =
        let none : c ≡ [] = sym (ap (λ (l : List ℕ). drop 1 l) e) in
        subst (λ d. Moves A (place_of A.labels p []) a (place_of A.labels p' d)) (sym none)
        (subst (λ y. Moves A (place_of A.labels p []) a y) (sym (place_alone A.labels p')) (subst (λ x. Moves A x a p') (sym (place_alone A.labels p)) move))
    forth (x ∷ b) p more a c p' is_word lt e move = let len = is_word.0 in absurd (omega arith)

    back : (b : List ℕ) (p a y : ℕ) → IsTripleWord A.labels 1 b → Moves A (place_of A.labels p b) a y → (more : ℕ) × (c : List ℕ) × (p' : ℕ) × (more < A.labels) × Announces b more a c × Moves A p a p' × (place_of A.labels p' c ≡ y)
    back [] p a y is_word move =
        let go = subst (λ x. Moves A x a y) (place_alone A.labels p) move in
        (a, [], y, (move_in_range A valid p a y go).2, refl, go, place_alone A.labels y)
    back (x ∷ b) p a y is_word move = let len = is_word.0 in absurd (omega arith)

    accepting : (b : List ℕ) (p : ℕ) → IsTripleWord A.labels 1 b → IsAccepting A (place_of A.labels p b) ↔ IsAccepting A p
    accepting [] p is_word = (λ h. subst (λ x. IsAccepting A x) (place_alone A.labels p) h, λ h. subst (λ x. IsAccepting A x) (sym (place_alone A.labels p)) h)
    accepting (x ∷ b) p is_word = let len = is_word.0 in absurd (omega arith)
