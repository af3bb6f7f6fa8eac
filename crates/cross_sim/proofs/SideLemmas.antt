-- The automaton of both side by side from its parts.
use Rattle.std.proofs.Common.{◌≡◌, ℕ, ◌+◌, ◌^◌, ◌<◌, ◌⊎◌, inl, inr, List, [], ◌++◌, length, map, Contains, refl, sym, ap, ◌∙◌, subst, arith, length-append}
use Rattle.std.proofs.lemmas.List.{length-map}
use Rattle.std.proofs.lemmas.List.Elements.{Contains-append_left, Contains-append_right, Contains-append_cases}
use Rattle.std.proofs.lemmas.List.Sorted.{Contains-permutation, IsPermutation-sym}
use Rattle.auto_core.specs.declared.parts.Trans.{Trans}
use Rattle.auto_core.specs.Automaton.{Automaton, IsAutomaton, Moves, IsAccepting, trans}
use Rattle.auto_core.specs.Build.{IsBuilt}
use Rattle.auto_core.specs.Parts.{AreParts}
use Rattle.auto_core.proofs.MoveLemmas.{move_in_range}
use Rattle.auto_core.proofs.MemberLemmas.{Rises, map_has, map_from}
use Rattle.auto_ops.specs.Union.{IsShiftedAccepting}
use Rattle.auto_ops.specs.UnionParts.{shifted, accepting_of_one}
use Rattle.auto_ops.proofs.SightLemmas.{Differ, apart_append, apart_map, apart_once, all_from}
use Rattle.auto_ops.proofs.UnionLemmas.{same_parts, transitions_apart, accepting_below, accepting_has, accepting_from, accepting_apart}
use Rattle.cross_sim.specs.Sides.{IsSideBySide}

-- a move of A, its states shifted by n
abbrev IsMoved : Automaton → ℕ → ℕ → ℕ → ℕ → Type 0
IsMoved A n p a q = (r s : ℕ) × Moves A r a s × (p ≡ n + r) × (q ≡ n + s)

abbrev pub both_transitions : Automaton → Automaton → List Trans
both_transitions A B = map (shifted 0) A.transitions ++ map (shifted A.states) B.transitions

abbrev pub both_accepting : Automaton → Automaton → List ℕ
both_accepting A B = accepting_of_one A 0 A.states ++ accepting_of_one B A.states B.states

-- what was appended one after the other to an empty list
pub transitions_given : (A B : Automaton) (n : ℕ) (none one two : List Trans) → n ≡ A.states → none ≡ [] → one ≡ none ++ map (shifted 0) A.transitions → two ≡ one ++ map (shifted n) B.transitions → two ≡ both_transitions A B
transitions_given A B n none one two states e f g =
    g ∙ ap (λ l. l ++ map (shifted n) B.transitions) (f ∙ ap (λ l. l ++ map (shifted 0) A.transitions) e) ∙ ap (λ k. map (shifted 0) A.transitions ++ map (shifted k) B.transitions) states

pub accepting_given : (A B : Automaton) (n : ℕ) (none one two : List ℕ) → n ≡ A.states → none ≡ [] → one ≡ none ++ accepting_of_one A 0 A.states → two ≡ one ++ accepting_of_one B n B.states → two ≡ both_accepting A B
accepting_given A B n none one two states e f g =
    g ∙ ap (λ l. l ++ accepting_of_one B n B.states) (f ∙ ap (λ l. l ++ accepting_of_one A 0 A.states) e) ∙ ap (λ k. accepting_of_one A 0 A.states ++ accepting_of_one B k B.states) states

module _ (A : Automaton) (n : ℕ) where
  moved_has : (p a q : ℕ) → IsMoved A n p a q → Contains (map (shifted n) A.transitions) (trans p a q)
  moved_has p a q (r, s, m, from, to) =
      subst (λ x. Contains (map (shifted n) A.transitions) (trans x a q)) (sym from) (subst (λ x. Contains (map (shifted n) A.transitions) (trans (n + r) a x)) (sym to) (map_has (shifted n) A.transitions (trans r a s) m))

  moved_from : (p a q : ℕ) → Contains (map (shifted n) A.transitions) (trans p a q) → IsMoved A n p a q
  moved_from p a q h =
      let (u, there, is) = map_from (shifted n) A.transitions (trans p a q) h in
      let P : ℕ → Type 0 = λ x. Moves A u.source x u.target in
      (u.source, u.target, subst P (ap (λ (t : Trans). t.label) is) there, sym (ap (λ (t : Trans). t.source) is), sym (ap (λ (t : Trans). t.target) is))

  moved_apart : IsAutomaton A → Rises Differ (map (shifted n) A.transitions)
  moved_apart valid = apart_map (shifted n) A.transitions (λ t u t_in u_in e.
      let s : n + t.source ≡ n + u.source = ap (λ (x : Trans). x.source) e in
      let g : n + t.target ≡ n + u.target = ap (λ (x : Trans). x.target) e in
      same_parts t u (omega arith) (ap (λ (x : Trans). x.label) e) (omega arith)) (transitions_apart A valid)

module _ (A B : Automaton) (a_valid : IsAutomaton A) (b_valid : IsAutomaton B) where
  both_has : (p a q : ℕ) → IsMoved A 0 p a q ⊎ IsMoved B A.states p a q → Contains (both_transitions A B) (trans p a q)
  both_has p a q (inl one) = Contains-append_left (map (shifted 0) A.transitions) (map (shifted A.states) B.transitions) (trans p a q) (moved_has A 0 p a q one)
  both_has p a q (inr two) = Contains-append_right (map (shifted 0) A.transitions) (map (shifted A.states) B.transitions) (trans p a q) (moved_has B A.states p a q two)

  both_from : (p a q : ℕ) → Contains (both_transitions A B) (trans p a q) → IsMoved A 0 p a q ⊎ IsMoved B A.states p a q
  both_from p a q h = elim (Contains-append_cases (map (shifted 0) A.transitions) (map (shifted A.states) B.transitions) (trans p a q) h) [
    | inl near ↦ inl (moved_from A 0 p a q near)
    | inr far ↦ inr (moved_from B A.states p a q far)
  ]

  both_apart : Rises Differ (both_transitions A B)
  both_apart = apart_append (map (shifted 0) A.transitions) (map (shifted A.states) B.transitions) (moved_apart A 0 a_valid) (moved_apart B A.states b_valid) (λ t near far.
      let (r, s, m, from, to) = moved_from A 0 t.source t.label t.target near in
      let (r', s', m', from', to') = moved_from B A.states t.source t.label t.target far in
      let lt = (move_in_range A a_valid r t.label s m).0 in
      omega arith)

  in_states : (p a q : ℕ) → IsMoved A 0 p a q ⊎ IsMoved B A.states p a q → (p < A.states + B.states) × (q < A.states + B.states)
  in_states p a q (inl (r, s, m, from, to)) = let (left, right, _) = move_in_range A a_valid r a s m in (omega arith, omega arith)
  in_states p a q (inr (r, s, m, from, to)) = let (left, right, _) = move_in_range B b_valid r a s m in (omega arith, omega arith)

  in_labels : A.labels ≡ B.labels → (p a q : ℕ) → IsMoved A 0 p a q ⊎ IsMoved B A.states p a q → a < A.labels
  in_labels same p a q (inl (r, s, m, from, to)) = (move_in_range A a_valid r a s m).2
  in_labels same p a q (inr (r, s, m, from, to)) = let lt = (move_in_range B b_valid r a s m).2 in omega arith

  accepted_has : (p : ℕ) → IsShiftedAccepting A 0 p ⊎ IsShiftedAccepting B A.states p → Contains (both_accepting A B) p
  accepted_has p (inl (r, acc, is)) =
      Contains-append_left (accepting_of_one A 0 A.states) (accepting_of_one B A.states B.states) p (accepting_has A 0 A.states p (r, accepting_below A a_valid r acc, acc, is))
  accepted_has p (inr (r, acc, is)) =
      Contains-append_right (accepting_of_one A 0 A.states) (accepting_of_one B A.states B.states) p (accepting_has B A.states B.states p (r, accepting_below B b_valid r acc, acc, is))

  accepted_from : (p : ℕ) → Contains (both_accepting A B) p → IsShiftedAccepting A 0 p ⊎ IsShiftedAccepting B A.states p
  accepted_from p h = elim (Contains-append_cases (accepting_of_one A 0 A.states) (accepting_of_one B A.states B.states) p h) [
    | inl near ↦ inl (accepting_from A 0 A.states p near)
    | inr far ↦ inr (accepting_from B A.states B.states p far)
  ]

  accepted_apart : Rises Differ (both_accepting A B)
  accepted_apart = apart_append (accepting_of_one A 0 A.states) (accepting_of_one B A.states B.states) (accepting_apart A 0 A.states) (accepting_apart B A.states B.states) (λ p near far.
      let (r, acc, is) = accepting_from A 0 A.states p near in
      let (r', acc', is') = accepting_from B A.states B.states p far in
      let lt = accepting_below A a_valid r acc in
      omega arith)

  accepted_below : (p : ℕ) → IsShiftedAccepting A 0 p ⊎ IsShiftedAccepting B A.states p → p < A.states + B.states
  accepted_below p (inl (r, acc, is)) = let lt = accepting_below A a_valid r acc in omega arith
  accepted_below p (inr (r, acc, is)) = let lt = accepting_below B b_valid r acc in omega arith

  few_in_both : length A.transitions + length B.transitions < 2 ^ 32 → length (both_transitions A B) < 2 ^ 32
  few_in_both few =
      let e = length-append (map (shifted 0) A.transitions) (map (shifted A.states) B.transitions) in
      let f = length-map A.transitions (shifted 0) in
      let g = length-map B.transitions (shifted A.states) in
      omega (arith, e, f, g, few)

  pub both_parts : length A.transitions + length B.transitions < 2 ^ 32 → A.labels ≡ B.labels → AreParts (A.states + B.states) A.labels A.initial (both_transitions A B) (both_accepting A B)
  both_parts few same = record {
    few = few_in_both few;
    in_states = (
      omega (arith, a_valid.initial_is_state),
      all_from (λ (t : Trans). (t.source < A.states + B.states) × (t.target < A.states + B.states)) (both_transitions A B)
          (λ t h. in_states t.source t.label t.target (both_from t.source t.label t.target h)),
      all_from (λ p. p < A.states + B.states) (both_accepting A B) (λ p h. accepted_below p (accepted_from p h)),
    );
    in_labels = all_from (λ (t : Trans). t.label < A.labels) (both_transitions A B) (λ t h. in_labels same t.source t.label t.target (both_from t.source t.label t.target h));
    no_transition_twice = apart_once (both_transitions A B) both_apart;
    no_state_twice = apart_once (both_accepting A B) accepted_apart;
  }

  -- which of the two a move or an accepting state is of
  of_first : (p a q : ℕ) → p < A.states → IsMoved A 0 p a q ⊎ IsMoved B A.states p a q → Moves A p a q
  of_first p a q lt (inl (r, s, m, from, to)) =
      let left : r ≡ p = omega arith in
      let right : s ≡ q = omega arith in
      subst (λ x. Moves A x a q) left (subst (λ x. Moves A r a x) right m)
  of_first p a q lt (inr (r, s, m, from, to)) = absurd (omega arith)

  of_second : (p a q : ℕ) → IsMoved A 0 (A.states + p) a q ⊎ IsMoved B A.states (A.states + p) a q → (r : ℕ) × (q ≡ A.states + r) × Moves B p a r
  of_second p a q (inl (r, s, m, from, to)) = let lt = (move_in_range A a_valid r a s m).0 in absurd (omega arith)
  of_second p a q (inr (r, s, m, from, to)) =
      let left : r ≡ p = omega arith in
      (s, to, subst (λ x. Moves B x a s) left m)

  accepting_of_first : (p : ℕ) → p < A.states → IsShiftedAccepting A 0 p ⊎ IsShiftedAccepting B A.states p → IsAccepting A p
  accepting_of_first p lt (inl (r, acc, is)) = let same : r ≡ p = omega arith in subst (λ x. IsAccepting A x) same acc
  accepting_of_first p lt (inr (r, acc, is)) = absurd (omega arith)

  accepting_of_second : (p : ℕ) → IsShiftedAccepting A 0 (A.states + p) ⊎ IsShiftedAccepting B A.states (A.states + p) → IsAccepting B p
  accepting_of_second p (inl (r, acc, is)) = let lt = accepting_below A a_valid r acc in absurd (omega arith)
  accepting_of_second p (inr (r, acc, is)) = let same : r ≡ p = omega arith in subst (λ x. IsAccepting B x) same acc

  pub both_built : (U : Automaton) → IsBuilt (A.states + B.states) A.labels A.initial (both_transitions A B) (both_accepting A B) U → IsSideBySide A B U
  both_built U b = record {
    states = b.states_given;
    first_moves = λ p a q lt. (λ m. of_first p a q lt (is_move p a q m), λ m. has_move p a q (inl (p, q, m, omega arith, omega arith)));
    second_moves = λ p a q. (λ m. of_second p a q (is_move (A.states + p) a q m), λ (r, e, m). has_move (A.states + p) a q (inr (p, r, m, refl, e)));
    first_accepting = λ p lt. (λ h. accepting_of_first p lt (is_accepted p h), λ h. has_accepted p (inl (p, h, omega arith)));
    second_accepting = λ p. (λ h. accepting_of_second p (is_accepted (A.states + p) h), λ h. has_accepted (A.states + p) (inr (p, h, refl)));
  }
    where
      is_move : (p a q : ℕ) → Moves U p a q → IsMoved A 0 p a q ⊎ IsMoved B A.states p a q
      is_move p a q m = both_from p a q (Contains-permutation U.transitions (both_transitions A B) (trans p a q) (IsPermutation-sym (both_transitions A B) U.transitions b.transitions_given) m)

      has_move : (p a q : ℕ) → IsMoved A 0 p a q ⊎ IsMoved B A.states p a q → Moves U p a q
      has_move p a q m = Contains-permutation (both_transitions A B) U.transitions (trans p a q) b.transitions_given (both_has p a q m)

      is_accepted : (p : ℕ) → IsAccepting U p → IsShiftedAccepting A 0 p ⊎ IsShiftedAccepting B A.states p
      is_accepted p h = accepted_from p (Contains-permutation U.accepting (both_accepting A B) p (IsPermutation-sym (both_accepting A B) U.accepting b.accepting_given) h)

      has_accepted : (p : ℕ) → IsShiftedAccepting A 0 p ⊎ IsShiftedAccepting B A.states p → IsAccepting U p
      has_accepted p m = Contains-permutation (both_accepting A B) U.accepting p b.accepting_given (accepted_has p m)
