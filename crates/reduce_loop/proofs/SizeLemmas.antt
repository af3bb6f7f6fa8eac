-- What a step makes is the same automaton, or a smaller one: automata with fewer transitions, and automata that keep some states.
use Rattle.std.proofs.Common.{◌≡◌, ℕ, zero, suc, ◌<◌, ◌≤◌, ◌⊎◌, inl, inr, Bool, true, false, cond, List, length, map, Contains, refl, sym, ap, ◌∙◌, subst, arith}
use Rattle.std.proofs.lemmas.Bool.{cases_eq}
use Rattle.std.proofs.lemmas.List.{length-map}
use Rattle.std.proofs.lemmas.List.Kept.{AllPairs-from_increasing}
use Rattle.auto_core.specs.Automaton.{Automaton, IsAutomaton, Moves, IsAccepting, IsBefore, trans}
use Rattle.auto_core.specs.Useful.{count_below, stays, new_number, IsKeptPart}
use Rattle.auto_core.specs.declared.parts.Trans.{Trans}
use Rattle.auto_core.proofs.MoveLemmas.{move_in_range}
use Rattle.auto_core.proofs.MemberLemmas.{Rises, rises_from_pairs, map_has}
use Rattle.auto_core.proofs.SetLemmas.{transitions_rise, same_automaton}
use Rattle.quotient.proofs.MergeLaws.{accepting_below}
use Rattle.useful_states.specs.KeptParts.{renumbered}
use Rattle.useful_states.proofs.KeepLaws.{count_within}
use Rattle.reduce_loop.specs.Size.{size_of, IsNoLarger}
use Rattle.reduce_loop.proofs.ListLemmas.{few_rises, same_or_fewer, trans_cases, number_cases}

pub before_and_after : (t u : Trans) → IsBefore t u → IsBefore u t → ⊥
before_and_after t u h k = both t.source t.label t.target u.source u.label u.target h k
  where
    both : (a b c x y z : ℕ) → IsBefore (trans a b c) (trans x y z) → IsBefore (trans x y z) (trans a b c) → ⊥
    both a b c x y z h k = omega arith

moves_rise : (A : Automaton) → IsAutomaton A → Rises IsBefore A.transitions
moves_rise A valid = rises_from_pairs IsBefore A.transitions (transitions_rise A valid)

accepting_rise : (A : Automaton) → IsAutomaton A → Rises (λ x y. x < y) A.accepting
accepting_rise A valid = rises_from_pairs (λ x y. x < y) A.accepting (AllPairs-from_increasing A.accepting valid.accepting_in_order)

-- What is made of A: nothing larger, and A itself or something smaller.
pub record IsSmaller (A B : Automaton) : Type 0 where
  pub no_larger : IsNoLarger A B
  pub same_or_less : (B ≡ A) ⊎ (size_of B < size_of A)

-- B has the states of A, and some of its moves and accepting states
pub smaller_part :
    (A B : Automaton)
    → IsAutomaton A
    → IsAutomaton B
    → B.states ≡ A.states
    → B.labels ≡ A.labels
    → B.initial ≡ A.initial
    → ((p a q : ℕ) → Moves B p a q → Moves A p a q)
    → ((q : ℕ) → IsAccepting B q → IsAccepting A q)
    → IsSmaller A B
smaller_part A B valid other states labels initial moves accepting = record {
  no_larger = record {
    labels = labels;
    states = omega arith;
    transitions = few_rises IsBefore (λ t h. before_and_after t t h h) B.transitions A.transitions (moves_rise B other) (λ t h. moves t.source t.label t.target h);
  };
  same_or_less = elim (same_or_fewer IsBefore before_and_after trans_cases B.transitions A.transitions (moves_rise B other) (moves_rise A valid) (λ t h. moves t.source t.label t.target h)) [
    | inl ts ↦ elim rest [
      | inl qs ↦
          inl (same_automaton B A other valid states labels initial
          (λ p a q. (moves p a q, λ m. subst (λ l. Contains l (trans p a q)) (sym ts) m))
          (λ q. (accepting q, λ h. subst (λ l. Contains l q) (sym qs) h)))
      | inr less ↦ let len = ap length ts in inr (omega arith)
    ]
    | inr less ↦ inr (omega (arith, few_rises (λ x y. x < y) (λ x h. omega arith) B.accepting A.accepting (accepting_rise B other) accepting))
  ];
}
  where
    rest : (B.accepting ≡ A.accepting) ⊎ (length B.accepting < length A.accepting)
    rest = same_or_fewer (λ x y. x < y) (λ x y h k. omega arith) number_cases B.accepting A.accepting (accepting_rise B other) (accepting_rise A valid) accepting

-- B has fewer states than A, and its moves and accepting states are images of those of A
pub smaller_image :
    (A B : Automaton) (image : Trans → Trans) (number : ℕ → ℕ)
    → IsAutomaton B
    → B.labels ≡ A.labels
    → B.states < A.states
    → ((t : Trans) → Contains B.transitions t → (u : Trans) × Contains A.transitions u × (image u ≡ t))
    → ((c : ℕ) → IsAccepting B c → (q : ℕ) × IsAccepting A q × (number q ≡ c))
    → IsSmaller A B
smaller_image A B image number valid labels fewer moves accepting =
    let ts : length B.transitions ≤ length (map image A.transitions) = few_rises IsBefore (λ t h. before_and_after t t h h) B.transitions (map image A.transitions) (moves_rise B valid)
    (λ t h. let (u, there, is) = moves t h in subst (λ x. Contains (map image A.transitions) x) is (map_has image A.transitions u there)) in
    let qs : length B.accepting ≤ length (map number A.accepting) = few_rises (λ x y. x < y) (λ x h. omega arith) B.accepting (map number A.accepting) (accepting_rise B valid)
    (λ c h. let (q, there, is) = accepting c h in subst (λ x. Contains (map number A.accepting) x) is (map_has number A.accepting q there)) in
    let t_len = length-map A.transitions image in
    let q_len = length-map A.accepting number in
    record { no_larger = record { labels = labels; states = omega arith; transitions = omega arith }; same_or_less = inr (omega arith) }

-- ---- automata that keep some states

at_most_one : (b : Bool) → cond b 1 0 ≤ 1
at_most_one true = omega arith
at_most_one false = omega arith

-- where all are counted, as many are counted before each number as stand before it
all_counted : (test : ℕ → Bool) (n : ℕ) → count_below test n ≡ n → (q : ℕ) → q ≤ n → count_below test q ≡ q
all_counted test zero all q q_in = let e : q ≡ 0 = omega arith in subst (λ k. count_below test k ≡ k) (sym e) refl
all_counted test (suc n) all q q_in = elim (cases_eq q (suc n)) [
  | inl e ↦ subst (λ k. count_below test k ≡ k) (sym e) all
  | inr apart ↦ all_counted test n (omega (arith, count_within test n, at_most_one (test n))) q (omega arith)
]

pub kept_smaller : (A B : Automaton) (kept : List ℕ) → IsAutomaton A → IsKeptPart A kept B → IsSmaller A B
kept_smaller A B kept valid k = elim (cases_eq (count_below (stays A kept) A.states) A.states) [
  | inl all ↦
      let same : (q : ℕ) → q < A.states → new_number A kept q ≡ q = λ q lt. all_counted (stays A kept) A.states all q (omega arith) in
      smaller_part A B valid k.valid (k.states ∙ all) k.labels (k.initial ∙ same A.initial valid.initial_is_state)
      (λ p a q m.
      let (r, s, r_kept, s_kept, move, p_is, q_is) = (k.moves p a q).0 m in
      let range = move_in_range A valid r a s move in
      subst (λ x. Moves A x a q) (sym (p_is ∙ same r range.0)) (subst (λ x. Moves A r a x) (sym (q_is ∙ same s range.1)) move))
      (λ p h.
      let (r, r_kept, acc, p_is) = (k.accepting p).0 h in
      subst (λ x. IsAccepting A x) (sym (p_is ∙ same r (accepting_below A valid r acc))) acc)
  | inr apart ↦
      let few = count_within (stays A kept) A.states in
      let is = k.states in
      smaller_image A B (renumbered A kept) (new_number A kept) k.valid k.labels (omega arith)
      (λ t h.
      let (r, s, r_kept, s_kept, move, p_is, q_is) = (k.moves t.source t.label t.target).0 h in
      (trans r t.label s, move, λ i. trans (sym p_is i) t.label (sym q_is i)))
      (λ p h. let (r, r_kept, acc, p_is) = (k.accepting p).0 h in (r, acc, sym p_is))
]
