-- How large the game of places is.
use Rattle.std.proofs.Common.{◌≡◌, ◌==◌, ℕ, zero, suc, ◌+◌, ◌-◌, ◌*◌, ◌^◌, ◌<◌, ◌≤◌, inl, inr, true, length, refl, ap, ◌∙◌, subst, arith}
use Rattle.std.proofs.lemmas.Bool.{cases_eq, cases_Bool, cond-true, cond-false, eq-eqb, leb-true}
use Rattle.std.proofs.lemmas.Nat.{mul-le}
use Rattle.std.proofs.Math.Nat.{pow-zero, pow-suc, mul-le-mul_right, le-mul_of_pos_right}
use Rattle.auto_core.specs.Automaton.{Automaton, IsAutomaton, IsInRange, IsBefore, trans, trans_at}
use Rattle.auto_core.specs.declared.parts.Trans.{Trans}
use Rattle.auto_core.specs.Delayed.{are_few_triples_with_a_letter, most_letters, letters_for}
use Rattle.auto_core.specs.declared.limits.TheConstants.{MOST_TRIPLES_WITH_A_LETTER}
use Rattle.delayed_sim.proofs.LetterLemmas.{with_labels}

-- ---- the number of transitions

pub place_rises : (a b w m n : ℕ) → a < b → m < w → a * w + m < b * w + n
place_rises a b w m n lt m_in =
    let row : suc a * w ≤ b * w = mul-le-mul_right w lt in
    let step : suc a * w ≡ w + a * w = suc_times a w in
    omega arith
  where
    suc_times : (a n : ℕ) → suc a * n ≡ n + a * n
    suc_times a n = grind arith

-- The place of a transition in a table.
abbrev trans_place : Automaton → Trans → ℕ
trans_place A t = (t.source * A.labels + t.label) * A.states + t.target

trans_rises : (A : Automaton) (t u : Trans) → IsInRange A.states A.labels t → IsBefore t u → trans_place A t < trans_place A u
trans_rises A t u range (inl less) =
    place_rises (t.source * A.labels + t.label) (u.source * A.labels + u.label) A.states t.target u.target (place_rises t.source u.source A.labels t.label u.label less range.2) range.1
trans_rises A t u range (inr (inl (same, less))) =
    let rows : t.source * A.labels ≡ u.source * A.labels = ap (λ x. x * A.labels) same in
    place_rises (t.source * A.labels + t.label) (u.source * A.labels + u.label) A.states t.target u.target (omega arith) range.1
trans_rises A t u range (inr (inr (same, by, less))) =
    let rows : (t.source * A.labels + t.label) * A.states ≡ (u.source * A.labels + u.label) * A.states = ap (λ x. (x * A.labels + t.label) * A.states) same ∙ ap (λ y. (u.source * A.labels + y) * A.states) by in
    omega arith

trans_below : (A : Automaton) (t : Trans) → IsInRange A.states A.labels t → trans_place A t < A.states * A.labels * A.states
trans_below A t range =
    let inner : t.source * A.labels + t.label < A.states * A.labels + 0 = place_rises t.source A.states A.labels t.label 0 range.0 range.2 in
    let outer = place_rises (t.source * A.labels + t.label) (A.states * A.labels) A.states t.target 0 (omega arith) range.1 in
    omega arith

pub transitions_few : (A : Automaton) → IsAutomaton A → length A.transitions ≤ A.states * A.labels * A.states
transitions_few A valid = upto (length A.transitions) refl
  where
    in_range : (i : ℕ) → i < length A.transitions → IsInRange A.states A.labels (trans_at A i)
    in_range i i_in = valid.in_range i (trans 0 0 0) i_in

    climbs : (i : ℕ) → i < length A.transitions → i ≤ trans_place A (trans_at A i)
    climbs zero i_in = omega arith
    climbs (suc i) i_in =
        let before = climbs i (omega arith) in
        let rises = trans_rises A (trans_at A i) (trans_at A (suc i)) (in_range i (omega arith)) (valid.in_order i (suc i) (omega arith) i_in) in
        omega arith

    upto : (n : ℕ) → n ≡ length A.transitions → n ≤ A.states * A.labels * A.states
    upto zero e = omega arith
    upto (suc n) e =
        let last : n < length A.transitions = omega arith in
        let low = climbs n last in
        let high = trans_below A (trans_at A n) (in_range n last) in
        omega arith

-- ---- the game with more than one letter

-- With n announced letters the numbers of the game are small.
pub record IsSmall (A : Automaton) (n : ℕ) : Type 0 where
  pub labels : 0 < A.labels
  pub words : 0 < A.labels ^ (n - 1)
  pub word_count : A.labels ^ (n - 1) ≤ MOST_TRIPLES_WITH_A_LETTER
  pub places : A.states * A.labels ^ (n - 1) ≤ MOST_TRIPLES_WITH_A_LETTER
  pub letters : A.labels * A.labels ^ (n - 1) ≤ MOST_TRIPLES_WITH_A_LETTER
  pub steps : length A.transitions * A.labels ^ (n - 1) ≤ MOST_TRIPLES_WITH_A_LETTER
  pub pairs : A.states * A.labels ^ (n - 1) * A.states ≤ MOST_TRIPLES_WITH_A_LETTER

most_upto : (A : Automaton) (n : ℕ) → most_letters A n ≤ suc n
most_upto A zero = omega arith
most_upto A (suc n) = elim (cases_Bool (are_few_triples_with_a_letter A (suc n))) [
  | inl few ↦ omega (arith, cond-true (are_few_triples_with_a_letter A (suc n)) (suc n) (most_letters A n) few)
  | inr many ↦ let rest = most_upto A n in omega (arith, cond-false (are_few_triples_with_a_letter A (suc n)) (suc n) (most_letters A n) many)
]

-- more letters than one are no more than there are
most_less_than : (A : Automaton) (n : ℕ) → 1 ≤ n → most_letters A n ≤ n
most_less_than A zero some = absurd (omega arith)
most_less_than A (suc n) some = elim (cases_Bool (are_few_triples_with_a_letter A (suc n))) [
  | inl few ↦ omega (arith, cond-true (are_few_triples_with_a_letter A (suc n)) (suc n) (most_letters A n) few)
  | inr many ↦ let rest = most_upto A n in omega (arith, cond-false (are_few_triples_with_a_letter A (suc n)) (suc n) (most_letters A n) many)
]

some_power : (l m : ℕ) → 0 < l → 0 < l ^ m
some_power l zero some = omega (arith, pow-zero l)
some_power l (suc m) some =
    let rest = some_power l m some in
    let more = le-mul_of_pos_right (l ^ m) some in
    omega (arith, pow-suc l m)

fits_labels : (A : Automaton) (n : ℕ) → 2 ≤ n → n ≡ letters_for A n → A.labels ≡ 0 → ⊥
fits_labels A n more fits none =
    let one : letters_for A n ≡ 1 = cond-true (A.labels == 0) 1 (most_letters A n) (eq-eqb A.labels 0 none) in
    omega arith

fits_few : (A : Automaton) (n : ℕ) → 2 ≤ n → n ≡ letters_for A n → are_few_triples_with_a_letter A n ≡ true
fits_few A zero more fits = absurd (omega arith)
fits_few A (suc m) more fits = elim (cases_Bool (are_few_triples_with_a_letter A (suc m))) [
  | inl few ↦ few
  | inr many ↦
      let most : letters_for A (suc m) ≡ most_letters A (suc m) = with_labels A (suc m) (fits_labels A (suc m) more fits) in
      let less : most_letters A (suc m) ≡ most_letters A m = cond-false (are_few_triples_with_a_letter A (suc m)) (suc m) (most_letters A m) many in
      let upto = most_less_than A m (omega arith) in
      absurd (omega arith)
]

pub small_game : (A : Automaton) (n : ℕ) → IsAutomaton A → 2 ≤ n → n ≡ letters_for A n → IsSmall A n
small_game A n valid more fits =
    let s = A.states in
    let l = A.labels in
    let w = l ^ (n - 1) in
    let next : n ≡ suc (n - 1) = omega arith in
    let power : l ^ n ≡ w * l = ap (λ i. l ^ i) next ∙ pow-suc l (n - 1) in
    let all : s * s * (w * l) ≤ MOST_TRIPLES_WITH_A_LETTER = subst (λ x. s * s * x ≤ MOST_TRIPLES_WITH_A_LETTER) power all_few in
    let words : 0 < w = some_power l (n - 1) labels_some in
    let square : 0 < s * s = let more = le-mul_of_pos_right s states_some in let some = states_some in omega arith in
    let some_letters : 0 < s * l = let more = le-mul_of_pos_right s labels_some in let some = states_some in omega arith in
    let places : s * w ≤ s * w * (s * l) = le-mul_of_pos_right (s * w) some_letters in
    let letters : l * w ≤ l * w * (s * s) = le-mul_of_pos_right (l * w) square in
    let rows : length A.transitions * w ≤ s * l * s * w = mul-le-mul_right w (transitions_few A valid) in
    let pairs : s * w * s ≤ s * w * s * l = le-mul_of_pos_right (s * w * s) labels_some in
    let count : w ≤ s * w = let turned = le-mul_of_pos_right w states_some in omega (arith, turned_of w s) in
    record {
      labels = labels_some;
      words = words;
      word_count = omega (arith, same_triples s w l);
      places = omega (arith, same_triples s w l);
      letters = omega (arith, same_letters s w l);
      steps = omega (arith, same_steps s w l);
      pairs = omega (arith, same_pairs s w l);
    }
  where
    none : A.labels ≡ 0 → ⊥
    none = fits_labels A n more fits

    labels_some : 0 < A.labels
    labels_some = elim (cases_eq A.labels 0) [ inl e ↦ absurd (none e) | inr apart ↦ omega arith ]

    states_some : 0 < A.states
    states_some = let first = valid.initial_is_state in omega arith

    all_few : A.states * A.states * A.labels ^ n ≤ MOST_TRIPLES_WITH_A_LETTER
    all_few = leb-true (A.states * A.states * A.labels ^ n) MOST_TRIPLES_WITH_A_LETTER (fits_few A n more fits)

    same_triples : (s w l : ℕ) → s * w * (s * l) ≡ s * s * (w * l)
    same_triples s w l = grind arith

    same_letters : (s w l : ℕ) → l * w * (s * s) ≡ s * s * (w * l)
    same_letters s w l = grind arith

    same_steps : (s w l : ℕ) → s * l * s * w ≡ s * s * (w * l)
    same_steps s w l = grind arith

    same_pairs : (s w l : ℕ) → s * w * s * l ≡ s * s * (w * l)
    same_pairs s w l = grind arith

    turned_of : (w s : ℕ) → w * s ≡ s * w
    turned_of w s = grind arith

-- ---- the list of all triples

-- With n announced letters all triples can be listed.
pub record IsListable (A : Automaton) (n : ℕ) : Type 0 where
  pub words : 0 < A.labels ^ (n - 1)
  pub word_count : A.labels ^ (n - 1) < 2 ^ 32
  pub places : A.states * A.labels ^ (n - 1) < 2 ^ 32
  pub pairs : A.states * A.labels ^ (n - 1) * A.states + 1 < 2 ^ 32

pub listable : (A : Automaton) (n : ℕ) → IsAutomaton A → 1 ≤ n → n ≡ letters_for A n → A.states ≤ 65535 → IsListable A n
listable A n valid some fits few = elim (cases_eq n 1) [
  | inl e ↦
      let one : A.labels ^ (n - 1) ≡ 1 = ap (λ i. A.labels ^ (i - 1)) e ∙ pow-zero A.labels in
      let square = mul-le A.states A.states 65535 65535 few few in
      let places : A.states * A.labels ^ (n - 1) ≡ A.states = ap (λ w. A.states * w) one ∙ times_one A.states in
      let pairs : A.states * A.labels ^ (n - 1) * A.states ≡ A.states * A.states = ap (λ x. x * A.states) places in
      record {
        words = omega arith;
        word_count = omega arith;
        places = omega arith;
        pairs = omega arith;
      }
  | inr more ↦
      let small = small_game A n valid (omega arith) fits in
      let word_count = small.word_count in
      let places = small.places in
      let pairs = small.pairs in
      record {
        words = small.words;
        word_count = omega arith;
        places = omega arith;
        pairs = omega arith;
      }
]
  where
    times_one : (s : ℕ) → s * 1 ≡ s
    times_one s = grind arith
