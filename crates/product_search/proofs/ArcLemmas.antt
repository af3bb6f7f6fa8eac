-- The arcs of one pair after the other.
use Rattle.std.proofs.Common.{◌≡◌, ℕ, ◌+◌, ◌<◌, ◌≤◌, true, false, inl, inr, List, [], ◌∷◌, ◌++◌, length, refl, sym, ap, ◌∙◌, subst, arith, le_refl}
use Rattle.std.proofs.lemmas.Bool.{cases_eq, false≢true}
use Rattle.auto_core.specs.Automaton.{Automaton, Moves, trans_at, IsOutgoing, is_accepting}
use Rattle.auto_core.specs.declared.parts.Trans.{Trans}
use Rattle.auto_core.proofs.MoveLemmas.{moves_in_outgoing}
use Rattle.product_laws.specs.Ranked.{IsDeterministic}
use Rattle.product_laws.specs.Reached.{GoesTo}
use Rattle.strong_components.specs.Graph.{at, IsArcOf}
use Rattle.strong_components.proofs.StateLemmas.{IsPushed as Pushed, pushed}
use Rattle.product_search.specs.Found.{pair_at, Follows}
use Rattle.product_search.specs.Arcs.{IsPushed, AreArcs}
use Rattle.product_search.proofs.FoundLemmas.{goes_once, same_pair}

-- The arcs of the moves from `begin` up to t are there, behind the old ones.
pub record IsRow (A B : Automaton) (pairs : List (ℕ × ℕ)) (old old_letters : List ℕ) (from begin t : ℕ) (targets letters : List ℕ) : Type 0 where
  pub size : length letters ≡ length targets
  pub low : length old ≤ length targets
  pub to_pairs : (k : ℕ) → k < length targets → at targets k < length pairs
  pub same : (k : ℕ) → k < length old → at targets k ≡ at old k
  pub same_letters : (k : ℕ) → k < length old → at letters k ≡ at old_letters k
  pub sound : (k : ℕ) → length old ≤ k → k < length targets → Follows A B true (pair_at pairs from) (at letters k) (pair_at pairs (at targets k))
  pub full : (i : ℕ) → begin ≤ i → i < t → (s : ℕ) → GoesTo B (pair_at pairs from).1 (trans_at A i).label s → is_accepting B s ≡ false →
      (k : ℕ) × (length old ≤ k) × (k < length targets) × (pair_at pairs (at targets k) ≡ ((trans_at A i).target, s))

pub row_starts : (A B : Automaton) (pairs : List (ℕ × ℕ)) (n begin : ℕ) (starts targets letters : List ℕ) → AreArcs A B pairs n starts targets letters → IsRow A B pairs targets letters n begin begin targets letters
row_starts A B pairs n begin starts targets letters arcs = record {
  size = arcs.letters_size;
  low = le_refl (length targets);
  to_pairs = arcs.to_pairs;
  same = λ k lt. refl;
  same_letters = λ k lt. refl;
  sound = λ k low lt. absurd (omega (arith, low, lt));
  full = λ i low lt s goes plain. absurd (omega (arith, low, lt));
}

module _ (A B : Automaton) (det : IsDeterministic B) (pairs : List (ℕ × ℕ)) (old old_letters : List ℕ) (from begin t : ℕ) (targets letters : List ℕ) (row : IsRow A B pairs old old_letters from begin t targets letters)
    (sizes : length old_letters ≡ length old) (move : Moves A (pair_at pairs from).0 (trans_at A t).label (trans_at A t).target) (s : ℕ) (goes : GoesTo B (pair_at pairs from).1 (trans_at A t).label s) where
  -- A move with no arc.
  row_passes : is_accepting B s ≡ true → IsRow A B pairs old old_letters from begin (t + 1) targets letters
  row_passes loud = record {
    size = row.size;
    low = row.low;
    to_pairs = row.to_pairs;
    same = row.same;
    same_letters = row.same_letters;
    sound = row.sound;
    full = λ i low lt q other plain. elim (cases_eq i t) [
      | inl e ↦
          let here : GoesTo B (pair_at pairs from).1 (trans_at A t).label q = subst (λ n. GoesTo B (pair_at pairs from).1 (trans_at A n).label q) e other in
          absurd (false≢true (sym plain ∙ ap (is_accepting B) (goes_once B det (pair_at pairs from).1 (trans_at A t).label q s here goes) ∙ loud))
      | inr apart ↦ row.full i low (omega (arith, lt, apart)) q other plain
    ];
  }

  -- A move with an arc.
  module _ (plain : is_accepting B s ≡ false) (to : ℕ) (to_in : to < length pairs) (is_to : pair_at pairs to ≡ ((trans_at A t).target, s)) where
    abbrev more : List ℕ
    more = targets ++ to ∷ []

    abbrev more_letters : List ℕ
    more_letters = letters ++ (trans_at A t).label ∷ []

    on_targets : Pushed targets to more
    on_targets = pushed targets to

    on_letters : Pushed letters (trans_at A t).label more_letters
    on_letters = pushed letters (trans_at A t).label

    to_more : (k : ℕ) → k < length more → at more k < length pairs
    to_more k lt =
        let size = on_targets.size in
        elim (cases_eq k (length targets)) [
          | inl e ↦ subst (λ n. n < length pairs) (sym (ap (at more) e ∙ on_targets.last)) to_in
          | inr apart ↦ let below : k < length targets = omega arith in subst (λ n. n < length pairs) (sym (on_targets.same k below)) (row.to_pairs k below)
        ]

    sound_more : (k : ℕ) → length old ≤ k → k < length more → Follows A B true (pair_at pairs from) (at more_letters k) (pair_at pairs (at more k))
    sound_more k low lt =
        let size = on_targets.size in
        let sizes = row.size in
        elim (cases_eq k (length targets)) [
          | inl e ↦
              let letter : at more_letters k ≡ (trans_at A t).label = ap (at more_letters) (e ∙ sym sizes) ∙ on_letters.last in
              let place : pair_at pairs (at more k) ≡ ((trans_at A t).target, s) = ap (pair_at pairs) (ap (at more) e ∙ on_targets.last) ∙ is_to in
              subst (λ y. Follows A B true (pair_at pairs from) (at more_letters k) y) (sym place)
              (subst (λ b. Follows A B true (pair_at pairs from) b ((trans_at A t).target, s)) (sym letter) (move, goes, λ quiet. plain))
          | inr apart ↦
              let below : k < length targets = omega arith in
              subst (λ m. Follows A B true (pair_at pairs from) (at more_letters k) (pair_at pairs m)) (sym (on_targets.same k below))
              (subst (λ b. Follows A B true (pair_at pairs from) b (pair_at pairs (at targets k))) (sym (on_letters.same k (omega arith))) (row.sound k low below))
        ]

    full_more : (i : ℕ) → begin ≤ i → i < t + 1 → (q : ℕ) → GoesTo B (pair_at pairs from).1 (trans_at A i).label q → is_accepting B q ≡ false →
        (k : ℕ) × (length old ≤ k) × (k < length more) × (pair_at pairs (at more k) ≡ ((trans_at A i).target, q))
    full_more i low lt q other calm =
        let size = on_targets.size in
        let least = row.low in
        elim (cases_eq i t) [
          | inl e ↦
              let here : GoesTo B (pair_at pairs from).1 (trans_at A t).label q = subst (λ n. GoesTo B (pair_at pairs from).1 (trans_at A n).label q) e other in
              let same : s ≡ q = goes_once B det (pair_at pairs from).1 (trans_at A t).label s q goes here in
              (length targets, least, omega arith, ap (pair_at pairs) on_targets.last ∙ is_to ∙ same_pair (trans_at A t).target s (trans_at A i).target q (ap (λ n. (trans_at A n).target) (sym e)) same)
          | inr apart ↦
              let (k, from_old, below, is) = row.full i low (omega arith) q other calm in
              (k, from_old, omega (arith, below, size), ap (pair_at pairs) (on_targets.same k below) ∙ is)
        ]

    row_more : IsRow A B pairs old old_letters from begin (t + 1) more more_letters
    row_more = record {
      size = let one = on_targets.size in let two = on_letters.size in let sizes = row.size in omega arith;
      low = let one = on_targets.size in let least = row.low in omega arith;
      to_pairs = to_more;
      same = λ k lt. let least = row.low in on_targets.same k (omega arith) ∙ row.same k lt;
      same_letters = λ k lt. let least = row.low in let sizes = row.size in on_letters.same k (omega arith) ∙ row.same_letters k lt;
      sound = sound_more;
      full = full_more;
    }

pub row_on : (A B : Automaton) (det : IsDeterministic B) (pairs : List (ℕ × ℕ)) (old old_letters : List ℕ) (from begin t : ℕ) (targets letters : List ℕ) → IsRow A B pairs old old_letters from begin t targets letters → length old_letters ≡ length old
    → Moves A (pair_at pairs from).0 (trans_at A t).label (trans_at A t).target
    → (new_targets new_letters : List ℕ) → IsPushed B pairs (pair_at pairs from).1 (trans_at A t) targets letters new_targets new_letters → IsRow A B pairs old old_letters from begin (t + 1) new_targets new_letters
row_on A B det pairs old old_letters from begin t targets letters row sizes move new_targets new_letters (s, goes, inl (plain, (to, to_in, is_to, is_targets, is_letters))) =
    subst (λ l. IsRow A B pairs old old_letters from begin (t + 1) l new_letters) (sym is_targets)
    (subst (λ l. IsRow A B pairs old old_letters from begin (t + 1) (targets ++ to ∷ []) l) (sym is_letters)
    (row_more A B det pairs old old_letters from begin t targets letters row sizes move s goes plain to to_in is_to))
row_on A B det pairs old old_letters from begin t targets letters row sizes move new_targets new_letters (s, goes, inr (loud, is_targets, is_letters)) =
    subst (λ l. IsRow A B pairs old old_letters from begin (t + 1) l new_letters) (sym is_targets)
    (subst (λ l. IsRow A B pairs old old_letters from begin (t + 1) targets l) (sym is_letters)
    (row_passes A B det pairs old old_letters from begin t targets letters row sizes move s goes loud))

-- The arcs of one pair more are there.
module _ (A B : Automaton) (pairs : List (ℕ × ℕ)) (n begin end t : ℕ) (all : end ≤ t) (starts old old_letters targets letters : List ℕ) (arcs : AreArcs A B pairs n starts old old_letters)
    (range : IsOutgoing A (pair_at pairs n).0 begin end) (row : IsRow A B pairs old old_letters n begin t targets letters) where
  abbrev ends : List ℕ
  ends = starts ++ length targets ∷ []

  on_starts : Pushed starts (length targets) ends
  on_starts = pushed starts (length targets)

  old_start : (v : ℕ) → v ≤ n → at ends v ≡ at starts v
  old_start v lt = on_starts.same v (let size = arcs.size in omega arith)

  new_start : at ends (n + 1) ≡ length targets
  new_start = ap (at ends) (sym arcs.size) ∙ on_starts.last

  last_start : at ends n ≡ length old
  last_start = old_start n (le_refl n) ∙ arcs.last

  old_arc : (v k : ℕ) → v < n → IsArcOf ends v k → IsArcOf starts v k × (k < length old)
  old_arc v k lt (low, high) =
      let one = old_start v (omega arith) in
      let two = old_start (v + 1) (omega arith) in
      let most = arcs.within v lt in
      ((omega arith, omega arith), omega arith)

  rising_ends : (v : ℕ) → v < n + 1 → at ends v ≤ at ends (v + 1)
  rising_ends v lt = elim (cases_eq v n) [
    | inl e ↦
        let low = row.low in
        let one = last_start in
        let two = new_start in
        subst (λ m. at ends m ≤ at ends (m + 1)) (sym e) (omega arith)
    | inr apart ↦
        let below : v < n = omega arith in
        let one = old_start v (omega arith) in
        let two = old_start (v + 1) (omega arith) in
        let up = arcs.rising v below in
        omega arith
  ]

  within_ends : (v : ℕ) → v < n + 1 → at ends (v + 1) ≤ length targets
  within_ends v lt = elim (cases_eq v n) [
    | inl e ↦ let two = new_start in subst (λ m. at ends (m + 1) ≤ length targets) (sym e) (omega arith)
    | inr apart ↦
        let below : v < n = omega arith in
        let two = old_start (v + 1) (omega arith) in
        let most = arcs.within v below in
        let low = row.low in
        omega arith
  ]

  sound_ends : (v k : ℕ) → v < n + 1 → IsArcOf ends v k → Follows A B true (pair_at pairs v) (at letters k) (pair_at pairs (at targets k))
  sound_ends v k lt arc = elim (cases_eq v n) [
    | inl e ↦
        let here : IsArcOf ends n k = subst (λ m. IsArcOf ends m k) e arc in
        let low : at ends n ≤ k = here.0 in
        let high : k < at ends (n + 1) = here.1 in
        let one = last_start in
        let two = new_start in
        subst (λ m. Follows A B true (pair_at pairs m) (at letters k) (pair_at pairs (at targets k))) (sym e) (row.sound k (omega arith) (omega arith))
    | inr apart ↦
        let below : v < n = omega arith in
        let old_one = old_arc v k below arc in
        subst (λ m. Follows A B true (pair_at pairs v) (at letters k) (pair_at pairs m)) (sym (row.same k old_one.1))
        (subst (λ b. Follows A B true (pair_at pairs v) b (pair_at pairs (at old k))) (sym (row.same_letters k old_one.1)) (arcs.sound v k below old_one.0))
  ]

  full_ends : (v a : ℕ) (y : ℕ × ℕ) → v < n + 1 → Follows A B true (pair_at pairs v) a y → (k : ℕ) × IsArcOf ends v k × (pair_at pairs (at targets k) ≡ y)
  full_ends v a y lt follows = elim (cases_eq v n) [
    | inl e ↦
        let (move, goes, calm) = subst (λ m. Follows A B true (pair_at pairs m) a y) e follows in
        let (i, low, high, is) = moves_in_outgoing A (pair_at pairs n).0 begin end range a y.0 move in
        let there = row.full i low (omega (arith, high, all)) y.1 (subst (λ (u : Trans). GoesTo B (pair_at pairs n).1 u.label y.1) (sym is) goes) (calm refl) in
        let k : ℕ = there.0 in
        let from_old : length old ≤ k = there.1 in
        let below : k < length targets = there.2 in
        let one = last_start in
        let two = new_start in
        (k, subst (λ m. IsArcOf ends m k) (sym e) (omega arith, omega arith), there.3 ∙ same_pair (trans_at A i).target y.1 y.0 y.1 (ap (λ (u : Trans). u.target) is) refl)
    | inr apart ↦
        let below : v < n = omega arith in
        let there = arcs.full v a y below follows in
        let k : ℕ = there.0 in
        let low : at starts v ≤ k = there.1.0 in
        let high : k < at starts (v + 1) = there.1.1 in
        let one = old_start v (omega arith) in
        let two = old_start (v + 1) (omega arith) in
        let most = arcs.within v below in
        (k, (omega arith, omega arith), ap (pair_at pairs) (row.same k (omega arith)) ∙ there.2)
  ]

  pub row_ends : AreArcs A B pairs (n + 1) ends targets letters
  row_ends = record {
    size = on_starts.size ∙ ap (λ m. m + 1) arcs.size;
    last = new_start;
    rising = rising_ends;
    within = within_ends;
    letters_size = row.size;
    to_pairs = row.to_pairs;
    sound = sound_ends;
    full = full_ends;
  }

-- Before the first pair there are none.
no_arcs : (A B : Automaton) (pairs : List (ℕ × ℕ)) → AreArcs A B pairs 0 (0 ∷ []) [] []
no_arcs A B pairs = record {
  size = refl;
  last = refl;
  rising = λ v lt. absurd (omega (arith, lt));
  within = λ v lt. absurd (omega (arith, lt));
  letters_size = refl;
  to_pairs = λ k lt. absurd (omega (arith, lt));
  sound = λ v k lt arc. absurd (omega (arith, lt));
  full = λ v a y lt follows. absurd (omega (arith, lt));
}

pub first_arcs : (A B : Automaton) (pairs : List (ℕ × ℕ)) (starts targets letters : List ℕ) → starts ≡ 0 ∷ [] → targets ≡ [] → letters ≡ [] → AreArcs A B pairs 0 starts targets letters
first_arcs A B pairs starts targets letters is_starts is_targets is_letters =
    subst (λ l. AreArcs A B pairs 0 l targets letters) (sym is_starts)
    (subst (λ l. AreArcs A B pairs 0 (0 ∷ []) l letters) (sym is_targets) (subst (λ l. AreArcs A B pairs 0 (0 ∷ []) [] l) (sym is_letters) (no_arcs A B pairs)))
