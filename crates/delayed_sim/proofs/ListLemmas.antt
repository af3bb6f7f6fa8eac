-- The triples of pairs, listed in order.
use Rattle.std.proofs.Common.{◌≡◌, ℕ, ◌+◌, ◌-◌, ◌*◌, ◌/◌, ◌%◌, ◌^◌, ◌<◌, ◌≤◌, ◌↔◌, inl, inr, false, Option, List, [], ◌∷◌, ◌++◌, get_or, take, Contains, refl, sym, ap, ◌∙◌, subst, arith}
use Rattle.std.specs.Cmp.Lexicographic.{slice_cmp}
use Rattle.std.specs.Ordering.{nat_cmp, ordering_then}
use Rattle.std.proofs.lemmas.Bool.{cases_eq, cases_lt, false≢true}
use Rattle.std.proofs.lemmas.Cmp.{nat_list_cmp_total, tied_itself}
use Rattle.std.proofs.lemmas.List.{map_push}
use Rattle.std.proofs.lemmas.List.Elements.{Contains-get_or, Contains-push, Contains-push_cases, Contains-append_left}
use Rattle.std.proofs.lemmas.List.Quantifiers.{all_pairs_push}
use Rattle.auto_core.specs.Automaton.{Automaton}
use Rattle.auto_core.specs.Game.{Holds}
use Rattle.auto_core.specs.Rows.{bit_of, HasBit}
use Rattle.auto_core.specs.Delayed.{RankedTriples, IsTripleWord}
use Rattle.auto_core.proofs.PathLemmas.{none_in_nil}
use Rattle.bit_rel.specs.Relation.{IsPairBefore}
use Rattle.bit_rows.specs.Walks.{IsNextBit}
use Rattle.delayed_sim.specs.declared.entries.Entry.{Entry}
use Rattle.delayed_sim.specs.Stored.{triple_of, entry_triples}
use Rattle.delayed_sim.specs.Rankings.{Triple, row_key, IsTripleBefore}
use Rattle.delayed_game.specs.Pairings.{Pairing, IsPairing}
use Rattle.delayed_game.specs.Levels.{rank_in_table}
use Rattle.delayed_sim.specs.Words.{digits, place_of, triple_here, ListsTriplesBefore}
use Rattle.delayed_sim.proofs.WordLemmas.{number_order, lt_less, length-digits}
use Rattle.delayed_sim.proofs.PlaceLemmas.{letters_of_place, number_of_place, state_of_place, place_state, place_letters, place_below}
use Rattle.delayed_sim.proofs.AheadGreatest.{AreTriplesOfPairs}

pub listed_none : (labels n : ℕ) (R : Pairing) (ranks : List ℕ) → ListsTriplesBefore labels n R ranks 0 0 []
listed_none labels n R ranks = record {
  each = λ t h. absurd (none_in_nil t h);
  all = λ y s held before. absurd (nothing y s before);
  in_order = λ i j d lt j_in. absurd (omega arith);
}
  where
    nothing : (y s : ℕ) → IsPairBefore (y, s) (0, 0) → ⊥
    nothing y s (inl lt) = omega arith
    nothing y s (inr both) = let lt = both.1 in omega arith

-- the triples of pairs ascend as the pairs do
pub here_before :
    (labels n m : ℕ) (ranks : List ℕ) (states y s x q : ℕ)
    → 1 ≤ n
    → y < states * labels ^ (n - 1)
    → x < states * labels ^ (n - 1)
    → IsPairBefore (y, s) (x, q)
    → IsTripleBefore (triple_here labels n m ranks y s) (triple_here labels n m ranks x q)
here_before labels n m ranks states y s x q some y_in x_in (inl lt) =
    let w = labels ^ (n - 1) in
    let b = digits labels (n - 1) (y % w) in
    let c = digits labels (n - 1) (x % w) in
    let b_is = letters_of_place labels n states y some y_in in
    let c_is = letters_of_place labels n states x some x_in in
    let numbers : place_of labels (y / w) b < place_of labels (x / w) c = omega (arith, number_of_place labels n states y some y_in, number_of_place labels n states x some x_in) in
    ap (λ o. ordering_then o (nat_cmp s q)) (number_order labels b c (y / w) (x / w) (length-digits labels (n - 1) (y % w) ∙ sym (length-digits labels (n - 1) (x % w))) b_is.1 c_is.1 numbers)
here_before labels n m ranks states y s x q some y_in x_in (inr both) =
    let k : List ℕ = row_key (triple_here labels n m ranks x q) in
    let keys : row_key (triple_here labels n m ranks y s) ≡ k = ap (λ z. row_key (triple_here labels n m ranks z q)) both.0 in
    ap (λ l. ordering_then (slice_cmp nat_cmp l k) (nat_cmp s q)) keys
    ∙ ap (λ o. ordering_then o (nat_cmp s q)) (tied_itself nat_list_cmp_total k)
    ∙ lt_less s q both.1

module _ (labels n : ℕ) (R : Pairing) (ranks : List ℕ) (some : 1 ≤ n) (words : R.places ≡ R.states * labels ^ (n - 1)) (valid : IsPairing R) where
  in_places : (x q : ℕ) → Holds R.pairs x q → x < R.states * labels ^ (n - 1)
  in_places x q held = let lt = (valid.in_range x q held).0 in omega arith

  -- The next pair of the row is listed.
  pub listed_more :
      (x at q : ℕ) (row : List ℕ) (T : RankedTriples)
      → ListsTriplesBefore labels n R ranks x at T
      → ((s : ℕ) → HasBit row s ↔ Holds R.pairs x s)
      → IsNextBit row at q
      → ListsTriplesBefore labels n R ranks x (q + 1) (T ++ triple_here labels n R.states ranks x q ∷ [])
  listed_more x at q row T h bits next = record {
    each = λ t has. elim (Contains-push_cases T (triple_here labels n R.states ranks x q) t has) [
      | inl old ↦ let (y, s, held, before, is) = h.each t old in (y, s, held, further y s before, is)
      | inr new ↦ (x, q, (bits q).0 next.here, inr (refl, omega arith), new)
    ];
    all = λ y s held before. elim (cases_eq y x) [
      | inl e ↦ elim (cases_eq s q) [
        | inl f ↦ subst (λ z. Contains (T ++ triple_here labels n R.states ranks x q ∷ []) (triple_here labels n R.states ranks z s)) (sym e)
            (subst (λ z. Contains (T ++ triple_here labels n R.states ranks x q ∷ []) (triple_here labels n R.states ranks x z)) (sym f) (Contains-push T (triple_here labels n R.states ranks x q)))
        | inr apart ↦ Contains-append_left T (triple_here labels n R.states ranks x q ∷ []) (triple_here labels n R.states ranks y s) (h.all y s held (inr (e, sooner y s e held before apart)))
      ]
      | inr apart ↦ Contains-append_left T (triple_here labels n R.states ranks x q ∷ []) (triple_here labels n R.states ranks y s) (h.all y s held (inl (earlier y s before apart)))
    ];
    in_order = all_pairs_push IsTripleBefore T (triple_here labels n R.states ranks x q) h.in_order (λ k d k_in.
        let (y, s, held, before, is) = h.each (get_or T k d) (Contains-get_or T k d k_in) in
        subst (λ t. IsTripleBefore t (triple_here labels n R.states ranks x q)) is (here_before labels n R.states ranks R.states y s x q some (in_places y s held) (in_places x q ((bits q).0 next.here)) (up_to y s before)));
  }
    where
      further : (y s : ℕ) → IsPairBefore (y, s) (x, at) → IsPairBefore (y, s) (x, q + 1)
      further y s (inl lt) = inl lt
      further y s (inr both) = let lt = both.1 in let le = next.behind in inr (both.0, omega arith)

      up_to : (y s : ℕ) → IsPairBefore (y, s) (x, at) → IsPairBefore (y, s) (x, q)
      up_to y s (inl lt) = inl lt
      up_to y s (inr both) = let lt = both.1 in let le = next.behind in inr (both.0, omega arith)

      earlier : (y s : ℕ) → IsPairBefore (y, s) (x, q + 1) → (y ≡ x → ⊥) → y < x
      earlier y s (inl lt) apart = lt
      earlier y s (inr both) apart = absurd (apart both.0)

      sooner : (y s : ℕ) → y ≡ x → Holds R.pairs y s → IsPairBefore (y, s) (x, q + 1) → (s ≡ q → ⊥) → s < at
      sooner y s e held (inl lt) apart = absurd (omega arith)
      sooner y s e held (inr both) apart = elim (cases_lt s at) [
        | inl lt ↦ lt
        | inr from ↦
            let lt = both.1 in
            absurd (false≢true (sym (next.none_between s from (omega arith)) ∙ (bits s).1 (subst (λ z. Holds R.pairs z s) e held)))
      ]

  -- The row has no more pairs.
  pub listed_row :
      (x at : ℕ) (row : List ℕ) (T : RankedTriples)
      → ListsTriplesBefore labels n R ranks x at T
      → ((s : ℕ) → HasBit row s ↔ Holds R.pairs x s)
      → ((s : ℕ) → at ≤ s → bit_of row s ≡ false)
      → ListsTriplesBefore labels n R ranks (x + 1) 0 T
  listed_row x at row T h bits none = record {
    each = λ t has. let (y, s, held, before, is) = h.each t has in (y, s, held, further y s before, is);
    all = λ y s held before. elim (cases_eq y x) [
      | inl e ↦ elim (cases_lt s at) [
        | inl lt ↦ h.all y s held (inr (e, lt))
        | inr from ↦ absurd (false≢true (sym (none s from) ∙ (bits s).1 (subst (λ z. Holds R.pairs z s) e held)))
      ]
      | inr apart ↦ h.all y s held (inl (earlier y s before apart))
    ];
    in_order = h.in_order;
  }
    where
      further : (y s : ℕ) → IsPairBefore (y, s) (x, at) → IsPairBefore (y, s) (x + 1, 0)
      further y s (inl lt) = inl (omega arith)
      further y s (inr both) = let e = both.0 in inl (omega arith)

      earlier : (y s : ℕ) → IsPairBefore (y, s) (x + 1, 0) → (y ≡ x → ⊥) → y < x
      earlier y s (inl lt) apart = omega arith
      earlier y s (inr both) apart = let lt = both.1 in absurd (omega arith)

-- When all places are listed, the triples are those of all pairs.
pub listed_pairs :
    (A : Automaton) (n : ℕ) (S : Pairing) (ranks : List ℕ) (T : RankedTriples)
    → 1 ≤ n
    → S.states ≡ A.states
    → S.places ≡ A.states * A.labels ^ (n - 1)
    → IsPairing S
    → ListsTriplesBefore A.labels n S ranks S.places 0 T
    → AreTriplesOfPairs A n S ranks T
listed_pairs A n S ranks T some size words valid h p b q o = (
  λ has.
      let (y, s, held, before, is) = h.each (p, b, q, o) has in
      let w = A.labels ^ (n - 1) in
      let y_in : y < A.states * w = let lt = (valid.in_range y s held).0 in omega arith in
      let left : y / w ≡ p = ap (λ (t : Triple). t.0) is in
      let word : digits A.labels (n - 1) (y % w) ≡ b = ap (λ (t : Triple). t.1) is in
      let right : s ≡ q = ap (λ (t : Triple). t.2) is in
      let rank : rank_in_table ranks S.states y s ≡ o = ap (λ (t : Triple). t.3) is in
      let place : y ≡ place_of A.labels p b =
      sym (number_of_place A.labels n A.states y some y_in) ∙ ap (λ x. place_of A.labels x (digits A.labels (n - 1) (y % w))) left ∙ ap (λ c. place_of A.labels p c) word in (
        subst (IsTripleWord A.labels n) word (letters_of_place A.labels n A.states y some y_in),
        subst (λ x. x < A.states) left (state_of_place A.labels n A.states y y_in),
        subst (λ z. Holds S.pairs (place_of A.labels p b) z) right (subst (λ z. Holds S.pairs z s) place held),
        ap (λ z. rank_in_table ranks A.states (place_of A.labels p b) z) (sym right) ∙ ap (λ z. rank_in_table ranks A.states z s) (sym place) ∙ ap (λ m. rank_in_table ranks m y s) (sym size) ∙ rank,
      ),
  λ (is_word, left, held, rank).
      let x = place_of A.labels p b in
      let inside = place_below A.labels n A.states p b is_word left in
      let there = h.all x q held (inl (omega arith)) in
      let made : triple_here A.labels n S.states ranks x q ≡ (p, b, q, o) =
      ap (λ z. triple_parts z (digits A.labels (n - 1) (x % A.labels ^ (n - 1))) q (rank_in_table ranks S.states x q)) (place_state A.labels n p b is_word)
      ∙ ap (λ z. triple_parts p z q (rank_in_table ranks S.states x q)) (place_letters A.labels n p b is_word)
      ∙ ap (λ m. triple_parts p b q (rank_in_table ranks m x q)) size
      ∙ ap (λ z. triple_parts p b q z) rank in
      subst (λ t. Contains T t) made there,
)
  where
    triple_parts : ℕ → List ℕ → ℕ → Option ℕ → Triple
    triple_parts p b q o = (p, b, q, o)

-- the entry that is made for a pair has its triple
pub entry_here :
    (labels n m : ℕ) (ranks : List ℕ) (x q : ℕ) (e : Entry)
    → e.left ≡ x / labels ^ (n - 1)
    → take (n - 1) e.ahead ≡ digits labels (n - 1) (x % labels ^ (n - 1))
    → e.right ≡ q
    → e.rank ≡ rank_in_table ranks m x q
    → triple_of n e ≡ triple_here labels n m ranks x q
entry_here labels n m ranks x q e left word right rank =
    ap (λ z. parts z (take (n - 1) e.ahead) e.right e.rank) left
    ∙ ap (λ z. parts (x / labels ^ (n - 1)) z e.right e.rank) word
    ∙ ap (λ z. parts (x / labels ^ (n - 1)) (digits labels (n - 1) (x % labels ^ (n - 1))) z e.rank) right
    ∙ ap (λ z. parts (x / labels ^ (n - 1)) (digits labels (n - 1) (x % labels ^ (n - 1))) q z) rank
  where
    parts : ℕ → List ℕ → ℕ → Option ℕ → Triple
    parts p b q o = (p, b, q, o)

-- an entry more has a triple more
pub listed_push :
    (labels n : ℕ) (R : Pairing) (ranks : List ℕ) (x at q : ℕ) (row : List ℕ) (entries : List Entry) (e : Entry)
    → 1 ≤ n
    → R.places ≡ R.states * labels ^ (n - 1)
    → IsPairing R
    → ListsTriplesBefore labels n R ranks x at (entry_triples n entries)
    → ((s : ℕ) → HasBit row s ↔ Holds R.pairs x s)
    → IsNextBit row at q
    → triple_of n e ≡ triple_here labels n R.states ranks x q
    → ListsTriplesBefore labels n R ranks x (q + 1) (entry_triples n (entries ++ e ∷ []))
listed_push labels n R ranks x at q row entries e some words valid h bits next is =
    let made : entry_triples n (entries ++ e ∷ []) ≡ entry_triples n entries ++ triple_here labels n R.states ranks x q ∷ [] =
    map_push (triple_of n) entries e ∙ ap (λ t. entry_triples n entries ++ t ∷ []) is in
    subst (λ T. ListsTriplesBefore labels n R ranks x (q + 1) T) (sym made) (listed_more labels n R ranks some words valid x at q row (entry_triples n entries) h bits next)
