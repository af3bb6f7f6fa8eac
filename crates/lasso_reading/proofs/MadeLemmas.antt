-- Pairs and moves as they are made.
use Rattle.std.specs.Prelude.{slice_get, slice_index}
use Rattle.std.proofs.Common.{◌≡◌, ℕ, ◌+◌, ◌^◌, ◌<◌, ◌≤◌, ◌⊎◌, Bool, true, false, not, inl, inr, List, [], ◌∷◌, ◌++◌, length, get_or, Contains, Some, refl, sym, ap, ◌∙◌, subst, arith, length-append, append-nil}
use Rattle.std.specs.List.{list_any}
use Rattle.std.proofs.lemmas.Bool.{cases_eq}
use Rattle.std.proofs.lemmas.Option.{get_or_from_slice_get}
use Rattle.std.proofs.lemmas.List.{get_or_push, get_or_append_left}
use Rattle.std.proofs.lemmas.List.Elements.{Contains-get_or, Contains-append_left, Contains-push, Contains-push_cases}
use Rattle.std.proofs.lemmas.List.Quantifiers.{all_pairs_push}
use Rattle.indexmap.specs.IndexSet.{insert_key}
use Rattle.auto_core.specs.Automaton.{Automaton, IsAutomaton, Moves, IsOutgoing, IsBefore, trans, trans_at}
use Rattle.auto_core.specs.Quotient.{class_of}
use Rattle.auto_core.specs.declared.parts.Trans.{Trans}
use Rattle.auto_core.proofs.MoveLemmas.{outgoing_moves, moves_in_outgoing, move_in_range}
use Rattle.product_search.specs.Found.{pair_at, Grows}
use Rattle.product_search.proofs.FoundLemmas.{grows_on, grows_size, grows_at, same_pair}
use Rattle.product_search.proofs.MorePairs.{contains_at, size_more, old_at, each_pair, different_more}
use Rattle.product_search.proofs.PairLemmas.{is_same, same_is, is_added}
use Rattle.lasso_reading.specs.Reading.{next_position, ReadsOn, ReadsAlong, IsReadPair}
use Rattle.lasso_reading.specs.Made.{IsNumbered, IsFollowed, ArePairs, IsMove, AreMoves}
use Rattle.lasso_reading.proofs.SpellLemmas.{next_last, next_inner}

-- The number that the set gives.
pub is_numbered :
    (pairs : List (ℕ × ℕ)) (x : ℕ × ℕ) (new : List (ℕ × ℕ)) (number : ℕ)
    → number < length new
    → (k : ℕ × ℕ) × (slice_get new number ≡ Some k) × (is_same x k ≡ true)
    → new ≡ insert_key is_same pairs x
    → IsNumbered pairs x new number
is_numbered pairs x new number within (k, at, same) made = (
  within,
  get_or_from_slice_get new number k (0, 0) at ∙ sym (same_is x k same),
  elim (is_added pairs x new (not (list_any (is_same x) pairs)) refl made) [ inl (on, is, none) ↦ inr (is, none) | inr (off, is, there) ↦ inl is ],
)

numbered_grows : (pairs : List (ℕ × ℕ)) (x : ℕ × ℕ) (new : List (ℕ × ℕ)) (number : ℕ) → IsNumbered pairs x new number → Grows pairs new
numbered_grows pairs x new number (within, at, inl same) = ([], same ∙ sym (append-nil pairs))
numbered_grows pairs x new number (within, at, inr (more, none)) = (x ∷ [], more)

next_in : (cu cv : List ℕ) (i : ℕ) → 1 ≤ length cv → i < length (cu ++ cv) → next_position cu cv i < length (cu ++ cv)
next_in cu cv i some lt =
    let total = length-append cu cv in
    elim (cases_eq (i + 1) (length (cu ++ cv))) [
      | inl e ↦ subst (λ n. n < length (cu ++ cv)) (sym (next_last cu cv i e)) (omega arith)
      | inr apart ↦ subst (λ n. n < length (cu ++ cv)) (sym (next_inner cu cv i apart)) (omega arith)
    ]

module _ (A : Automaton) (classes cu cv : List ℕ) where
  reads_push : (x : ℕ × ℕ) (w : List ℕ) (y : ℕ × ℕ) (a : ℕ) (z : ℕ × ℕ) → ReadsAlong A classes cu cv x w y → ReadsOn A classes cu cv y a z → ReadsAlong A classes cu cv x (w ++ a ∷ []) z
  reads_push x [] y a z is on = (z, subst (λ k. ReadsOn A classes cu cv k a z) (sym is) on, refl)
  reads_push x (b ∷ w) y a z (k, first, rest) on = (k, first, reads_push k w y a z rest on)

  -- ---- pairs

  -- The first pair.
  pub first_pair : (initial : ℕ) → initial ≡ A.initial → IsAutomaton A → 1 ≤ length cv → (pairs : List (ℕ × ℕ)) → pairs ≡ (initial, 0) ∷ [] → ArePairs A classes cu cv pairs
  first_pair initial is valid some pairs e = subst (ArePairs A classes cu cv) (sym (e ∙ ap (λ p. (p, 0) ∷ []) is)) (record {
    some = omega arith;
    initial = refl;
    states = λ i lt. let z : 0 ≡ i = omega (arith, lt) in subst (λ m. (pair_at ((A.initial, 0) ∷ []) m).0 < A.states) z valid.initial_is_state;
    positions = λ i lt. let z : 0 ≡ i = omega (arith, lt) in let total = length-append cu cv in subst (λ m. (pair_at ((A.initial, 0) ∷ []) m).1 < length (cu ++ cv)) z (omega arith);
    different = λ i j lt within same. absurd (omega (arith, lt, within));
    reached = λ i lt. let z : 0 ≡ i = omega (arith, lt) in subst (λ m. IsReadPair A classes cu cv (pair_at ((A.initial, 0) ∷ []) m)) z ([], refl);
  })

  -- One pair more.
  module _ (pairs : List (ℕ × ℕ)) (are : ArePairs A classes cu cv pairs) (x : ℕ × ℕ) where
    abbrev more : List (ℕ × ℕ)
    more = pairs ++ x ∷ []

    pairs_more : (from a : ℕ) → from < length pairs → ReadsOn A classes cu cv (pair_at pairs from) a x → x.0 < A.states → x.1 < length (cu ++ cv) → (Contains pairs x → ⊥) → ArePairs A classes cu cv more
    pairs_more from a from_in reads state position new = record {
      some = let some = are.some in let size = size_more pairs x in omega arith;
      initial = old_at pairs x 0 are.some ∙ are.initial;
      states = each_pair pairs x (λ y. y.0 < A.states) are.states state;
      positions = each_pair pairs x (λ y. y.1 < length (cu ++ cv)) are.positions position;
      different = different_more pairs x are.different new;
      reached = each_pair pairs x (IsReadPair A classes cu cv) are.reached (let (w, along) = are.reached from from_in in (w ++ a ∷ [], reads_push (A.initial, 0) w (pair_at pairs from) a x along reads));
    }

  pub numbered_pairs :
      (pairs : List (ℕ × ℕ)) (are : ArePairs A classes cu cv pairs) (x : ℕ × ℕ) (new : List (ℕ × ℕ)) (number from a : ℕ)
      → from < length pairs
      → ReadsOn A classes cu cv (pair_at pairs from) a x
      → x.0 < A.states
      → x.1 < length (cu ++ cv)
      → IsNumbered pairs x new number
      → ArePairs A classes cu cv new
  numbered_pairs pairs are x new number from a from_in reads state position (within, at, inl same) = subst (ArePairs A classes cu cv) (sym same) are
  numbered_pairs pairs are x new number from a from_in reads state position (within, at, inr (more, none)) =
      subst (ArePairs A classes cu cv) (sym more) (pairs_more pairs are x from a from_in reads state position none)

  -- ---- moves

  no_moves : (pairs : List (ℕ × ℕ)) → AreMoves A classes cu cv (λ x t. x < 0) pairs []
  no_moves pairs = record {
    few = omega arith;
    sound = λ m there. absurd (omega (arith, there.1));
    full = λ x a to lt done reads. absurd (omega (arith, done));
    once = λ i j d lt within. absurd (omega (arith, within));
  }

  pub first_moves : (pairs : List (ℕ × ℕ)) (moves : List Trans) → moves ≡ [] → AreMoves A classes cu cv (λ x t. x < 0) pairs moves
  first_moves pairs moves e = subst (AreMoves A classes cu cv (λ x t. x < 0) pairs) (sym e) (no_moves pairs)

  module _ (Done : ℕ → Trans → Type 0) (pairs : List (ℕ × ℕ)) (moves : List Trans) (are : AreMoves A classes cu cv Done pairs moves) where
    -- The same moves where there are more pairs.
    moves_grow : ((z : ℕ) (t : Trans) → Done z t → z < length pairs) → (new : List (ℕ × ℕ)) → Grows pairs new → AreMoves A classes cu cv Done new moves
    moves_grow inside new grows =
        let size = grows_size pairs new grows in record {
          few = are.few;
          sound = λ m there.
              let (s_in, t_in, reads, done) = are.sound m there in
              let both : ReadsOn A classes cu cv (pair_at new m.source) m.label (pair_at new m.target) × Done m.source (trans (pair_at new m.source).0 m.label (pair_at new m.target).0) =
              subst (λ x. ReadsOn A classes cu cv x m.label (pair_at new m.target) × Done m.source (trans x.0 m.label (pair_at new m.target).0)) (sym (grows_at pairs new grows m.source s_in))
              (subst (λ y. ReadsOn A classes cu cv (pair_at pairs m.source) m.label y × Done m.source (trans (pair_at pairs m.source).0 m.label y.0)) (sym (grows_at pairs new grows m.target t_in)) (reads, done)) in
              (omega (arith, s_in), omega (arith, t_in), both.0, both.1);
          full = λ x a to lt done reads.
              let below : x < length pairs = inside x (trans (pair_at new x).0 a to.0) done in
              let is = grows_at pairs new grows x below in
              let (y, y_in, y_is, there) = are.full x a to below (subst (λ (k : ℕ × ℕ). Done x (trans k.0 a to.0)) is done) (subst (λ k. ReadsOn A classes cu cv k a to) is reads) in
              (y, omega (arith, y_in), grows_at pairs new grows y y_in ∙ y_is, there);
          once = are.once;
        }

    -- The same moves where as much is done.
    moves_same :
        (Then : ℕ → Trans → Type 0)
        → ((z : ℕ) (t : Trans) → Done z t → Then z t)
        → ((z b : ℕ) (to : ℕ × ℕ) → Then z (trans (pair_at pairs z).0 b to.0) → ReadsOn A classes cu cv (pair_at pairs z) b to → Done z (trans (pair_at pairs z).0 b to.0))
        → AreMoves A classes cu cv Then pairs moves
    moves_same Then on back = record {
      few = are.few;
      sound = λ m there. let (s_in, t_in, reads, done) = are.sound m there in (s_in, t_in, reads, on m.source (trans (pair_at pairs m.source).0 m.label (pair_at pairs m.target).0) done);
      full = λ x a to lt done reads. are.full x a to lt (back x a to done reads) reads;
      once = are.once;
    }

    -- One move more, by a transition that was not done.
    moves_more :
        (Then : ℕ → Trans → Type 0) (from a number : ℕ)
        → from < length pairs
        → number < length pairs
        → ReadsOn A classes cu cv (pair_at pairs from) a (pair_at pairs number)
        → ((z : ℕ) (t : Trans) → Done z t → Then z t)
        → Then from (trans (pair_at pairs from).0 a (pair_at pairs number).0)
        → ((z : ℕ) (t : Trans) → Then z t → Done z t ⊎ ((z ≡ from) × (t ≡ trans (pair_at pairs from).0 a (pair_at pairs number).0)))
        → (Done from (trans (pair_at pairs from).0 a (pair_at pairs number).0) → ⊥)
        → length (moves ++ trans from a number ∷ []) < 2 ^ 32
        → AreMoves A classes cu cv Then pairs (moves ++ trans from a number ∷ [])
    moves_more Then from a number from_in number_in reads on here split fresh few = record {
      few = few;
      sound = λ m there. elim (Contains-push_cases moves (trans from a number) m there) [
        | inl old ↦ let (s_in, t_in, reads_m, done) = are.sound m old in (s_in, t_in, reads_m, on m.source (trans (pair_at pairs m.source).0 m.label (pair_at pairs m.target).0) done)
        | inr e ↦ subst (IsMove A classes cu cv Then pairs) e (from_in, number_in, reads, here)
      ];
      full = λ z b to lt done rest. elim (split z (trans (pair_at pairs z).0 b to.0) done) [
        | inl old ↦ let (y, y_in, y_is, there) = are.full z b to lt old rest in (y, y_in, y_is, Contains-append_left moves (trans from a number ∷ []) (trans z b y) there)
        | inr (z_is, t_is) ↦
            let state : to.0 ≡ (pair_at pairs number).0 = ap (λ (t : Trans). t.target) t_is in
            let letter : b ≡ a = ap (λ (t : Trans). t.label) t_is in
            let position : to.1 ≡ (pair_at pairs number).1 = rest.2 ∙ ap (λ n. next_position cu cv (pair_at pairs n).1) z_is ∙ sym reads.2 in (
              number,
              number_in,
              same_pair (pair_at pairs number).0 (pair_at pairs number).1 to.0 to.1 (sym state) (sym position),
              subst (λ n. Contains (moves ++ trans from a number ∷ []) (trans n b number)) (sym z_is) (subst (λ c. Contains (moves ++ trans from a number ∷ []) (trans from c number)) (sym letter) (Contains-push moves (trans from a number))),
            )
      ];
      once = all_pairs_push (λ m n. m ≡ n → ⊥) moves (trans from a number) are.once (λ k d lt e. fresh (are.sound (trans from a number) (subst (Contains moves) e (Contains-get_or moves k d lt))).3);
    }

-- ---- the transitions of one pair in turn

-- All transitions are done at the pairs before the one with the number `from`, and at it those before the number t.
abbrev pub DoneIn : Automaton → ℕ → ℕ → ℕ → Trans → Type 0
DoneIn A from t z u = (z < from) ⊎ ((z ≡ from) × ((i : ℕ) × (i < t) × (trans_at A i ≡ u)))

not_itself : (t : Trans) → IsBefore t t → ⊥
not_itself t h = omega (arith, h)

module _ (A : Automaton) (classes cu cv : List ℕ) (valid : IsAutomaton A) (from begin end : ℕ) (pairs : List (ℕ × ℕ)) (from_in : from < length pairs) (range : IsOutgoing A (pair_at pairs from).0 begin end) (moves : List Trans) where
  pub pair_begins : AreMoves A classes cu cv (λ z t. z < from) pairs moves → AreMoves A classes cu cv (DoneIn A from begin) pairs moves
  pair_begins are = moves_same A classes cu cv (λ z t. z < from) pairs moves are (DoneIn A from begin) (λ z t lt. inl lt) (λ z b to done reads. elim done [
    | inl lt ↦ lt
    | inr (z_is, (i, lt, is)) ↦
        let source : (trans_at A i).source ≡ (pair_at pairs from).0 = ap (λ (t : Trans). t.source) is ∙ ap (λ n. (pair_at pairs n).0) z_is in
        let before = range.before i lt in
        absurd (omega arith)
  ])

  pub pair_ends : (t : ℕ) → end ≤ t → AreMoves A classes cu cv (DoneIn A from t) pairs moves → AreMoves A classes cu cv (λ z u. z < from + 1) pairs moves
  pair_ends t all are = moves_same A classes cu cv (DoneIn A from t) pairs moves are (λ z u. z < from + 1) (λ z u done. elim done [ inl lt ↦ omega (arith, lt) | inr (z_is, rest) ↦ omega (arith, z_is) ]) (λ z b to lt reads. elim (cases_eq z from) [
    | inl e ↦
        let (i, low, high, is) = moves_in_outgoing A (pair_at pairs from).0 begin end range b to.0 (subst (λ n. Moves A (pair_at pairs n).0 b to.0) e reads.0) in
        inr (e, (i, omega (arith, high, all), subst (λ n. trans_at A i ≡ trans (pair_at pairs n).0 b to.0) (sym e) is))
    | inr apart ↦ inl (omega (arith, lt, apart))
  ])

  module _ (t : ℕ) (are : AreMoves A classes cu cv (DoneIn A from t) pairs moves) where
    done_on : (z : ℕ) (u : Trans) → DoneIn A from t z u → DoneIn A from (t + 1) z u
    done_on z u (inl lt) = inl lt
    done_on z u (inr (z_is, (i, lt, is))) = inr (z_is, (i, omega (arith, lt), is))

    done_back : (u : Trans) → trans_at A t ≡ u → (z : ℕ) (v : Trans) → DoneIn A from (t + 1) z v → DoneIn A from t z v ⊎ ((z ≡ from) × (v ≡ u))
    done_back u at z v (inl lt) = inl (inl lt)
    done_back u at z v (inr (z_is, (i, lt, is))) = elim (cases_eq i t) [
      | inl e ↦ inr (z_is, sym is ∙ ap (trans_at A) e ∙ at)
      | inr apart ↦ inl (inr (z_is, (i, omega (arith, lt, apart), is)))
    ]

    not_done : t < end → (u : Trans) → trans_at A t ≡ u → DoneIn A from t from u → ⊥
    not_done high u at (inl lt) = omega (arith, lt)
    not_done high u at (inr (z_is, (i, lt, is))) =
        let most = range.within in
        not_itself (trans_at A t) (subst (λ v. IsBefore v (trans_at A t)) (is ∙ sym at) (valid.in_order i t lt (omega arith)))

    -- A transition of another class.
    pub passes : (class_of classes (trans_at A t).label ≡ slice_index (cu ++ cv) (pair_at pairs from).1 → ⊥) → AreMoves A classes cu cv (DoneIn A from (t + 1)) pairs moves
    passes other = moves_same A classes cu cv (DoneIn A from t) pairs moves are (DoneIn A from (t + 1)) done_on (λ z b to done reads. elim (done_back (trans_at A t) refl z (trans (pair_at pairs z).0 b to.0) done) [
      | inl old ↦ old
      | inr (z_is, is) ↦
          let letter : b ≡ (trans_at A t).label = ap (λ (u : Trans). u.label) is in
          absurd (other (ap (class_of classes) (sym letter) ∙ reads.1 ∙ ap (λ n. slice_index (cu ++ cv) (pair_at pairs n).1) z_is))
    ])

  -- A transition of the class.
  pub follows :
      (t : ℕ)
      → t < end
      → (number : ℕ)
      → number < length pairs
      → ReadsOn A classes cu cv (pair_at pairs from) (trans_at A t).label (pair_at pairs number)
      → trans_at A t ≡ trans (pair_at pairs from).0 (trans_at A t).label (pair_at pairs number).0
      → AreMoves A classes cu cv (DoneIn A from t) pairs moves
      → length (moves ++ trans from (trans_at A t).label number ∷ []) < 2 ^ 32
      → AreMoves A classes cu cv (DoneIn A from (t + 1)) pairs (moves ++ trans from (trans_at A t).label number ∷ [])
  follows t high number number_in reads is are few =
      let u : Trans = trans (pair_at pairs from).0 (trans_at A t).label (pair_at pairs number).0 in
      moves_more A classes cu cv (DoneIn A from t) pairs moves are (DoneIn A from (t + 1)) from (trans_at A t).label number from_in number_in reads (done_on t are) (inr (refl, (t, omega arith, is))) (done_back t are u is)
      (not_done t are high u is) few

-- A transition of the class is followed.
module _ (A : Automaton) (classes cu cv : List ℕ) (valid : IsAutomaton A) (some : 1 ≤ length cv) (limit from begin end : ℕ) (old : List (ℕ × ℕ)) (from_in : from < length old) (x : ℕ × ℕ) (is_x : x ≡ pair_at old from) (range : IsOutgoing A x.0 begin end)
    (pairs : List (ℕ × ℕ)) (moves : List Trans) (are : ArePairs A classes cu cv pairs) (grows : Grows old pairs) where
  still_in : from < length pairs
  still_in = let size = grows_size old pairs grows in omega (arith, from_in)

  still : x ≡ pair_at pairs from
  still = is_x ∙ sym (grows_at old pairs grows from from_in)

  range_still : IsOutgoing A (pair_at pairs from).0 begin end
  range_still = subst (λ (y : ℕ × ℕ). IsOutgoing A y.0 begin end) still range

  pub begins : AreMoves A classes cu cv (λ z t. z < from) pairs moves → AreMoves A classes cu cv (DoneIn A from begin) pairs moves
  begins all = pair_begins A classes cu cv valid from begin end pairs still_in range_still moves all

  pub ends : (t : ℕ) → end ≤ t → AreMoves A classes cu cv (DoneIn A from t) pairs moves → AreMoves A classes cu cv (λ z u. z < from + 1) pairs moves
  ends t all are_moves = pair_ends A classes cu cv valid from begin end pairs still_in range_still moves t all are_moves

  module _ (t : ℕ) (low : begin ≤ t) (high : t < end) (are_moves : AreMoves A classes cu cv (DoneIn A from t) pairs moves) where
    pub passed_over : (ts : List Trans) → ts ≡ A.transitions → (class_of classes (get_or ts t (trans 0 0 0)).label ≡ slice_index (cu ++ cv) x.1 → ⊥) → AreMoves A classes cu cv (DoneIn A from (t + 1)) pairs moves
    passed_over ts is_ts other =
        let here : class_of classes (trans_at A t).label ≡ slice_index (cu ++ cv) x.1 → ⊥ =
        subst (λ (l : List Trans). class_of classes (get_or l t (trans 0 0 0)).label ≡ slice_index (cu ++ cv) x.1 → ⊥) is_ts other in
        passes A classes cu cv valid from begin end pairs still_in range_still moves t are_moves (subst (λ (y : ℕ × ℕ). class_of classes (trans_at A t).label ≡ slice_index (cu ++ cv) y.1 → ⊥) still here)

    -- The pairs and moves after it.
    abbrev pub Goes : List (ℕ × ℕ) → List Trans → Bool → Type 0
    Goes new_pairs new_moves flag =
        ArePairs A classes cu cv new_pairs
        × Grows old new_pairs
        × (((flag ≡ true) × (length new_pairs ≤ limit) × AreMoves A classes cu cv (DoneIn A from (t + 1)) new_pairs new_moves) ⊎ ((flag ≡ false) × (limit < length new_pairs)))

    move : Moves A (pair_at pairs from).0 (trans_at A t).label (trans_at A t).target
    move = outgoing_moves A (pair_at pairs from).0 begin end range_still t low high

    within_pairs : (z : ℕ) (u : Trans) → DoneIn A from t z u → z < length pairs
    within_pairs z u (inl lt) = let inside = still_in in omega (arith, lt)
    within_pairs z u (inr (z_is, rest)) = subst (λ n. n < length pairs) (sym z_is) still_in

    module _ (class : class_of classes (trans_at A t).label ≡ slice_index (cu ++ cv) x.1) (position : ℕ) (is_position : position ≡ next_position cu cv x.1) (new_pairs : List (ℕ × ℕ)) (number : ℕ) (numbered : IsNumbered pairs ((trans_at A t).target, position) new_pairs number) where
      abbrev to : ℕ × ℕ
      to = ((trans_at A t).target, position)

      reads : ReadsOn A classes cu cv (pair_at pairs from) (trans_at A t).label to
      reads = (move, subst (λ (y : ℕ × ℕ). class_of classes (trans_at A t).label ≡ slice_index (cu ++ cv) y.1) still class, subst (λ (y : ℕ × ℕ). position ≡ next_position cu cv y.1) still is_position)

      new_are : ArePairs A classes cu cv new_pairs
      new_are = numbered_pairs A classes cu cv pairs are to new_pairs number from (trans_at A t).label still_in reads (move_in_range A valid (pair_at pairs from).0 (trans_at A t).label (trans_at A t).target move).1
          (subst (λ n. n < length (cu ++ cv)) (sym reads.2) (next_in cu cv (pair_at pairs from).1 some (are.positions from still_in))) numbered

      grown : Grows pairs new_pairs
      grown = numbered_grows pairs to new_pairs number numbered

      new_still : pair_at new_pairs from ≡ pair_at pairs from
      new_still = grows_at pairs new_pairs grown from still_in

      source_is : (trans_at A t).source ≡ (pair_at new_pairs from).0
      source_is = range_still.inside t low high ∙ ap (λ (y : ℕ × ℕ). y.0) (sym new_still)

      target_is : (trans_at A t).target ≡ (pair_at new_pairs number).0
      target_is = ap (λ (y : ℕ × ℕ). y.0) (sym numbered.1)

      new_moves_are : length (moves ++ trans from (trans_at A t).label number ∷ []) < 2 ^ 32 → AreMoves A classes cu cv (DoneIn A from (t + 1)) new_pairs (moves ++ trans from (trans_at A t).label number ∷ [])
      new_moves_are few = follows A classes cu cv valid from begin end new_pairs (let size = grows_size pairs new_pairs grown in let inside = still_in in omega arith) (subst (λ (y : ℕ × ℕ). IsOutgoing A y.0 begin end) (sym new_still) range_still) moves t high number numbered.0
          (subst (λ y. ReadsOn A classes cu cv y (trans_at A t).label (pair_at new_pairs number)) (sym new_still) (subst (ReadsOn A classes cu cv (pair_at pairs from) (trans_at A t).label) (sym numbered.1) reads))
          (ap (λ n. trans n (trans_at A t).label (trans_at A t).target) source_is ∙ ap (trans (pair_at new_pairs from).0 (trans_at A t).label) target_is)
          (moves_grow A classes cu cv (DoneIn A from t) pairs moves are_moves within_pairs new_pairs grown) few

      pub goes_on :
          (new_moves : List Trans) (flag : Bool)
          → ((flag ≡ true) × (length new_pairs ≤ limit) × (new_moves ≡ moves ++ trans from (trans_at A t).label number ∷ []) × (length new_moves < 2 ^ 32)) ⊎ ((flag ≡ false) × (limit < length new_pairs))
          → Goes new_pairs new_moves flag
      goes_on new_moves flag (inl (on, fits, is, few)) = (
        new_are,
        grows_on old pairs new_pairs grows grown,
        inl (on, fits, subst (AreMoves A classes cu cv (DoneIn A from (t + 1)) new_pairs) (sym is) (new_moves_are (subst (λ (l : List Trans). length l < 2 ^ 32) is few))),
      )
      goes_on new_moves flag (inr (off, many)) = (new_are, grows_on old pairs new_pairs grows grown, inr (off, many))

    pub one_followed :
        (ts : List Trans)
        → ts ≡ A.transitions
        → class_of classes (get_or ts t (trans 0 0 0)).label ≡ slice_index (cu ++ cv) x.1
        → (position : ℕ)
        → position ≡ next_position cu cv x.1
        → (new_pairs : List (ℕ × ℕ)) (new_moves : List Trans) (flag : Bool)
        → IsFollowed limit from (get_or ts t (trans 0 0 0)) position pairs moves new_pairs new_moves flag
        → Goes new_pairs new_moves flag
    one_followed ts is_ts class position is_position new_pairs new_moves flag followed =
        let here : class_of classes (trans_at A t).label ≡ slice_index (cu ++ cv) x.1 = subst (λ (l : List Trans). class_of classes (get_or l t (trans 0 0 0)).label ≡ slice_index (cu ++ cv) x.1) is_ts class in
        let (number, numbered, rest) = subst (λ (l : List Trans). IsFollowed limit from (get_or l t (trans 0 0 0)) position pairs moves new_pairs new_moves flag) is_ts followed in
        goes_on here position is_position new_pairs number numbered new_moves flag rest
