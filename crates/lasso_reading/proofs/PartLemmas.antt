-- The product from its parts.
use Rattle.std.proofs.Common.{◌≡◌, ℕ, ◌+◌, ◌<◌, ◌≤◌, Bool, true, false, cond, List, [], ◌∷◌, ◌++◌, length, get_or, filter, All, Contains, refl, sym, ap, ◌∙◌, arith, add-one, zero-add}
use Rattle.std.specs.List.{range_with_len}
use Rattle.std.proofs.lemmas.List.{append-nil}
use Rattle.std.proofs.lemmas.List.Elements.{Contains-get_or, filter-append}
use Rattle.std.proofs.lemmas.List.Sorted.{Contains-permutation, IsPermutation-sym}
use Rattle.std.proofs.lemmas.List.Kept.{AllPairs-from_increasing, IsStrictlyIncreasing-filter}
use Rattle.auto_core.specs.Automaton.{Automaton, IsAutomaton, Moves, IsAccepting, trans}
use Rattle.auto_core.specs.Build.{IsBuilt}
use Rattle.auto_core.specs.Parts.{AreParts}
use Rattle.auto_core.specs.declared.parts.Trans.{Trans}
use Rattle.auto_core.proofs.RangeLemmas.{range_more}
use Rattle.auto_core.proofs.PathLemmas.{accepting_from_test, test_from_accepting}
use Rattle.auto_core.proofs.MoveLemmas.{move_in_range}
use Rattle.auto_core.proofs.MemberLemmas.{filter_has, filter_from, range_has, range_from, range_rises, no_repeat}
use Rattle.product_search.specs.Found.{pair_at}
use Rattle.lasso_reading.specs.Reading.{ReadsJust, IsReadingProduct}
use Rattle.lasso_reading.specs.Made.{ArePairs, AreMoves, accepts_at}
use Rattle.lasso_reading.proofs.ProductLemmas.{reads_just}

-- One number more, if it passes the test.
pub more_passed :
    (test : ℕ → Bool) (n : ℕ) (made new : List ℕ) (b : Bool)
    → b ≡ test n
    → made ≡ filter test (range_with_len 0 n)
    → new ≡ cond b (made ++ n ∷ []) made
    → new ≡ filter test (range_with_len 0 (n + 1))
more_passed test n made new b is e more =
    let whole : filter test (range_with_len 0 (n + 1)) ≡ filter test (range_with_len 0 n) ++ cond (test n) (n ∷ []) [] =
    ap (λ l. filter test l) (ap (λ k. range_with_len 0 k) (add-one n) ∙ range_more 0 n ∙ ap (λ k. range_with_len 0 n ++ k ∷ []) (zero-add n))
    ∙ filter-append test (range_with_len 0 n) (n ∷ []) in
    more ∙ step b ∙ ap (λ c. filter test (range_with_len 0 n) ++ cond c (n ∷ []) []) is ∙ sym whole
  where
    step : (b : Bool) → cond b (made ++ n ∷ []) made ≡ filter test (range_with_len 0 n) ++ cond b (n ∷ []) []
    step true = ap (λ l. l ++ n ∷ []) e
    step false = e ∙ sym (append-nil (filter test (range_with_len 0 n)))

-- The numbers that were found are those of the accepting pairs.
pub accepting_numbers :
    (A : Automaton) (pairs : List (ℕ × ℕ)) (count : ℕ) (numbers : List ℕ)
    → count ≡ length pairs
    → numbers ≡ filter (accepts_at A pairs) (range_with_len 0 count)
    → numbers ≡ filter (accepts_at A pairs) (range_with_len 0 (length pairs))
accepting_numbers A pairs count numbers all is = is ∙ ap (λ n. filter (accepts_at A pairs) (range_with_len 0 n)) all

all_from : {X : Type 0} (P : X → Type 0) (xs : List X) → ((x : X) → Contains xs x → P x) → All P xs
all_from P xs f k d lt = f (get_or xs k d) (Contains-get_or xs k d lt)

module _ (A : Automaton) (classes cu cv : List ℕ) (valid : IsAutomaton A) (pairs : List (ℕ × ℕ)) (moves : List Trans) (are : ArePairs A classes cu cv pairs) (are_moves : AreMoves A classes cu cv (λ z t. z < length pairs) pairs moves) where
  abbrev numbers : List ℕ
  numbers = filter (accepts_at A pairs) (range_with_len 0 (length pairs))

  numbers_below : (q : ℕ) → Contains numbers q → q < length pairs
  numbers_below q h = range_from (length pairs) q (filter_from (accepts_at A pairs) (range_with_len 0 (length pairs)) q h).0

  pub product_parts : AreParts (length pairs) A.labels 0 moves numbers
  product_parts = record {
    few = are_moves.few;
    in_states = (
      are.some,
      all_from (λ t. (t.source < length pairs) × (t.target < length pairs)) moves (λ t there. let is = are_moves.sound t there in (is.0, is.1)),
      all_from (λ q. q < length pairs) numbers numbers_below,
    );
    in_labels = all_from (λ t. t.label < A.labels) moves (λ t there. (move_in_range A valid (pair_at pairs t.source).0 t.label (pair_at pairs t.target).0 (are_moves.sound t there).2.0).2);
    no_transition_twice = no_repeat (λ m n. m ≡ n → ⊥) (λ m apart. apart refl) moves are_moves.once;
    no_state_twice = no_repeat (λ x y. x < y) (λ x lt. omega (arith, lt)) numbers
        (AllPairs-from_increasing numbers (IsStrictlyIncreasing-filter (accepts_at A pairs) (range_with_len 0 (length pairs)) (range_rises (length pairs))));
  }

  module _ (P : Automaton) (built : IsBuilt (length pairs) A.labels 0 moves numbers P) where
    moves_of : (x a y : ℕ) → Moves P x a y → Contains moves (trans x a y)
    moves_of x a y move = Contains-permutation P.transitions moves (trans x a y) (IsPermutation-sym moves P.transitions built.transitions_given) move

    accepting_to : (x : ℕ) → IsAccepting P x → IsAccepting A (pair_at pairs x).0
    accepting_to x h =
        let there = Contains-permutation P.accepting numbers x (IsPermutation-sym numbers P.accepting built.accepting_given) h in
        accepting_from_test A (pair_at pairs x).0 (filter_from (accepts_at A pairs) (range_with_len 0 (length pairs)) x there).1

    accepting_too : (x : ℕ) → x < length pairs → IsAccepting A (pair_at pairs x).0 → IsAccepting P x
    accepting_too x lt h =
        Contains-permutation numbers P.accepting x built.accepting_given
        (filter_has (accepts_at A pairs) (range_with_len 0 (length pairs)) x (range_has (length pairs) x lt) (test_from_accepting A (pair_at pairs x).0 h))

    is_product : IsReadingProduct A classes cu cv (length pairs) (pair_at pairs) P
    is_product = record {
      valid = built.valid;
      states = built.states_given;
      initial = ap (pair_at pairs) built.initial_given ∙ are.initial;
      positions = are.positions;
      sound = λ x a y move. (are_moves.sound (trans x a y) (moves_of x a y move)).2;
      full = λ x a to lt reads. let (y, y_in, y_is, there) = are_moves.full x a to lt lt reads in (y, y_is, Contains-permutation moves P.transitions (trans x a y) built.transitions_given there);
      accepting = λ x lt. (accepting_to x, accepting_too x lt);
    }

    pub product_reads : 1 ≤ length cv → ReadsJust A classes cu cv P
    product_reads some = reads_just A P classes cu cv (length pairs) (pair_at pairs) some is_product
