-- The automaton over classes of letters from its parts.
use Rattle.std.proofs.Common.{◌≡◌, ℕ, ◌+◌, ◌<◌, ◌^◌, ◌↔◌, Bool, true, false, cond, List, [], ◌∷◌, ◌++◌, length, get_or, map, filter, All, Contains, refl, sym, ap, ◌∙◌, subst, arith, add-one, zero-add}
use Rattle.std.specs.List.{range_with_len}
use Rattle.std.proofs.lemmas.List.{append-nil}
use Rattle.std.proofs.lemmas.List.Elements.{Contains-get_or, filter-append}
use Rattle.std.proofs.lemmas.List.Sorted.{Contains-permutation, IsPermutation-sym}
use Rattle.std.proofs.lemmas.List.Kept.{AllPairs-from_increasing, IsStrictlyIncreasing-filter}
use Rattle.auto_core.specs.Automaton.{Automaton, IsAutomaton, Moves, IsAccepting, is_accepting, HasRepeat, trans}
use Rattle.auto_core.specs.Build.{IsBuilt}
use Rattle.auto_core.specs.Parts.{AreParts}
use Rattle.auto_core.specs.Quotient.{class_of}
use Rattle.auto_core.specs.declared.parts.Trans.{Trans}
use Rattle.auto_core.proofs.RangeLemmas.{range_more}
use Rattle.auto_core.proofs.PathLemmas.{accepting_from_test, test_from_accepting}
use Rattle.auto_core.proofs.MoveLemmas.{move_in_range}
use Rattle.auto_core.proofs.MemberLemmas.{filter_has, filter_from, map_has, map_from, range_has, range_rises, rises_from_pairs, same_members}
use Rattle.quotient.proofs.MergeLaws.{accepting_below}
use Rattle.quotient.proofs.MergedLemmas.{increasing_once}
use Rattle.letter_classes.specs.Columns.{AreLetterClasses, lettered}
use Rattle.map_laws.specs.Maps.{IsRenamed}

-- one state more, if it is accepting
pub more_states :
    (A : Automaton) (n : ℕ) (made new : List ℕ) (b : Bool)
    → b ≡ is_accepting A n
    → made ≡ filter (is_accepting A) (range_with_len 0 n)
    → new ≡ cond b (made ++ n ∷ []) made
    → new ≡ filter (is_accepting A) (range_with_len 0 (n + 1))
more_states A n made new b is e more =
    let whole : filter (is_accepting A) (range_with_len 0 (n + 1)) ≡ filter (is_accepting A) (range_with_len 0 n) ++ cond (is_accepting A n) (n ∷ []) [] =
    ap (λ l. filter (is_accepting A) l) (ap (λ k. range_with_len 0 k) (add-one n) ∙ range_more 0 n ∙ ap (λ k. range_with_len 0 n ++ k ∷ []) (zero-add n))
    ∙ filter-append (is_accepting A) (range_with_len 0 n) (n ∷ []) in
    more ∙ step b ∙ ap (λ c. filter (is_accepting A) (range_with_len 0 n) ++ cond c (n ∷ []) []) is ∙ sym whole
  where
    step : (b : Bool) → cond b (made ++ n ∷ []) made ≡ filter (is_accepting A) (range_with_len 0 n) ++ cond b (n ∷ []) []
    step true = ap (λ l. l ++ n ∷ []) e
    step false = e ∙ sym (append-nil (filter (is_accepting A) (range_with_len 0 n)))

all_from : {X : Type 0} (P : X → Type 0) (xs : List X) → ((x : X) → Contains xs x → P x) → All P xs
all_from P xs f k d lt = f (get_or xs k d) (Contains-get_or xs k d lt)

module _ (A : Automaton) (classes : List ℕ) (n : ℕ) (valid : IsAutomaton A) (len : length classes ≡ A.labels) (counts : AreLetterClasses classes n)
    (ts : List Trans)
    (members : (t : Trans) → Contains ts t ↔ Contains (map (lettered classes) A.transitions) t) where
  states : List ℕ
  states = filter (is_accepting A) (range_with_len 0 A.states)

  image_of : (t : Trans) → Contains ts t → (u : Trans) × Contains A.transitions u × (lettered classes u ≡ t)
  image_of t h = map_from (lettered classes) A.transitions t ((members t).0 h)

  each_image : (P : Trans → Type 0) → ((u : Trans) → Contains A.transitions u → P (lettered classes u)) → All P ts
  each_image P f = all_from P ts (λ t h. let (u, there, is) = image_of t h in subst P is (f u there))

  class_below : (a : ℕ) → a < A.labels → class_of classes a < n
  class_below a a_in = (counts.counts (class_of classes a)).1 (a, omega arith, refl)

  pub renamed_parts : length ts < 2 ^ 32 → (HasRepeat ts → ⊥) → AreParts A.states n A.initial ts (filter (is_accepting A) (range_with_len 0 A.states))
  renamed_parts few once = record {
    few = few;
    in_states = (
      valid.initial_is_state,
      each_image (λ t. (t.source < A.states) × (t.target < A.states)) (λ u h. let r = move_in_range A valid u.source u.label u.target h in (r.0, r.1)),
      all_from (λ q. q < A.states) (filter (is_accepting A) (range_with_len 0 A.states))
          (λ q h. accepting_below A valid q (accepting_from_test A q (filter_from (is_accepting A) (range_with_len 0 A.states) q h).1)),
    );
    in_labels = each_image (λ t. t.label < n) (λ u h. class_below u.label (move_in_range A valid u.source u.label u.target h).2);
    no_transition_twice = once;
    no_state_twice = increasing_once (filter (is_accepting A) (range_with_len 0 A.states)) (IsStrictlyIncreasing-filter (is_accepting A) (range_with_len 0 A.states) (range_rises A.states));
  }

  module _ (C : Automaton) (b : IsBuilt A.states n A.initial ts (filter (is_accepting A) (range_with_len 0 A.states)) C) where
    accepting_to : (q : ℕ) → IsAccepting C q → IsAccepting A q
    accepting_to q h =
        let there = Contains-permutation C.accepting (filter (is_accepting A) (range_with_len 0 A.states)) q (IsPermutation-sym (filter (is_accepting A) (range_with_len 0 A.states)) C.accepting b.accepting_given) h in
        accepting_from_test A q (filter_from (is_accepting A) (range_with_len 0 A.states) q there).1

    accepting_too : (q : ℕ) → IsAccepting A q → IsAccepting C q
    accepting_too q acc =
        Contains-permutation (filter (is_accepting A) (range_with_len 0 A.states)) C.accepting q b.accepting_given
        (filter_has (is_accepting A) (range_with_len 0 A.states) q (range_has A.states q (accepting_below A valid q acc)) (test_from_accepting A q acc))

    pub renamed_built : IsRenamed A classes C
    renamed_built = record {
      valid = b.valid;
      states = b.states_given;
      labels = λ c. let e = b.labels_given in (
        λ h. let (a, a_in, is) = (counts.counts c).0 (omega arith) in (a, omega arith, sym is),
        λ (a, a_in, is). let lt : c < n = (counts.counts c).1 (a, omega arith, sym is) in omega arith,
      );
      initial = b.initial_given;
      moves = λ p c q. (
        λ m.
            let (u, there, is) = image_of (trans p c q) (Contains-permutation C.transitions ts (trans p c q) (IsPermutation-sym ts C.transitions b.transitions_given) m) in (
              u.label,
              subst (λ x. Moves A x u.label q) (ap (λ (t : Trans). t.source) is) (subst (λ x. Moves A u.source u.label x) (ap (λ (t : Trans). t.target) is) there),
              sym (ap (λ (t : Trans). t.label) is),
            ),
        λ (a, m, is).
            let made = (members (trans p (class_of classes a) q)).1 (map_has (lettered classes) A.transitions (trans p a q) m) in
            let in_C = Contains-permutation ts C.transitions (trans p (class_of classes a) q) b.transitions_given made in
            subst (λ x. Moves C p x q) (sym is) in_C,
      );
      accepting = same_members (λ x y. x < y) (λ x y h g. omega arith) C.accepting A.accepting
          (rises_from_pairs (λ x y. x < y) C.accepting (AllPairs-from_increasing C.accepting b.valid.accepting_in_order))
          (rises_from_pairs (λ x y. x < y) A.accepting (AllPairs-from_increasing A.accepting valid.accepting_in_order))
          accepting_to accepting_too;
    }
