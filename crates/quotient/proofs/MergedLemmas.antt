-- The automaton of the classes from its parts.
use Rattle.std.proofs.Common.{◌≡◌, ℕ, ◌+◌, ◌<◌, ◌^◌, ◌↔◌, Bool, true, false, cond, List, [], ◌∷◌, ◌++◌, length, get_or, map, filter, All, Contains, refl, sym, ap, ◌∙◌, subst, arith, suc, zero, add-zero, add-one, zero-add}
use Rattle.std.specs.List.{range_with_len}
use Rattle.std.specs.List.Sorted.{IsStrictlyIncreasing}
use Rattle.std.proofs.lemmas.List.{map-append, append-nil}
use Rattle.std.proofs.lemmas.List.Elements.{Contains-get_or, filter-append}
use Rattle.std.proofs.lemmas.List.Sorted.{Contains-permutation, IsPermutation-sym}
use Rattle.std.proofs.lemmas.List.Kept.{AllPairs-from_increasing}
use Rattle.auto_core.specs.Automaton.{Automaton, IsAutomaton, Moves, IsAccepting, is_accepting, HasRepeat, trans}
use Rattle.auto_core.specs.Build.{IsBuilt}
use Rattle.auto_core.specs.Parts.{AreParts}
use Rattle.auto_core.specs.declared.parts.Trans.{Trans}
use Rattle.auto_core.proofs.RangeLemmas.{range_more}
use Rattle.auto_core.proofs.PathLemmas.{accepting_from_test, test_from_accepting}
use Rattle.auto_core.proofs.MoveLemmas.{move_in_range}
use Rattle.auto_core.proofs.MemberLemmas.{filter_has, filter_from, map_has, map_from, range_has, no_repeat}
use Rattle.auto_core.specs.Quotient.{class_of, IsQuotient}
use Rattle.quotient.specs.Counting.{IsCount}
use Rattle.quotient.specs.Images.{image}
use Rattle.quotient.proofs.MergeLaws.{accepting_below}

-- numbers that increase have no repeat
pub increasing_once : (xs : List ℕ) → IsStrictlyIncreasing xs → HasRepeat xs → ⊥
increasing_once xs up = no_repeat (λ x y. x < y) (λ x h. omega arith) xs (AllPairs-from_increasing xs up)

-- one state more, if it is accepting
pub more_classes :
    (A : Automaton) (classes : List ℕ) (n : ℕ) (made new : List ℕ) (b : Bool)
    → b ≡ is_accepting A n
    → made ≡ map (class_of classes) (filter (is_accepting A) (range_with_len 0 n))
    → new ≡ cond b (made ++ class_of classes n ∷ []) made
    → new ≡ map (class_of classes) (filter (is_accepting A) (range_with_len 0 (n + 1)))
more_classes A classes n made new b is e more =
    let N = class_of classes in
    let whole : map N (filter (is_accepting A) (range_with_len 0 (n + 1))) ≡ map N (filter (is_accepting A) (range_with_len 0 n)) ++ map N (cond (is_accepting A n) (n ∷ []) []) =
    ap (λ l. map N (filter (is_accepting A) l)) (ap (λ k. range_with_len 0 k) (add-one n) ∙ range_more 0 n ∙ ap (λ k. range_with_len 0 n ++ k ∷ []) (zero-add n))
    ∙ ap (λ l. map N l) (filter-append (is_accepting A) (range_with_len 0 n) (n ∷ []))
    ∙ map-append N (filter (is_accepting A) (range_with_len 0 n)) (cond (is_accepting A n) (n ∷ []) []) in
    more ∙ step b ∙ ap (λ c. map N (filter (is_accepting A) (range_with_len 0 n)) ++ map N (cond c (n ∷ []) [])) is ∙ sym whole
  where
    step : (b : Bool) → cond b (made ++ class_of classes n ∷ []) made ≡ map (class_of classes) (filter (is_accepting A) (range_with_len 0 n)) ++ map (class_of classes) (cond b (n ∷ []) [])
    step true = ap (λ l. l ++ class_of classes n ∷ []) e
    step false = e ∙ sym (append-nil (map (class_of classes) (filter (is_accepting A) (range_with_len 0 n))))

all_from : {X : Type 0} (P : X → Type 0) (xs : List X) → ((x : X) → Contains xs x → P x) → All P xs
all_from P xs f k d lt = f (get_or xs k d) (Contains-get_or xs k d lt)

module _ (A : Automaton) (classes : List ℕ) (n : ℕ) (valid : IsAutomaton A) (len : length classes ≡ A.states) (counts : IsCount classes (length classes) n)
    (ts : List Trans) (qs : List ℕ)
    (t_members : (t : Trans) → Contains ts t ↔ Contains (map (image classes) A.transitions) t)
    (q_members : (c : ℕ) → Contains qs c ↔ Contains (map (class_of classes) (filter (is_accepting A) (range_with_len 0 A.states))) c) where
  class_below : (q : ℕ) → q < A.states → class_of classes q < n
  class_below q q_in = (counts (class_of classes q)).1 (q, omega arith, refl)

  image_of : (t : Trans) → Contains ts t → (u : Trans) × Contains A.transitions u × (image classes u ≡ t)
  image_of t h = map_from (image classes) A.transitions t ((t_members t).0 h)

  class_from : (c : ℕ) → Contains qs c → (q : ℕ) × IsAccepting A q × (class_of classes q ≡ c)
  class_from c h =
      let (q, there, is) = map_from (class_of classes) (filter (is_accepting A) (range_with_len 0 A.states)) c ((q_members c).0 h) in
      (q, accepting_from_test A q (filter_from (is_accepting A) (range_with_len 0 A.states) q there).1, is)

  class_to : (c q : ℕ) → IsAccepting A q → c ≡ class_of classes q → Contains qs c
  class_to c q acc is =
      let near = range_has A.states q (accepting_below A valid q acc) in
      let there = filter_has (is_accepting A) (range_with_len 0 A.states) q near (test_from_accepting A q acc) in
      (q_members c).1 (subst (λ x. Contains (map (class_of classes) (filter (is_accepting A) (range_with_len 0 A.states))) x) (sym is) (map_has (class_of classes) (filter (is_accepting A) (range_with_len 0 A.states)) q there))

  -- what is said of each image is said of each of the transitions
  each_image : (P : Trans → Type 0) → ((u : Trans) → Contains A.transitions u → P (image classes u)) → All P ts
  each_image P f = all_from P ts (λ t h. let (u, there, is) = image_of t h in subst P is (f u there))

  pub merged_parts : length ts < 2 ^ 32 → (HasRepeat ts → ⊥) → (HasRepeat qs → ⊥) → AreParts n A.labels (class_of classes A.initial) ts qs
  merged_parts few once q_once = record {
    few = few;
    in_states = (
      class_below A.initial valid.initial_is_state,
      each_image (λ t. (t.source < n) × (t.target < n)) (λ u h. let r = move_in_range A valid u.source u.label u.target h in (class_below u.source r.0, class_below u.target r.1)),
      all_from (λ q. q < n) qs (λ c h. let (q, acc, is) = class_from c h in subst (λ x. x < n) is (class_below q (accepting_below A valid q acc))),
    );
    in_labels = each_image (λ t. t.label < A.labels) (λ u h. (move_in_range A valid u.source u.label u.target h).2);
    no_transition_twice = once;
    no_state_twice = q_once;
  }

  pub merged_built : (B : Automaton) → IsBuilt n A.labels (class_of classes A.initial) ts qs B → IsQuotient A classes B
  merged_built B b = record {
    valid = b.valid;
    states = λ c. let e = b.states_given in (
      λ h. let (q, q_in, is) = (counts c).0 (omega arith) in (q, omega arith, sym is),
      λ (q, q_in, is). let lt : c < n = (counts c).1 (q, omega arith, sym is) in omega arith,
    );
    labels = b.labels_given;
    initial = b.initial_given;
    moves = λ c a d. (
      λ m.
          let (u, there, is) = image_of (trans c a d) (Contains-permutation B.transitions ts (trans c a d) (IsPermutation-sym ts B.transitions b.transitions_given) m) in
          (u.source, u.target, subst (λ x. Moves A u.source x u.target) (ap (λ (t : Trans). t.label) is) there, sym (ap (λ (t : Trans). t.source) is), sym (ap (λ (t : Trans). t.target) is)),
      λ (p, q, m, c_is, d_is).
          let made = (t_members (trans (class_of classes p) a (class_of classes q))).1 (map_has (image classes) A.transitions (trans p a q) m) in
          let in_B = Contains-permutation ts B.transitions (trans (class_of classes p) a (class_of classes q)) b.transitions_given made in
          subst (λ x. Moves B x a d) (sym c_is) (subst (λ x. Moves B (class_of classes p) a x) (sym d_is) in_B),
    );
    accepting = λ c. (
      λ h.
          let (q, acc, is) = class_from c (Contains-permutation B.accepting qs c (IsPermutation-sym qs B.accepting b.accepting_given) h) in
          (q, acc, sym is),
      λ (q, acc, is). Contains-permutation qs B.accepting c b.accepting_given (class_to c q acc is),
    );
  }
