-- Rounds: what they keep, and what is known when no state is due.
use Rattle.std.proofs.Common.{◌≡◌, ℕ, zero, suc, ◌^◌, ◌<◌, ◌≤◌, ◌⊎◌, inl, inr, Bool, true, false, List, [], ◌∷◌, length, slice_index, Contains, Vec, Global, refl, sym, ap, ◌∙◌, subst, arith, if◌then◌else◌}
use Rattle.std.proofs.lemmas.Bool.{cases_lt}
use Rattle.auto_core.specs.Automaton.{Automaton, IsAutomaton, Moves, IsAccepting, is_accepting}
use Rattle.auto_core.specs.Quotient.{class_of, AreClassesOf}
use Rattle.auto_core.proofs.Accepting.{Contains-from_test, test-from_Contains}
use Rattle.auto_core.proofs.MemberLemmas.{same_bool}
use Rattle.auto_core.proofs.MoveLemmas.{move_in_range}
use Rattle.evidence.specs.Tables.{numbers_at}
use Rattle.map_laws.specs.Bisimulation.{IsBisimulation}
use Rattle.bisimulation.specs.Coarsest.{IsCoarser, IsCoarsest}
use Rattle.bisimulation.specs.Signatures.{packed, IsMark, IsSignedBy, AreDifferent, AreSigned}
use Rattle.bisimulation.specs.Rounds.{AreBelow, IsLaidOut, AreListed, IsSplit, IsSettled, IsBetweenRounds}
use Rattle.bisimulation.specs.declared.partition.Partition.{Partition}
use Rattle.bisimulation.proofs.PutLemmas.{has_or_not}
use Rattle.bisimulation.proofs.SignatureLemmas.{one_signature, signature_as, signed_as, unpacked}

-- ---- after the signing

module _ (A : Automaton) (t0 t1 : List (Vec ℕ Global)) (due : List ℕ) (s0 s1 : Partition) (k : IsBetweenRounds A t0 due s0)
    (signed : AreSigned A s0.of.items t0 t1 due s0.signs.items s1.signs.items)
    (of : s1.of.items ≡ s0.of.items) (kept : s1.kept.items ≡ s0.kept.items) (members : s1.members.items ≡ s0.members.items) (dues : s1.dues.items ≡ s0.dues.items) where
  pub laid_signed : IsLaidOut A.states s1
  laid_signed = let l = k.laid in record {
    of = ap length of ∙ l.of;
    signs = signed.size ∙ l.signs;
    members = ap length members ∙ l.members ∙ sym (ap length kept);
    dues = ap length dues ∙ l.dues ∙ sym (ap length kept);
    few = subst (λ (x : List ℕ). length x ≤ 2 ^ 32) (sym kept) l.few;
    classes = λ p p_in. subst (λ (x : List ℕ). class_of s1.of.items p < length x) (sym kept) (subst (λ (x : List ℕ). class_of x p < length s0.kept.items) (sym of) (l.classes p p_in));
    listed = λ p p_in. subst (λ (x : List ℕ). Contains (numbers_at s1.members.items (class_of x p)) p) (sym of) (subst (λ (t : List (Vec ℕ Global)). Contains (numbers_at t (class_of s0.of.items p)) p) (sym members) (l.listed p p_in));
    below = λ c. subst (λ (t : List (Vec ℕ Global)). AreBelow A.states (numbers_at t c)) (sym members) (l.below c);
  }

  pub listed_signed : AreListed A.states s1 due
  listed_signed p p_in = elim (k.settled p p_in) [
    | inl h ↦ inl h
    | inr settled ↦ elim (signed.others p) [
      | inl h ↦ inl h
      | inr same ↦ inr (ap (slice_index s1.kept.items) (ap (λ l. class_of l p) of) ∙ ap (λ l. slice_index l (class_of s0.of.items p)) kept ∙ settled.1 ∙ sym same)
    ]
  ]

  pub all_signed : (p : ℕ) → p < A.states → IsSignedBy A s0.of.items t1 p (slice_index s1.signs.items p)
  all_signed p p_in = elim (k.settled p p_in) [
    | inl h ↦ signed.signed p h
    | inr settled ↦ elim (signed.others p) [
      | inl h ↦ signed.signed p h
      | inr same ↦ subst (IsSignedBy A s0.of.items t1 p) (sym same) (signed_as A s0.of.items t0 t1 p (slice_index s0.signs.items p) signed.keeps settled.0)
    ]
  ]

-- ---- after the split

module _ (A : Automaton) (valid : IsAutomaton A) (t1 : List (Vec ℕ Global)) (s0 s2 s3 : Partition) (moved next : List ℕ)
    (accept : (p q : ℕ) → p < A.states → q < A.states → class_of s0.of.items p ≡ class_of s0.of.items q → IsAccepting A p → IsAccepting A q)
    (coarser : IsCoarser A s0.of.items)
    (different : AreDifferent t1)
    (signed : (p : ℕ) → p < A.states → IsSignedBy A s0.of.items t1 p (slice_index s2.signs.items p))
    (of : s2.of.items ≡ s0.of.items)
    (split : IsSplit A.states s2 s3 moved)
    (below : AreBelow A.states next)
    (sources : (p a q : ℕ) → Contains moved q → Moves A p a q → Contains next p) where
  -- states that a bisimulation relates have the same marks
  mark_over : (other : List ℕ) → IsBisimulation A other → (p q : ℕ) → p < A.states → q < A.states → class_of other p ≡ class_of other q
      → (mark : ℕ) → IsMark A s0.of.items p mark → IsMark A s0.of.items q mark
  mark_over other alike p q p_in q_in same mark (a, r, move, is) =
      let (s, answer, to) = alike.moves p q a r p_in q_in same move in
      let r_in = (move_in_range A valid p a r move).1 in
      let s_in = (move_in_range A valid q a s answer).1 in
      (a, s, answer, is ∙ ap (packed a) (coarser other alike r s r_in s_in to))

  one_sign : (other : List ℕ) → IsBisimulation A other → (p q : ℕ) → p < A.states → q < A.states → class_of other p ≡ class_of other q
      → slice_index s2.signs.items p ≡ slice_index s2.signs.items q
  one_sign other alike p q p_in q_in same =
      let (p_within, p_signature) = signed p p_in in
      let (q_within, q_signature) = signed q q_in in
      different (slice_index s2.signs.items p) (slice_index s2.signs.items q) p_within q_within
      (one_signature A s0.of.items p q (numbers_at t1 (slice_index s2.signs.items p)) (numbers_at t1 (slice_index s2.signs.items q)) p_signature q_signature
      (mark_over other alike p q p_in q_in same) (mark_over other alike q p q_in p_in (sym same)))

  of_at : (p : ℕ) → class_of s2.of.items p ≡ class_of s0.of.items p
  of_at p = ap (λ l. class_of l p) of

  still_coarser : IsCoarser A s3.of.items
  still_coarser other alike p q p_in q_in same =
      (split.joins p q p_in q_in).1 (of_at p ∙ coarser other alike p q p_in q_in same ∙ sym (of_at q), one_sign other alike p q p_in q_in same)

  still_settled : (p : ℕ) → p < A.states → Contains next p ⊎ IsSettled A t1 s3 p
  still_settled p p_in = elim (has_or_not next p) [
    | inl h ↦ inl h
    | inr none ↦
        let (within, signature) = signed p p_in in
        let stays : (a r : ℕ) → Moves A p a r → class_of s3.of.items r ≡ class_of s0.of.items r = λ a r move. elim (split.told r (move_in_range A valid p a r move).1) [
          | inl gone ↦ absurd (none (sources p a r gone move))
          | inr same ↦ same ∙ of_at r
        ] in
        inr (
          subst (IsSignedBy A s3.of.items t1 p) (ap (λ l. slice_index l p) (sym split.signs))
              (within, signature_as A s0.of.items s3.of.items p (numbers_at t1 (slice_index s2.signs.items p)) stays signature),
          split.kept p p_in,
        )
  ]

  pub next_round : IsBetweenRounds A t1 next s3
  next_round = record {
    laid = split.laid;
    different = different;
    below = below;
    settled = still_settled;
    accept = λ p q p_in q_in same. accept p q p_in q_in (sym (of_at p) ∙ ((split.joins p q p_in q_in).0 same).0 ∙ of_at q);
    coarser = still_coarser;
  }

-- ---- when no state is due

module _ (A : Automaton) (valid : IsAutomaton A) (table : List (Vec ℕ Global)) (due : List ℕ) (s : Partition) (k : IsBetweenRounds A table due s) (none : length due ≡ 0)
    (classes : List ℕ) (is : AreClassesOf (length s.of.items) (λ p q. class_of s.of.items p ≡ class_of s.of.items q) classes) where
  settled_all : (p : ℕ) → p < A.states → IsSettled A table s p
  settled_all p p_in = elim (k.settled p p_in) [
    | inl h ↦ let (i, lt, at) = h in absurd (omega (arith, none))
    | inr settled ↦ settled
  ]

  in_of : (p : ℕ) → p < A.states → p < length s.of.items
  in_of p p_in = let e = k.laid.of in omega arith

  joins : (p q : ℕ) → p < A.states → q < A.states → class_of classes p ≡ class_of classes q → class_of s.of.items p ≡ class_of s.of.items q
  joins p q p_in q_in same = ((is.joins p q (in_of p p_in) (in_of q q_in)).0 same).0

  joined : (p q : ℕ) → p < A.states → q < A.states → class_of s.of.items p ≡ class_of s.of.items q → class_of classes p ≡ class_of classes q
  joined p q p_in q_in same = (is.joins p q (in_of p p_in) (in_of q q_in)).1 (same, sym same)

  class_fits : (p : ℕ) → p < A.states → class_of s.of.items p < 2 ^ 32
  class_fits p p_in = let c = k.laid.classes p p_in in let f = k.laid.few in omega arith

  answered : (p q a r : ℕ) → p < A.states → q < A.states → class_of s.of.items p ≡ class_of s.of.items q → Moves A p a r → (t : ℕ) × Moves A q a t × (class_of classes r ≡ class_of classes t)
  answered p q a r p_in q_in same move =
      let one = settled_all p p_in in
      let two = settled_all q q_in in
      let signs : slice_index s.signs.items p ≡ slice_index s.signs.items q = sym one.1 ∙ ap (slice_index s.kept.items) same ∙ two.1 in
      let there : Contains (numbers_at table (slice_index s.signs.items q)) (packed a (class_of s.of.items r)) =
      subst (λ (x : ℕ). Contains (numbers_at table x) (packed a (class_of s.of.items r))) signs ((one.0.1.marks (packed a (class_of s.of.items r))).1 (a, r, move, refl)) in
      let (b, t, answer, packs) = (two.0.1.marks (packed a (class_of s.of.items r))).0 there in
      let r_in = (move_in_range A valid p a r move).1 in
      let t_in = (move_in_range A valid q b t answer).1 in
      let both = unpacked a (class_of s.of.items r) b (class_of s.of.items t) (class_fits r r_in) (class_fits t t_in) packs in
      (t, subst (λ (x : ℕ). Moves A q x t) (sym both.0) answer, joined r t r_in t_in both.1)

  pub is_coarsest : IsCoarsest A classes
  is_coarsest = record {
    valid = is.valid;
    len = is.len ∙ k.laid.of;
    alike = record {
      accept = λ p q p_in q_in same. k.accept p q p_in q_in (joins p q p_in q_in same);
      moves = λ p q a r p_in q_in same. answered p q a r p_in q_in (joins p q p_in q_in same);
    };
    coarsest = λ other alike p q p_in q_in same. joined p q p_in q_in (k.coarser other alike p q p_in q_in same);
  }

-- ---- before the first round

-- Both classes list all states.
both_lists : (v w : Vec ℕ Global) (all : List ℕ) → v.items ≡ all → w.items ≡ all → (c : ℕ) → (c < 2 → numbers_at (v ∷ w ∷ []) c ≡ all) × (2 ≤ c → numbers_at (v ∷ w ∷ []) c ≡ [])
both_lists v w all v_is w_is zero = (λ lt. v_is, λ past. absurd (omega arith))
both_lists v w all v_is w_is (suc zero) = (λ lt. w_is, λ past. absurd (omega arith))
both_lists v w all v_is w_is (suc (suc c)) = (λ lt. absurd (omega arith), λ past. refl)

number_small : (b : Bool) → (if b then 1 else 0) < 2
number_small true = omega arith
number_small false = omega arith

same_number : (a b : Bool) → ◌≡◌ {A = ℕ} (if a then 1 else 0) (if b then 1 else 0) → a ≡ b
same_number true true e = refl
same_number true false e = absurd (omega (arith, e))
same_number false true e = absurd (omega (arith, e))
same_number false false e = refl

module _ (A : Automaton) (s : Partition) (all : List ℕ) (v w : Vec ℕ Global)
    (of_size : length s.of.items ≡ A.states) (signs_size : length s.signs.items ≡ A.states) (kept_size : length s.kept.items ≡ 2) (dues_size : length s.dues.items ≡ 2)
    (members : s.members.items ≡ v ∷ w ∷ []) (v_is : v.items ≡ all) (w_is : w.items ≡ all)
    (below : AreBelow A.states all) (has : (p : ℕ) → p < A.states → Contains all p)
    (each : (p : ℕ) → p < A.states → class_of s.of.items p ≡ (if is_accepting A p then 1 else 0)) where
  class_small : (p : ℕ) → p < A.states → class_of s.of.items p < 2
  class_small p p_in = subst (λ (x : ℕ). x < 2) (sym (each p p_in)) (number_small (is_accepting A p))

  lists_below : (c : ℕ) → AreBelow A.states (numbers_at (v ∷ w ∷ []) c)
  lists_below c = elim (cases_lt c 2) [
    | inl lt ↦ subst (AreBelow A.states) (sym ((both_lists v w all v_is w_is c).0 lt)) below
    | inr past ↦ subst (AreBelow A.states) (sym ((both_lists v w all v_is w_is c).1 past)) (λ k d lt. absurd (omega arith))
  ]

  alike_at : (p q : ℕ) → p < A.states → q < A.states → is_accepting A p ≡ is_accepting A q → class_of s.of.items p ≡ class_of s.of.items q
  alike_at p q p_in q_in same = each p p_in ∙ ap (λ b. if b then 1 else 0) same ∙ sym (each q q_in)

  pub first_round : IsBetweenRounds A [] all s
  first_round = record {
    laid = record {
      of = of_size;
      signs = signs_size;
      members = ap length members ∙ sym kept_size;
      dues = dues_size ∙ sym kept_size;
      few = omega (arith, kept_size);
      classes = λ p p_in. subst (λ (x : ℕ). class_of s.of.items p < x) (sym kept_size) (class_small p p_in);
      listed = λ p p_in. subst (λ (t : List (Vec ℕ Global)). Contains (numbers_at t (class_of s.of.items p)) p) (sym members)
          (subst (λ l. Contains l p) (sym ((both_lists v w all v_is w_is (class_of s.of.items p)).0 (class_small p p_in))) (has p p_in));
      below = λ c. subst (λ (t : List (Vec ℕ Global)). AreBelow A.states (numbers_at t c)) (sym members) (lists_below c);
    };
    different = λ i j i_in. absurd (omega arith);
    below = below;
    settled = λ p p_in. inl (has p p_in);
    accept = λ p q p_in q_in same accepts.
        Contains-from_test A.accepting q
        (sym (same_number (is_accepting A p) (is_accepting A q) (sym (each p p_in) ∙ same ∙ each q q_in)) ∙ test-from_Contains A.accepting p accepts);
    coarser = λ other alike p q p_in q_in same.
        alike_at p q p_in q_in
        (same_bool (is_accepting A p) (is_accepting A q)
        (λ on. test-from_Contains A.accepting q (alike.accept p q p_in q_in same (Contains-from_test A.accepting p on)))
        (λ on. test-from_Contains A.accepting p (alike.accept q p q_in p_in (sym same) (Contains-from_test A.accepting q on))));
  }
