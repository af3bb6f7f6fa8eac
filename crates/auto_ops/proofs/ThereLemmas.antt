-- An intersection that is not too large is there.
use Rattle.std.proofs.Common.{◌≡◌, ℕ, zero, suc, ◌+◌, ◌<◌, ◌≤◌, ◌⊎◌, inl, inr, List, [], ◌∷◌, ◌++◌, length, get_or, take, map, Contains, true≢false, length-append, append_assoc, refl, sym, ap, ◌∙◌, subst, arith}
use Rattle.std.proofs.lemmas.Bool.{cases_Bool, cases_lt}
use Rattle.std.proofs.lemmas.List.{append-nil}
use Rattle.std.proofs.lemmas.List.Elements.{All-contains, Contains-append_right}
use Rattle.std.proofs.lemmas.Option.{slice_get-get_or}
use Rattle.auto_core.specs.Automaton.{Automaton, IsAutomaton, IsAccepting, is_accepting, IsBefore, IsInRange, trans}
use Rattle.auto_core.specs.Outcome.{At}
use Rattle.auto_core.specs.declared.parts.Mode.{Mode}
use Rattle.auto_core.specs.declared.parts.Mode.TheVariants.{Buchi, Finite}
use Rattle.auto_core.specs.declared.parts.Trans.{Trans}
use Rattle.auto_core.proofs.MoveLemmas.{move_in_range}
use Rattle.auto_core.proofs.Order.{IsBefore-trans}
use Rattle.auto_core.proofs.PathLemmas.{Contains-here, Contains-later, none_in_nil, accepting_from_test, test_from_accepting}
use Rattle.auto_core.proofs.MemberLemmas.{Rises, map_has}
use Rattle.ba_format.specs.Sight.{first_seen, noted}
use Rattle.auto_ops.specs.declared.product_states.ProductState.{ProductState}
use Rattle.auto_ops.specs.Limits.{IsSmallResult}
use Rattle.auto_ops.specs.Intersection.{ProductMove, start_of, IsAcceptingProductState, moves_of, moves_from, same_product_state, seen_by, IsIntersection, IsIntersectionTooLarge}
use Rattle.auto_ops.specs.UnderWay.{IsInside, IsUnderWay, AreTooMany, IsRoomy, IsExplored, IsExploredUpto}
use Rattle.auto_ops.specs.Laws.{IntersectionIsThere}
use Rattle.auto_ops.proofs.SightLemmas.{Differ, all_from, apart_once, place_of, first_has}
use Rattle.auto_ops.proofs.ProductLemmas.{same_equal, same_itself, move_from, noted_next, step, more_too_many, step_too_many, inside_noted, explored_start, explored_more, explored_all, explored_too_many, moves_to, moves_back, intersection_parts, HasAccepting, accepting_more, accepting_same, accepting_all}
use Rattle.auto_ops.proofs.CountLemmas.{rises_at, in_order}
use Rattle.auto_ops.proofs.OneLaws.{before_cases, number_cases}

-- ---- the moves from one product state

-- after a move its target is among what is seen
target_seen : (A B : Automaton) (ms : List ProductMove) (m : ProductMove) → Contains (first_seen same_product_state (seen_by A B (ms ++ m ∷ []))) m.target
target_seen A B ms m =
    let all = ms ++ m ∷ [] in
    let m_in : Contains all m = Contains-append_right ms (m ∷ []) m (Contains-here m m [] refl) in
    first_has same_product_state same_equal same_itself (seen_by A B all) m.target
    (Contains-later (start_of A B) m.target (map (λ (n : ProductMove). n.target) all) (map_has (λ (n : ProductMove). n.target) all m m_in))

-- the moves from a product state with this number are gone through, or are too many
abbrev AreThrough : Automaton → Automaton → List ProductMove → Type 0
AreThrough A B ms = AreTooMany A B ms ⊎ ((new : List ProductState) × (next : List Trans) × IsUnderWay A B ms new next × IsRoomy A B new next)

through : (A B : Automaton) (t : ProductState) (number : ℕ) (ms more : List ProductMove) (product_states : List ProductState) (ts : List Trans)
    → IsUnderWay A B ms product_states ts
    → IsRoomy A B product_states ts
    → At product_states number t
    → ((m : ProductMove) → Contains more m → (m.source ≡ t) × IsInside A B m.target)
    → AreThrough A B (ms ++ more)
through A B t number ms [] product_states ts under roomy at all =
    let P : List ProductMove → Type 0 = λ l. IsUnderWay A B l product_states ts in
    inr (product_states, ts, subst P (sym (append-nil ms)) under, roomy)
through A B t number ms (m ∷ more) product_states ts under roomy at all =
    let (from, inside) = all m (Contains-here m m more refl) in
    let new = noted same_product_state product_states m.target in
    let next = ts ++ trans number m.label target.0 ∷ [] in
    let whole : (ms ++ m ∷ []) ++ more ≡ ms ++ m ∷ more = append_assoc ms (m ∷ []) more in
    let Q : List ProductMove → Type 0 = λ l. AreTooMany A B l in
    elim (cases_lt 2048 (length new)) [
      | inl many ↦ inl (subst Q whole (more_too_many A B (ms ++ m ∷ []) more (step_too_many A B ms m product_states ts under (inl many))))
      | inr few ↦ elim (cases_lt 65536 (length ts + 1)) [
        | inl many ↦ inl (subst Q whole (more_too_many A B (ms ++ m ∷ []) more (step_too_many A B ms m product_states ts under (inr many))))
        | inr few_moves ↦
            let here : At product_states number m.source = subst (λ (u : ProductState). At product_states number u) (sym from) at in
            let after = step A B ms m product_states new ts next number target.0 under here refl target.1 refl in
            let roomy_after : IsRoomy A B new next = record {
              few = few;
              few_transitions = omega (arith, length-append ts (trans number m.label target.0 ∷ []));
              inside = inside_noted A B product_states m.target roomy.inside inside;
            } in
            let there : At new number t = subst (λ (u : ProductState). At new number u) from after.1 in
            subst (AreThrough A B) whole (through A B t number (ms ++ m ∷ []) more new next after.0 roomy_after there (λ n h. all n (Contains-later m n more h)))
      ]
    ]
  where
    target : (i : ℕ) × At (noted same_product_state product_states m.target) i m.target
    target =
        let seen : noted same_product_state product_states m.target ≡ first_seen same_product_state (seen_by A B (ms ++ m ∷ [])) =
        ap (λ l. noted same_product_state l m.target) under.seen ∙ noted_next A B ms m in
        place_of (noted same_product_state product_states m.target) m.target (subst (λ (l : List ProductState). Contains l m.target) (sym seen) (target_seen A B ms m))

-- ---- all product states

module _ (mode : Mode) (A B : Automaton) (a_valid : IsAutomaton A) (b_valid : IsAutomaton B) where
  from_inside : (t : ProductState) (m : ProductMove) → Contains (moves_of mode A B t) m → (m.source ≡ t) × IsInside A B m.target
  from_inside t m h =
      let (is, goes) = move_from mode A B t m h in
      (is, ((move_in_range A a_valid t.first m.label m.target.first goes.first).1, (move_in_range B b_valid t.second m.label m.target.second goes.second).1))

  -- each product state is gone through, as long as there are more
  explored : (IsIntersectionTooLarge mode A B → ⊥) → (fuel done : ℕ) (product_states : List ProductState) (ts : List Trans)
      → 2048 ≤ done + fuel
      → IsExploredUpto mode A B done product_states ts
      → (new : List ProductState) × (next : List Trans) × IsExplored mode A B new next
  explored small zero done product_states ts enough upto = (product_states, ts, explored_all mode A B done product_states ts (omega (arith, upto.roomy.few)) upto)
  explored small (suc fuel) done product_states ts enough upto = elim (cases_lt done (length product_states)) [
    | inr over ↦ (product_states, ts, explored_all mode A B done product_states ts over upto)
    | inl lt ↦
        let d = start_of A B in
        let t = get_or product_states done d in
        let before = moves_from mode A B (take done product_states) in
        elim (through A B t done before (moves_of mode A B t) product_states ts upto.so_far upto.roomy (slice_get-get_or product_states done d lt) (from_inside t)) [
          | inl many ↦ absurd (small (explored_too_many mode A B a_valid b_valid done product_states ts d lt upto many))
          | inr (new, next, under, roomy) ↦ explored small fuel (done + 1) new next (omega (arith, enough)) (explored_more mode A B done product_states new ts next d lt upto under roomy)
        ]
  ]

-- ---- the accepting ones

accepts_or_not : (A : Automaton) (p : ℕ) → IsAccepting A p ⊎ (IsAccepting A p → ⊥)
accepts_or_not A p = elim (cases_Bool (is_accepting A p)) [
  | inl is ↦ inl (accepting_from_test A p is)
  | inr not ↦ inr (λ h. true≢false (sym (test_from_accepting A p h) ∙ not))
]

both_or_not : (mode : Mode) (A B : Automaton) (t : ProductState) → IsAcceptingProductState mode A B t ⊎ (IsAcceptingProductState mode A B t → ⊥)
both_or_not Buchi A B t = elim (accepts_or_not A t.first) [
  | inr not ↦ inr (λ h. not h.0)
  | inl is ↦ elim (cases_Bool t.awaits_second) [ inl on ↦ inr (λ h. true≢false (sym on ∙ h.1)) | inr off ↦ inl (is, off) ]
]
both_or_not Finite A B t = elim (accepts_or_not A t.first) [
  | inr not ↦ inr (λ h. not h.0)
  | inl is ↦ elim (accepts_or_not B t.second) [ inl too ↦ inl (is, too) | inr not ↦ inr (λ h. not h.1) ]
]

accepting_upto : (mode : Mode) (A B : Automaton) (product_states : List ProductState) (n : ℕ) → n ≤ length product_states → (made : List ℕ) × HasAccepting mode A B product_states n made × Rises Differ made
accepting_upto mode A B product_states zero le = ([], λ k. (λ h. absurd (none_in_nil k h), λ (t, below, at_k, both). absurd (omega arith)), tt)
accepting_upto mode A B product_states (suc n) le =
    let (made, members, apart) = accepting_upto mode A B product_states n (omega arith) in
    let d = start_of A B in
    let e : n + 1 ≡ suc n = omega arith in
    elim (both_or_not mode A B (get_or product_states n d)) [
      | inl both ↦
          let (more, up) = accepting_more mode A B product_states n made d (omega arith) members both apart in
          (made ++ n ∷ [], subst (λ k. HasAccepting mode A B product_states k (made ++ n ∷ [])) e more, up)
      | inr not ↦ (made, subst (λ k. HasAccepting mode A B product_states k made) e (accepting_same mode A B product_states n made d (omega arith) members not), apart)
    ]

-- ---- the intersection

module _ (mode : Mode) (A B : Automaton) (a_valid : IsAutomaton A) (b_valid : IsAutomaton B) (few_labels : A.labels ≤ 256) where
  made_of : (product_states : List ProductState) (moves : List Trans) → IsExplored mode A B product_states moves → (C : Automaton) × IsIntersection mode A B C × IsSmallResult C
  made_of product_states moves explored =
      let (made, upto, apart) = accepting_upto mode A B product_states (length product_states) (omega arith) in
      let members = accepting_all mode A B product_states (length product_states) made (omega arith) upto in
      let parts = intersection_parts mode A B product_states moves made explored a_valid b_valid members (apart_once made apart) in
      let (start_in, ends_in, accepting_in) = parts.in_states in
      let (ts, ts_up, ts_has, ts_len) = in_order IsBefore IsBefore-trans before_cases moves in
      let (qs, qs_up, qs_has, _) = in_order (λ (x y : ℕ). x < y) (λ x y z p q. omega arith) number_cases made in
      let few = explored.roomy.few in
      let few_transitions = explored.roomy.few_transitions in
      let C : Automaton = record { states = length product_states; labels = A.labels; initial = 0; transitions = ts; accepting = qs } in
      let valid : IsAutomaton C = record {
        states_fit = omega arith;
        labels_fit = omega arith;
        initial_is_state = start_in;
        in_range = all_from (IsInRange (length product_states) A.labels) ts (λ t h.
            let ends = All-contains (λ (x : Trans). (x.source < length product_states) × (x.target < length product_states)) moves t ends_in ((ts_has t).0 h) in
            (ends.0, ends.1, All-contains (λ (x : Trans). x.label < A.labels) moves t parts.in_labels ((ts_has t).0 h)));
        in_order = λ i j lt j_in. rises_at IsBefore ts ts_up i j (trans 0 0 0) lt j_in;
        few = omega arith;
        accepting_in_range = all_from (λ p. p < length product_states) qs (λ p h. All-contains (λ q. q < length product_states) made p accepting_in ((qs_has p).0 h));
        accepting_in_order = λ i i_in. rises_at (λ (x y : ℕ). x < y) qs qs_up i (i + 1) 0 (omega arith) i_in;
      } in (
        C,
        record {
          valid = valid;
          product_states = product_states;
          numbered = explored.numbered;
          states = refl;
          labels = refl;
          initial = refl;
          moves = λ p a q. (
            λ m. moves_to mode A B product_states moves made explored a_valid b_valid members p a q ((ts_has (trans p a q)).0 m),
            λ m. (ts_has (trans p a q)).1 (moves_back mode A B product_states moves made explored a_valid b_valid members p a q m),
          );
          accepting = λ p. (λ h. (members p).0 ((qs_has p).0 h), λ h. (qs_has p).1 ((members p).1 h));
        },
        record { states = few; transitions = omega arith; labels = few_labels },
      )

  there_within : (IsIntersectionTooLarge mode A B → ⊥) → (fuel : ℕ) → 2048 ≤ fuel → (C : Automaton) × IsIntersection mode A B C × IsSmallResult C
  there_within small fuel enough =
      let begun = explored_start mode A B (start_of A B ∷ []) [] refl refl a_valid b_valid in
      let (product_states, moves, all) = explored mode A B a_valid b_valid small fuel 0 (start_of A B ∷ []) [] (omega (arith, enough)) begun in
      made_of product_states moves all

pub intersection_there : IntersectionIsThere
intersection_there mode A B a_valid b_valid same small =
    let few_labels : A.labels ≤ 256 = elim (cases_lt 256 A.labels) [ inl many ↦ absurd (small (inl many)) | inr few ↦ few ] in
    there_within mode A B a_valid b_valid few_labels small 2048 (omega arith)
