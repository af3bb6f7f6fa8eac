-- There is one union and one intersection at most; neither is within the limits if it is too large; and a union that is not too large is there.
use Rattle.std.proofs.Common.{◌≡◌, ℕ, zero, suc, ◌+◌, ◌<◌, ◌≤◌, ◌⊎◌, inl, inr, List, ◌++◌, length, get_or, take, drop, map, Contains, refl, sym, ap, ◌∙◌, subst, arith}
use Rattle.std.proofs.lemmas.Bool.{cases_lt, cases_order}
use Rattle.std.proofs.lemmas.List.{take_all, take_at, take-append-le, take-append-drop}
use Rattle.std.proofs.lemmas.List.Elements.{All-contains, Contains-append_left, Contains-get_or}
use Rattle.std.proofs.lemmas.List.Concat.{flat_map-append}
use Rattle.std.proofs.lemmas.Option.{slice_get_within, slice_get-get_or}
use Rattle.auto_core.specs.Automaton.{Automaton, IsAutomaton, IsBefore, IsInRange, trans}
use Rattle.auto_core.specs.Outcome.{At}
use Rattle.auto_core.specs.declared.parts.Mode.{Mode}
use Rattle.auto_core.specs.declared.parts.Trans.{Trans}
use Rattle.auto_core.proofs.Order.{IsBefore-trans}
use Rattle.auto_core.proofs.PathLemmas.{Contains-here, Contains-later}
use Rattle.auto_core.proofs.MemberLemmas.{Rises, map_has}
use Rattle.auto_core.proofs.SetLemmas.{same_automaton}
use Rattle.ba_format.specs.Sight.{first_seen}
use Rattle.auto_ops.specs.declared.product_states.ProductState.{ProductState}
use Rattle.auto_ops.specs.Union.{second_offset, UnionMoves}
use Rattle.auto_ops.specs.UnionParts.{union_transitions, union_accepting}
use Rattle.auto_ops.specs.Intersection.{start_of, GoesBeside, IsReachedBy, IsProductReached, ProductMove, moves_of, moves_from, same_product_state, seen_by, AreNumberedBySight}
use Rattle.auto_ops.specs.Laws.{UnionIsOne, TooLargeUnionIsNotSmall, UnionIsThere, IntersectionIsOne, TooLargeIntersectionIsNotSmall}
use Rattle.auto_ops.proofs.SightLemmas.{Differ, all_from, place_of, at_one, at_place, at_front, flat_has, first_apart, first_has}
use Rattle.auto_ops.proofs.UnionLemmas.{same_parts, union_has, union_from, union_many, in_states, in_labels, accepted_has, accepted_from, accepted_below}
use Rattle.auto_ops.proofs.ProductLemmas.{same_equal, same_itself, move_has, seen_grows, front_of}
use Rattle.auto_ops.proofs.CountLemmas.{no_more, rises_at, in_order}

-- ---- unions

pub union_one : UnionIsOne
union_one mode A B U V k l =
    same_automaton U V k.valid l.valid (k.states ∙ sym l.states) (k.labels ∙ sym l.labels) (k.initial ∙ sym l.initial)
    (λ p a q. (λ h. (l.moves p a q).1 ((k.moves p a q).0 h), λ h. (k.moves p a q).1 ((l.moves p a q).0 h)))
    (λ p. (λ h. (l.accepting p).1 ((k.accepting p).0 h), λ h. (k.accepting p).1 ((l.accepting p).0 h)))

pub union_limits : TooLargeUnionIsNotSmall
union_limits mode A B U k (inl many) within = let few = within.labels in omega (arith, k.labels)
union_limits mode A B U k (inr (inl many)) within = let few = within.states in omega (arith, k.states)
union_limits mode A B U k (inr (inr many)) within =
    let few = within.transitions in
    let le : length many.things ≤ length U.transitions =
    no_more (λ (x y : Trans). x ≡ y) U.transitions (λ x z y e f. e ∙ sym f) many.things many.different
    (λ t h. (t, (k.moves t.source t.label t.target).1 (All-contains (λ (u : Trans). UnionMoves A B u.source u.label u.target) many.things t many.each h), refl)) in
    omega (arith, many.many)

pub before_cases : (t u : Trans) → IsBefore t u ⊎ (t ≡ u) ⊎ IsBefore u t
before_cases t u = elim (cases_order t.source u.source) [
  | inr o ↦ elim o [ inl lt ↦ inl (inl lt) | inr gt ↦ inr (inr (inl gt)) ]
  | inl s ↦ elim (cases_order t.label u.label) [
    | inr o ↦ elim o [ inl lt ↦ inl (inr (inl (s, lt))) | inr gt ↦ inr (inr (inr (inl (sym s, gt)))) ]
    | inl a ↦ elim (cases_order t.target u.target) [
      | inr o ↦ elim o [ inl lt ↦ inl (inr (inr (s, a, lt))) | inr gt ↦ inr (inr (inr (inr (sym s, sym a, gt)))) ]
      | inl g ↦ inr (inl (same_parts t u s a g))
    ]
  ]
]

pub number_cases : (x y : ℕ) → (x < y) ⊎ (x ≡ y) ⊎ (y < x)
number_cases x y = elim (cases_order x y) [ inl e ↦ inr (inl e) | inr o ↦ elim o [ inl lt ↦ inl lt | inr gt ↦ inr (inr gt) ] ]

pub union_there : UnionIsThere
union_there mode A B a_valid b_valid same small =
    let (ts, ts_up, ts_has, ts_len) = in_order IsBefore IsBefore-trans before_cases (union_transitions A B) in
    let (qs, qs_up, qs_has, _) = in_order (λ (x y : ℕ). x < y) (λ x y z p q. omega arith) number_cases (union_accepting mode A B) in
    let few_labels : A.labels ≤ 256 = elim (cases_lt 256 A.labels) [ inl many ↦ absurd (small (inl many)) | inr few ↦ few ] in
    let few_states : second_offset A + B.states ≤ 2048 = elim (cases_lt 2048 (second_offset A + B.states)) [ inl many ↦ absurd (small (inr (inl many))) | inr few ↦ few ] in
    let few_transitions : length (union_transitions A B) ≤ 65536 = elim (cases_lt 65536 (length (union_transitions A B))) [
      | inl many ↦ absurd (small (inr (inr (union_many A B a_valid b_valid 65536 many))))
      | inr few ↦ few
    ] in
    let U : Automaton = record { states = second_offset A + B.states; labels = A.labels; initial = 0; transitions = ts; accepting = qs } in
    let valid : IsAutomaton U = record {
      states_fit = omega arith;
      labels_fit = omega arith;
      initial_is_state = omega arith;
      in_range = all_from (IsInRange (second_offset A + B.states) A.labels) ts (λ t h.
          let m = union_from A B a_valid b_valid t.source t.label t.target ((ts_has t).0 h) in
          let r = in_states A B a_valid b_valid t.source t.label t.target m in
          (r.0, r.1, in_labels A B a_valid b_valid same t.source t.label t.target m));
      in_order = λ i j lt j_in. rises_at IsBefore ts ts_up i j (trans 0 0 0) lt j_in;
      few = omega arith;
      accepting_in_range = all_from (λ p. p < second_offset A + B.states) qs (λ p h. accepted_below A B a_valid b_valid mode p (accepted_from A B a_valid b_valid mode p ((qs_has p).0 h)));
      accepting_in_order = λ i i_in. rises_at (λ (x y : ℕ). x < y) qs qs_up i (i + 1) 0 (omega arith) i_in;
    } in (
      U,
      record {
        valid = valid;
        states = refl;
        labels = refl;
        initial = refl;
        moves = λ p a q. (
          λ m. union_from A B a_valid b_valid p a q ((ts_has (trans p a q)).0 m),
          λ m. (ts_has (trans p a q)).1 (union_has A B a_valid b_valid p a q m),
        );
        accepting = λ p. (
          λ h. accepted_from A B a_valid b_valid mode p ((qs_has p).0 h),
          λ h. (qs_has p).1 (accepted_has A B a_valid b_valid mode p h),
        );
      },
      record { states = few_states; transitions = omega arith; labels = few_labels },
    )

-- ---- intersections

module _ (mode : Mode) (A B : Automaton) where
  -- what is seen from the product states
  abbrev seen_from_all : List ProductState → List ProductState
  seen_from_all front = first_seen same_product_state (seen_by A B (moves_from mode A B front))

  module _ (product_states : List ProductState) (n : AreNumberedBySight mode A B product_states) where
    apart : Rises Differ product_states
    apart =
        let P : List ProductState → Type 0 = λ l. Rises Differ l in
        subst P (sym n.in_order) (first_apart same_product_state same_equal same_itself (seen_by A B (moves_from mode A B product_states)))

    -- what is seen from a front of the list stands in front of it
    seen_front : (k : ℕ) → (rest : List ProductState) × (product_states ≡ seen_from_all (take k product_states) ++ rest)
    seen_front k =
        let (rest, e) = seen_grows A B (moves_from mode A B (take k product_states)) (moves_from mode A B (drop k product_states)) in
        let whole : moves_from mode A B product_states ≡ moves_from mode A B (take k product_states) ++ moves_from mode A B (drop k product_states) =
        ap (moves_from mode A B) (sym (take-append-drop k product_states)) ∙ flat_map-append (moves_of mode A B) (take k product_states) (drop k product_states) in
        (rest, n.in_order ∙ ap (λ l. first_seen same_product_state (seen_by A B l)) whole ∙ e)

    -- if no more than k are seen from the first k, then all reached product states are among them
    closed : (k : ℕ) → length (seen_from_all (take k product_states)) ≤ k → (i : ℕ) (u : ProductState) → IsReachedBy mode A B i u → Contains (seen_from_all (take k product_states)) u
    closed k short zero u h =
        first_has same_product_state same_equal same_itself (seen_by A B (moves_from mode A B (take k product_states))) u
        (Contains-here (start_of A B) u (map (λ (m : ProductMove). m.target) (moves_from mode A B (take k product_states))) (sym h))
    closed k short (suc i) u (t, a, by, goes) =
        let front = take k product_states in
        let j = length (seen_from_all front) in
        let (rest, e) = seen_front k in
        let (more, f) = front_of j k product_states short in
        let P : List ProductState → Type 0 = λ l. Contains l t in
        let near : take j product_states ≡ seen_from_all front = ap (take j) e ∙ take_at (seen_from_all front) rest j refl in
        let t_in : Contains front t = subst P (sym f) (Contains-append_left (take j product_states) more t (subst P (sym near) (closed k short i t by))) in
        let m : ProductMove = record { source = t; label = a; target = u } in
        let m_in : Contains (moves_from mode A B front) m = flat_has (moves_of mode A B) front t m t_in (move_has mode A B t a u goes) in
        first_has same_product_state same_equal same_itself (seen_by A B (moves_from mode A B front)) u
        (Contains-later (start_of A B) u (map (λ (x : ProductMove). x.target) (moves_from mode A B front)) (map_has (λ (x : ProductMove). x.target) (moves_from mode A B front) m m_in))

    -- from the first k at least one more is seen, if there is one
    one_more : (k : ℕ) → k < length product_states → k < length (seen_from_all (take k product_states))
    one_more k lt = elim (cases_lt k (length (seen_from_all (take k product_states)))) [
      | inl fine ↦ fine
      | inr short ↦
          let d = start_of A B in
          let u = get_or product_states k d in
          let at_k : At product_states k u = slice_get-get_or product_states k d lt in
          let (i, by) = (n.reached u).0 (Contains-get_or product_states k d lt) in
          let (j, at_j) = place_of (seen_from_all (take k product_states)) u (closed k short i u by) in
          let j_in = slice_get_within (seen_from_all (take k product_states)) j u at_j in
          let (rest, e) = seen_front k in
          let P : List ProductState → Type 0 = λ l. At l j u in
          let same = at_place product_states j k u apart (subst P (sym e) (at_front (seen_from_all (take k product_states)) rest j u at_j)) at_k in
          absurd (omega arith)
    ]

    -- so the first k tell the next
    next : (k : ℕ) → k < length product_states → take (suc k) product_states ≡ take (suc k) (seen_from_all (take k product_states))
    next k lt =
        let (rest, e) = seen_front k in
        let enough : suc k ≤ length (seen_from_all (take k product_states)) = let m = one_more k lt in omega arith in
        ap (take (suc k)) e ∙ take-append-le (suc k) (seen_from_all (take k product_states)) rest enough

  fronts : (one two : List ProductState) → AreNumberedBySight mode A B one → AreNumberedBySight mode A B two → (k : ℕ) → k ≤ length one → k ≤ length two → take k one ≡ take k two
  fronts one two n m zero h g = refl
  fronts one two n m (suc k) h g =
      next one n k (omega arith) ∙ ap (λ l. take (suc k) (seen_from_all l)) (fronts one two n m k (omega arith) (omega arith)) ∙ sym (next two m k (omega arith))

  not_shorter : (one two : List ProductState) → AreNumberedBySight mode A B one → AreNumberedBySight mode A B two → length one < length two → ⊥
  not_shorter one two n m lt =
      let k = length one in
      let same : take k two ≡ one = sym (fronts one two n m k (omega arith) (omega arith)) ∙ take_all k one (omega arith) in
      let more = one_more two m k lt in
      let size : length (seen_from_all (take k two)) ≡ k = ap (λ (l : List ProductState). length (seen_from_all l)) same ∙ ap (λ (l : List ProductState). length l) (sym n.in_order) in
      omega arith

  pub numbered_one : (one two : List ProductState) → AreNumberedBySight mode A B one → AreNumberedBySight mode A B two → one ≡ two
  numbered_one one two n m =
      let size : length one ≡ length two = elim (cases_order (length one) (length two)) [
        | inl e ↦ e
        | inr o ↦ elim o [ inl lt ↦ absurd (not_shorter one two n m lt) | inr gt ↦ absurd (not_shorter two one m n gt) ]
      ] in
      sym (take_all (length one) one (omega arith)) ∙ fronts one two n m (length one) (omega arith) (omega arith) ∙ take_all (length one) two (omega arith)

pub intersection_one : IntersectionIsOne
intersection_one mode A B C D k l =
    let e = numbered_one mode A B k.product_states l.product_states k.numbered l.numbered in
    let P : List ProductState → Type 0 = λ t. (p : ℕ) (u : ProductState) → At k.product_states p u → At t p u in
    let Q : List ProductState → Type 0 = λ t. (p : ℕ) (u : ProductState) → At t p u → At k.product_states p u in
    let to = subst P e (λ p u h. h) in
    let back = subst Q e (λ p u h. h) in
    same_automaton C D k.valid l.valid (k.states ∙ ap (λ (t : List ProductState). length t) e ∙ sym l.states) (k.labels ∙ sym l.labels) (k.initial ∙ sym l.initial)
    (λ p a q. (
      λ h. let (t, u, at_p, at_q, goes) = (k.moves p a q).0 h in (l.moves p a q).1 (t, u, to p t at_p, to q u at_q, goes),
      λ h. let (t, u, at_p, at_q, goes) = (l.moves p a q).0 h in (k.moves p a q).1 (t, u, back p t at_p, back q u at_q, goes),
    ))
    (λ p. (
      λ h. let (t, at_p, both) = (k.accepting p).0 h in (l.accepting p).1 (t, to p t at_p, both),
      λ h. let (t, at_p, both) = (l.accepting p).0 h in (k.accepting p).1 (t, back p t at_p, both),
    ))

pub intersection_limits : TooLargeIntersectionIsNotSmall
intersection_limits mode A B C k (inl many) within = let few = within.labels in omega (arith, k.labels)
intersection_limits mode A B C k (inr (inl many)) within =
    let few = within.states in
    let le : length many.things ≤ length k.product_states =
    no_more (λ (x y : ProductState). x ≡ y) k.product_states (λ x z y e f. e ∙ sym f) many.things many.different
    (λ t h. (t, (k.numbered.reached t).1 (All-contains (IsProductReached mode A B) many.things t many.each h), refl)) in
    omega (arith, many.many, k.states)
intersection_limits mode A B C k (inr (inr many)) within =
    let few = within.transitions in
    let P : ProductMove → Type 0 = λ m. IsProductReached mode A B m.source × GoesBeside mode A B m.source m.label m.target in
    let R : ProductMove → Trans → Type 0 = λ m t. At k.product_states t.source m.source × (t.label ≡ m.label) × At k.product_states t.target m.target in
    let le : length many.things ≤ length C.transitions =
    no_more R C.transitions (one_move k.product_states) many.things many.different
    (λ m h.
    let (by, goes) = All-contains P many.things m many.each h in
    let (i, steps) = by in
    let (p, at_p) = place_of k.product_states m.source ((k.numbered.reached m.source).1 by) in
    let (q, at_q) = place_of k.product_states m.target ((k.numbered.reached m.target).1 (suc i, (m.source, m.label, steps, goes))) in
    (trans p m.label q, (k.moves p m.label q).1 (m.source, m.target, at_p, at_q, goes), (at_p, refl, at_q))) in
    omega (arith, many.many)
  where
    one_move : (product_states : List ProductState) (m n : ProductMove) (t : Trans)
        → (At product_states t.source m.source × (t.label ≡ m.label) × At product_states t.target m.target)
        → (At product_states t.source n.source × (t.label ≡ n.label) × At product_states t.target n.target)
        → m ≡ n
    one_move product_states m n t a b =
        let p = at_one product_states t.source m.source n.source a.0 b.0 in
        let q = sym a.1 ∙ b.1 in
        let r = at_one product_states t.target m.target n.target a.2 b.2 in
        λ i. record { source = p i; label = q i; target = r i }
