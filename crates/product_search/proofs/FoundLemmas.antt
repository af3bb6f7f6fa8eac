-- What it takes to note one more pair.
use Rattle.std.proofs.Common.{◌≡◌, ℕ, ◌+◌, ◌<◌, ◌≤◌, Bool, true, inl, inr, List, [], ◌∷◌, ◌++◌, length, Contains, sym, ap, ◌∙◌, subst, arith, length-append, append-nil, append_assoc, get_or}
use Rattle.std.proofs.lemmas.Bool.{cases_eq, cases_lt, true≢false}
use Rattle.std.proofs.lemmas.List.{get_or_push, get_or_append_left, get_or_default}
use Rattle.std.proofs.lemmas.List.Elements.{Contains-get_or, Contains-append_left, Contains-push}
use Rattle.auto_core.specs.Automaton.{Automaton, IsAutomaton, Moves, trans, trans_at, IsOutgoing}
use Rattle.auto_core.proofs.MoveLemmas.{outgoing_moves, moves_in_outgoing, move_in_range}
use Rattle.auto_core.specs.declared.parts.Trans.{Trans}
use Rattle.product_laws.specs.Ranked.{IsDeterministic}
use Rattle.product_laws.specs.Reached.{GoesTo}
use Rattle.product_search.specs.declared.found.Step.{Step}
use Rattle.product_search.proofs.MorePairs.{contains_at, size_more, old_at, new_at, each_pair, different_more}
use Rattle.product_search.specs.Found.{pair_at, step_at, IsQuietEnough, Follows, IsFoundBy, AreFound, Grows, Went, Expanded, IsClosedAt}

pub grows_itself : (xs : List (ℕ × ℕ)) → Grows xs xs
grows_itself xs = ([], sym (append-nil xs))

pub grows_on : (xs ys zs : List (ℕ × ℕ)) → Grows xs ys → Grows ys zs → Grows xs zs
grows_on xs ys zs (more, is) (then, goes) = (more ++ then, goes ∙ ap (λ l. l ++ then) is ∙ append_assoc xs more then)

pub grows_size : (xs ys : List (ℕ × ℕ)) → Grows xs ys → length xs ≤ length ys
grows_size xs ys (more, is) = let all = ap length is ∙ length-append xs more in omega arith

pub grows_at : (xs ys : List (ℕ × ℕ)) → Grows xs ys → (i : ℕ) → i < length xs → pair_at ys i ≡ pair_at xs i
grows_at xs ys (more, is) i lt = ap (λ l. pair_at l i) is ∙ get_or_append_left xs more (0, 0) i lt

pub grows_contains : (xs ys : List (ℕ × ℕ)) → Grows xs ys → (x : ℕ × ℕ) → Contains xs x → Contains ys x
grows_contains xs ys (more, is) x h = subst (λ l. Contains l x) (sym is) (Contains-append_left xs more x h)

pub place_of : (xs : List (ℕ × ℕ)) (x : ℕ × ℕ) → Contains xs x → (i : ℕ) × (i < length xs) × (pair_at xs i ≡ x)
place_of xs x (i, lt, is) = (i, lt, get_or_default xs i (0, 0) x lt ∙ is)

-- A deterministic automaton goes to one state.
pub goes_once : (B : Automaton) → IsDeterministic B → (q a s t : ℕ) → GoesTo B q a s → GoesTo B q a t → s ≡ t
goes_once B det q a s t (inl move) (inl other) = det q a s t move other
goes_once B det q a s t (inl move) (inr (is, none)) = absurd (none s move)
goes_once B det q a s t (inr (is, none)) (inl other) = absurd (none t other)
goes_once B det q a s t (inr (is, none)) (inr (same, no_move)) = is ∙ sym same

pub same_pair : (p q r s : ℕ) → p ≡ r → q ≡ s → ◌≡◌ {A = ℕ × ℕ} (p, q) (r, s)
same_pair p q r s one two = ap (λ x. (x, q)) one ∙ ap (λ x. (r, x)) two

-- Different pairs have each one place.
pub one_place : (pairs : List (ℕ × ℕ)) → ((i j : ℕ) → i < j → j < length pairs → pair_at pairs i ≡ pair_at pairs j → ⊥) → (i j : ℕ) → i < length pairs → j < length pairs → pair_at pairs i ≡ pair_at pairs j → i ≡ j
one_place pairs different i j i_in j_in same = elim (cases_eq i j) [
  | inl e ↦ e
  | inr apart ↦ elim (cases_lt i j) [
    | inl less ↦ absurd (different i j less j_in same)
    | inr more ↦ absurd (different j i (omega arith) i_in (sym same))
  ]
]

-- The same steps are closed at a pair where there are more.
pub closed_grows : (A B : Automaton) (quiet : Bool) (xs ys : List (ℕ × ℕ)) → Grows xs ys → (i : ℕ) → i < length xs → IsClosedAt A B quiet xs i → IsClosedAt A B quiet ys i
closed_grows A B quiet xs ys grows i lt closed a y follows =
    grows_contains xs ys grows y (closed a y (subst (λ x. Follows A B quiet x a y) (grows_at xs ys grows i lt) follows))

module _ (A B : Automaton) (quiet : Bool) (pairs : List (ℕ × ℕ)) (steps : List Step) (found : AreFound A B quiet pairs steps) where
  -- One more pair, to which a step leads.
  module _ (x : ℕ × ℕ) (step : Step) (new : Contains pairs x → ⊥) (from_in : step.from < length pairs) (left : x.0 < A.states) (right : x.1 ≤ B.states)
      (follows : Follows A B quiet (pair_at pairs step.from) step.letter x) where
    abbrev more_pairs : List (ℕ × ℕ)
    more_pairs = pairs ++ x ∷ []

    abbrev more_steps : List Step
    more_steps = steps ++ step ∷ []

    step_old : (i : ℕ) → i < length pairs → step_at more_steps i ≡ step_at steps i
    step_old i lt = get_or_append_left steps (step ∷ []) (record { from = 0; letter = 0 }) i (let size = found.size in omega arith)

    step_new : (i : ℕ) → i ≡ length pairs → step_at more_steps i ≡ step
    step_new i e = get_or_push steps step (record { from = 0; letter = 0 }) i (found.size ∙ sym e)

    found_more : (i : ℕ) → 0 < i → i < length more_pairs → IsFoundBy A B quiet more_pairs (step_at more_steps i) i
    found_more i some lt =
        let size = size_more pairs x in
        elim (cases_eq i (length pairs)) [
          | inl e ↦ subst (λ s. IsFoundBy A B quiet more_pairs s i) (sym (step_new i e)) (
            subst (λ n. step.from < n) (sym e) from_in,
            subst (λ y. Follows A B quiet y step.letter (pair_at more_pairs i)) (sym (old_at pairs x step.from from_in)) (subst (λ y. Follows A B quiet (pair_at pairs step.from) step.letter y) (sym (new_at pairs x i e)) follows),
          )
          | inr apart ↦
              let below : i < length pairs = omega arith in
              let old = found.found i some below in
              let before : (step_at steps i).from < i = old.0 in
              let from_below : (step_at steps i).from < length pairs = omega arith in
              subst (λ s. IsFoundBy A B quiet more_pairs s i) (sym (step_old i below)) (
                before,
                subst (λ y. Follows A B quiet y (step_at steps i).letter (pair_at more_pairs i)) (sym (old_at pairs x (step_at steps i).from from_below))
                    (subst (λ y. Follows A B quiet (pair_at pairs (step_at steps i).from) (step_at steps i).letter y) (sym (old_at pairs x i below)) old.1),
              )
        ]

    pub one_more : AreFound A B quiet more_pairs more_steps
    one_more = record {
      some = let some = found.some in let size = size_more pairs x in omega arith;
      size = length-append steps (step ∷ []) ∙ ap (λ n. n + 1) found.size ∙ sym (size_more pairs x);
      left = each_pair pairs x (λ y. y.0 < A.states) found.left left;
      right = each_pair pairs x (λ y. y.1 ≤ B.states) found.right right;
      different = different_more pairs x found.different new;
      found = found_more;
    }

  -- The pair that a move leads to is noted or passed over.
  pub went_on : IsDeterministic B → (from right : ℕ) (move : Trans) → from < length pairs → right ≡ (pair_at pairs from).1 → Moves A (pair_at pairs from).0 move.label move.target → move.target < A.states
      → (new_pairs : List (ℕ × ℕ)) (new_steps : List Step) → Went B quiet from right move pairs steps new_pairs new_steps
      → AreFound A B quiet new_pairs new_steps × Grows pairs new_pairs × ((s : ℕ) → GoesTo B right move.label s → IsQuietEnough B quiet s → Contains new_pairs (move.target, s))
  went_on det from right move from_in is_right moves below new_pairs new_steps (s, goes, fits, inl (quiet_enough, inl (is_pairs, is_steps, new))) =
      let x : ℕ × ℕ = (move.target, s) in
      let step : Step = record { from = from; letter = move.label } in
      let more = one_more x step new from_in below fits (moves, subst (λ q. GoesTo B q move.label s) is_right goes, quiet_enough) in (
        subst (λ l. AreFound A B quiet new_pairs l) (sym is_steps) (subst (λ l. AreFound A B quiet l (steps ++ step ∷ [])) (sym is_pairs) more),
        (x ∷ [], is_pairs),
        λ t other calm. subst (λ l. Contains l (move.target, t)) (sym is_pairs) (subst (λ n. Contains (pairs ++ x ∷ []) (move.target, n)) (goes_once B det right move.label s t goes other) (Contains-push pairs x)),
      )
  went_on det from right move from_in is_right moves below new_pairs new_steps (s, goes, fits, inl (quiet_enough, inr (is_pairs, is_steps, there))) = (
    subst (λ l. AreFound A B quiet new_pairs l) (sym is_steps) (subst (λ l. AreFound A B quiet l steps) (sym is_pairs) found),
    ([], is_pairs ∙ sym (append-nil pairs)),
    λ t other calm. subst (λ l. Contains l (move.target, t)) (sym is_pairs) (subst (λ n. Contains pairs (move.target, n)) (goes_once B det right move.label s t goes other) there),
  )
  went_on det from right move from_in is_right moves below new_pairs new_steps (s, goes, fits, inr (loud, is_pairs, is_steps)) = (
    subst (λ l. AreFound A B quiet new_pairs l) (sym is_steps) (subst (λ l. AreFound A B quiet l steps) (sym is_pairs) found),
    ([], is_pairs ∙ sym (append-nil pairs)),
    λ t other calm. absurd (loud (subst (λ n. IsQuietEnough B quiet n) (sym (goes_once B det right move.label s t goes other)) calm)),
  )

-- All moves of one pair in turn.
module _ (A B : Automaton) (quiet : Bool) (valid : IsAutomaton A) (det : IsDeterministic B) (old : List (ℕ × ℕ)) (from : ℕ) (from_in : from < length old) (x : ℕ × ℕ) (is_x : x ≡ pair_at old from) (begin end : ℕ) (range : IsOutgoing A x.0 begin end)
    (t : ℕ) (pairs : List (ℕ × ℕ)) (steps : List Step) (found : AreFound A B quiet pairs steps) (grows : Grows old pairs) where
  -- The moves before the one with the number t have been followed.
  abbrev pub HasFollowed : List (ℕ × ℕ) → ℕ → Type 0
  HasFollowed pairs t = (k : ℕ) → begin ≤ k → k < t → (s : ℕ) → GoesTo B (pair_at old from).1 (trans_at A k).label s → IsQuietEnough B quiet s → Contains pairs ((trans_at A k).target, s)

  still : pair_at pairs from ≡ x
  still = grows_at old pairs grows from from_in ∙ sym is_x

  pub next_followed : begin ≤ t → t < end → HasFollowed pairs t → (ts : List Trans) → ts ≡ A.transitions → (new_pairs : List (ℕ × ℕ)) (new_steps : List Step) → Went B quiet from x.1 (get_or ts t (trans 0 0 0)) pairs steps new_pairs new_steps
      → AreFound A B quiet new_pairs new_steps × Grows old new_pairs × HasFollowed new_pairs (t + 1)
  next_followed low high done ts is_ts new_pairs new_steps went =
      let move : Trans = trans_at A t in
      let here : Moves A x.0 move.label move.target = outgoing_moves A x.0 begin end range t low high in
      let size = grows_size old pairs grows in
      let on = went_on A B quiet pairs steps found det from x.1 move (omega (arith, from_in, size)) (ap (λ (y : ℕ × ℕ). y.1) (sym still))
      (subst (λ (y : ℕ × ℕ). Moves A y.0 move.label move.target) (sym still) here) (move_in_range A valid x.0 move.label move.target here).1
      new_pairs new_steps (subst (λ l. Went B quiet from x.1 (get_or l t (trans 0 0 0)) pairs steps new_pairs new_steps) is_ts went) in (
        on.0,
        grows_on old pairs new_pairs grows on.1,
        λ k from_begin below s goes calm. elim (cases_eq k t) [
          | inl e ↦
              let at_t : GoesTo B (pair_at old from).1 move.label s = subst (λ m. GoesTo B (pair_at old from).1 (trans_at A m).label s) e goes in
              subst (λ m. Contains new_pairs ((trans_at A m).target, s)) (sym e) (on.2 s (subst (λ (y : ℕ × ℕ). GoesTo B y.1 move.label s) (sym is_x) at_t) calm)
          | inr apart ↦ grows_contains pairs new_pairs on.1 ((trans_at A k).target, s) (done k from_begin (omega (arith, below, apart)) s goes calm)
        ],
      )

  pub all_followed : end ≤ t → HasFollowed pairs t → IsClosedAt A B quiet pairs from
  all_followed all done a y follows =
      let (move, goes, calm) = subst (λ z. Follows A B quiet z a y) (grows_at old pairs grows from from_in) follows in
      let (k, low, high, is) = moves_in_outgoing A x.0 begin end range a y.0 (subst (λ (z : ℕ × ℕ). Moves A z.0 a y.0) (sym is_x) move) in
      let there = done k low (omega (arith, high, all)) y.1 (subst (λ (u : Trans). GoesTo B (pair_at old from).1 u.label y.1) (sym is) goes) calm in
      subst (λ (u : Trans). Contains pairs (u.target, y.1)) is there

-- One pair more is expanded.
pub one_expanded : (A B : Automaton) (quiet : Bool) (limit : ℕ) (old pairs : List (ℕ × ℕ)) (i : ℕ) → Grows old pairs → i < length pairs → ((k : ℕ) → k < i → IsClosedAt A B quiet pairs k)
    → (new : List (ℕ × ℕ)) (steps : List Step) (flag : Bool) → flag ≡ true → Expanded A B quiet limit pairs i new steps flag
    → AreFound A B quiet new steps × Grows old new × (length new ≤ limit) × (i + 1 ≤ length new) × ((k : ℕ) → k < i + 1 → IsClosedAt A B quiet new k)
one_expanded A B quiet limit old pairs i grows within done new steps flag on (found, more, inl (told, few, closed)) =
    let size = grows_size pairs new more in (
      found,
      grows_on old pairs new grows more,
      few,
      omega (arith, within, size),
      λ k below. elim (cases_eq k i) [
        | inl e ↦ subst (λ m. IsClosedAt A B quiet new m) (sym e) closed
        | inr apart ↦ closed_grows A B quiet pairs new more k (omega (arith, below, apart, within)) (done k (omega (arith, below, apart)))
      ],
    )
one_expanded A B quiet limit old pairs i grows within done new steps flag on (found, more, inr (off, many)) = absurd (true≢false (sym on ∙ off))

-- The one pair is found.
pub one_found : (A B : Automaton) (quiet : Bool) (x : ℕ × ℕ) (pairs : List (ℕ × ℕ)) (steps : List Step) → pairs ≡ x ∷ [] → length steps ≡ 1 → x.0 < A.states → x.1 ≤ B.states → AreFound A B quiet pairs steps
one_found A B quiet x pairs steps is size left right = subst (λ l. AreFound A B quiet l steps) (sym is) (record {
  some = omega arith;
  size = size;
  left = λ i lt. let e : 0 ≡ i = omega (arith, lt) in subst (λ m. (pair_at (x ∷ []) m).0 < A.states) e left;
  right = λ i lt. let e : 0 ≡ i = omega (arith, lt) in subst (λ m. (pair_at (x ∷ []) m).1 ≤ B.states) e right;
  different = λ i j lt within same. absurd (omega (arith, lt, within));
  found = λ i some lt. absurd (omega (arith, some, lt));
})
