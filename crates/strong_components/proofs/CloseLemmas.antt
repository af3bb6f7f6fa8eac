-- The last group, whose nodes have no arc left, made a component.
use Rattle.std.proofs.Common.{◌≡◌, ℕ, ◌+◌, ◌<◌, ◌≤◌, ◌⊎◌, inl, inr, List, length, sym, ap, ◌∙◌, subst, arith}
use Rattle.std.proofs.lemmas.Bool.{cases_eq, cases_lt}
use Rattle.auto_core.specs.Game.{Close}
use Rattle.strong_components.specs.Graph.{at, IsArcOf, HasArc}
use Rattle.strong_components.specs.UnderWay.{none, State, Behind, IsDone, IsOpen, IsNew, IsTaken, LeadsOn, EndsIn, IsPlaced, IsUnderWay, AreMarked}
use Rattle.strong_components.proofs.StateLemmas.{IsCut, cut_rises, one_place, place_of_node, not_done}

module _ (starts targets : List ℕ) (nodes : ℕ) (s : State) (way : IsUnderWay starts targets nodes s)
    (n start : ℕ) (whole : length s.bounds ≡ n + 1) (is_last : at s.bounds n ≡ start) (ended : (i : ℕ) → i < length s.path → at s.path i < start)
    (stack bounds numbers : List ℕ) (cut_stack : IsCut s.stack start stack) (cut_bounds : IsCut s.bounds n bounds)
    (marked : AreMarked s.stack start s.count s.numbers numbers) (few : s.count + 1 < none) where
  abbrev closed : State
  closed = record { stack = stack; bounds = bounds; path = s.path; rest = s.rest; places = s.places; numbers = numbers; count = s.count + 1 }

  size : length stack ≡ start
  size = cut_stack.size

  start_in : start < length s.stack
  start_in = let lt = way.bounds_in n (omega arith) in omega arith

  kept_done : (v : ℕ) → IsDone s v → at numbers v ≡ at s.numbers v
  kept_done v is_done = marked.others v (λ x from lt same. not_done starts targets nodes s way x lt (subst (λ w. IsDone s w) (sym same) is_done))

  kept_place : (y : ℕ) → y < start → at numbers (at s.stack y) ≡ at s.numbers (at s.stack y)
  kept_place y y_lt = marked.others (at s.stack y) (λ x from lt same.
      let is : x ≡ y = one_place starts targets nodes s way x y lt (let more = start_in in omega arith) same in
      omega arith)

  kept_new : (v : ℕ) → IsNew s v → at numbers v ≡ at s.numbers v
  kept_new v new = marked.others v (λ x from lt same.
      let place : at s.places v ≡ x = ap (at s.places) (sym same) ∙ place_of_node starts targets nodes s way x lt in
      let none_there : at s.places v ≡ none = new in
      let room = way.room in
      omega (arith, lt))

  stays_done : (v : ℕ) → IsDone s v → IsDone closed v
  stays_done v is_done = let is = kept_done v is_done in omega (arith, is_done)

  marked_done : (v x : ℕ) → start ≤ x → x < length s.stack → at s.stack x ≡ v → at numbers v ≡ s.count
  marked_done v x from lt is = ap (at numbers) (sym is) ∙ marked.each x from lt

  same : (y : ℕ) → y < start → at stack y ≡ at s.stack y
  same = cut_stack.same

  placed_closed : (y : ℕ) → y < length stack → IsPlaced nodes closed y
  placed_closed y y_in =
      let lt : y < start = let is = size in omega arith in
      let old = way.placed y (let more = start_in in omega arith) in
      let is = same y lt in
      record {
        below = subst (λ m. m < nodes) (sym is) old.below;
        place = ap (at s.places) is ∙ old.place;
        number = ap (at numbers) is ∙ kept_place y lt ∙ old.number;
      }

  seen_closed : (v : ℕ) → v < nodes → IsNew closed v ⊎ IsDone closed v ⊎ IsOpen closed v
  seen_closed v below = elim (way.seen v below) [
    | inl new ↦ inl new
    | inr (inl is_done) ↦ inr (inl (stays_done v is_done))
    | inr (inr (lt, on)) ↦ elim (cases_lt (at s.places v) start) [
      | inl before ↦ let is = size in inr (inr (omega arith, same (at s.places v) before ∙ on))
      | inr from ↦ let is = marked_done v (at s.places v) from lt on in inr (inl (omega arith))
    ]
  ]

  -- A node of the closed groups or of none is not one that stays on the stack or is new.
  not_none : (v : ℕ) → at numbers v ≡ none → IsDone closed v → ⊥
  not_none v is is_done = omega (arith, is_done)

  first_closed : 0 < length stack → (0 < length bounds) × (at bounds 0 ≡ 0)
  first_closed some =
      let old = way.first (let more = start_in in omega arith) in
      let zero_there : at s.bounds 0 ≡ 0 = old.1 in
      let is = size in
      let kept : 0 < n = elim (cases_lt 0 n) [
        | inl lt ↦ lt
        | inr none_kept ↦ let e : n ≡ 0 = omega arith in let at_zero : at s.bounds 0 ≡ start = ap (at s.bounds) (sym e) ∙ is_last in absurd (omega arith)
      ] in
      let bound_size = cut_bounds.size in
      (omega arith, cut_bounds.same 0 kept ∙ zero_there)

  bounds_in_closed : (i : ℕ) → i < length bounds → at bounds i < length stack
  bounds_in_closed i lt =
      let bound_size = cut_bounds.size in
      let is = cut_bounds.same i (omega arith) in
      let less = way.bounds_rise i n (omega arith) (omega arith) in
      let stack_size = size in
      omega arith

  finished_closed : (y : ℕ) → y < length stack → (at s.rest (at stack y) ≡ 0) ⊎ ((i : ℕ) × (i < length s.path) × (at s.path i ≡ y))
  finished_closed y y_in =
      let lt : y < start = let is = size in omega arith in
      elim (way.finished y (let more = start_in in omega arith)) [
        | inl over ↦ inl (ap (at s.rest) (same y lt) ∙ over)
        | inr there ↦ inr there
      ]

  led_closed : (y k : ℕ) → y < length stack → IsTaken starts closed (at stack y) k → LeadsOn closed y (at targets k)
  led_closed y k y_in taken =
      let stack_size = size in
      let lt : y < start = omega arith in
      elim (way.led y k (let more = start_in in omega arith) (subst (λ m. IsTaken starts s m k) (same y lt) taken)) [
        | inl is_done ↦ inl (stays_done (at targets k) is_done)
        | inr (z, z_in, is, behind) ↦ elim (cases_lt z start) [
          | inl before ↦ inr (
            z,
            omega arith,
            same z before ∙ is,
            λ i i_in low.
                let bound_size = cut_bounds.size in
                let eq = cut_bounds.same i (omega arith) in
                let up : at s.bounds i ≤ z = behind i (omega arith) (omega arith) in
                omega arith,
          )
          | inr from ↦ let eq = marked_done (at targets k) z from z_in is in inl (omega arith)
        ]
      ]

  joined_closed : (a b : ℕ) → a < length stack → b < length stack → Behind bounds a b → Close (HasArc starts targets) (at stack a) (at stack b)
  joined_closed a b a_in b_in behind =
      let stack_size = size in
      let more = start_in in
      let a_lt : a < start = omega arith in
      let b_lt : b < start = omega arith in
      subst (λ m. Close (HasArc starts targets) (at stack a) m) (sym (same b b_lt))
      (subst (λ m. Close (HasArc starts targets) m (at s.stack b)) (sym (same a a_lt)) (way.joined a b (omega arith) (omega arith) (λ i i_in low. elim (cases_eq i n) [
        | inl e ↦ let eq : at s.bounds i ≡ start = ap (at s.bounds) e ∙ is_last in absurd (omega arith)
        | inr apart ↦
            let bound_size = cut_bounds.size in
            let eq = cut_bounds.same i (omega arith) in
            let up : at bounds i ≤ b = behind i (omega arith) (omega arith) in
            omega arith
      ])))

  -- An arc out of a node of the group ends in a component.
  ends_of_group : (p k : ℕ) → start ≤ p → p < length s.stack → IsArcOf starts (at s.stack p) k → EndsIn starts targets closed (at s.stack p) (at targets k)
  ends_of_group p k from p_in arc =
      let number : at numbers (at s.stack p) ≡ s.count = marked.each p from p_in in
      let none_left : at s.rest (at s.stack p) ≡ 0 = elim (way.finished p p_in) [
        | inl over ↦ over
        | inr (i, i_in, is) ↦ let before = ended i i_in in absurd (omega arith)
      ] in
      let low = arc.0 in
      let high = arc.1 in
      elim (way.led p k p_in (low, omega arith)) [
        | inl is_done ↦
            let eq = kept_done (at targets k) is_done in
            record {
              done = stays_done (at targets k) is_done;
              fall = omega (arith, is_done);
              joined = λ equal. absurd (omega (arith, is_done));
            }
        | inr (z, z_in, is, behind) ↦
            let late : start ≤ z = let up : at s.bounds n ≤ z = behind n (omega arith) (omega arith) in omega arith in
            let eq = marked_done (at targets k) z late z_in is in
            record {
              done = omega arith;
              fall = omega arith;
              joined = λ equal. subst (λ m. Close (HasArc starts targets) m (at s.stack p)) is (way.joined z p z_in p_in (λ i i_in below_z. elim (cases_eq i n) [
                | inl e ↦ let is_start : at s.bounds i ≡ start = ap (at s.bounds) e ∙ is_last in omega arith
                | inr apart ↦ let less = way.bounds_rise i n (omega arith) (omega arith) in omega arith
              ]));
            }
      ]

  done_closed : (v k : ℕ) → v < nodes → IsDone closed v → IsArcOf starts v k → EndsIn starts targets closed v (at targets k)
  done_closed v k below is_done arc = elim (way.seen v below) [
    | inl new ↦ absurd (not_none v (kept_new v new ∙ (way.new v below new).0) is_done)
    | inr (inl was_done) ↦
        let e = way.done v k below was_done arc in
        let v_eq = kept_done v was_done in
        let w_eq = kept_done (at targets k) e.done in
        let fall = e.fall in
        record {
          done = stays_done (at targets k) e.done;
          fall = omega arith;
          joined = λ equal. e.joined (sym w_eq ∙ equal ∙ v_eq);
        }
    | inr (inr (lt, on)) ↦ elim (cases_lt (at s.places v) start) [
      | inl before ↦ absurd (not_none v (ap (at numbers) (sym on) ∙ kept_place (at s.places v) before ∙ (way.placed (at s.places v) lt).number) is_done)
      | inr from ↦ subst (λ m. EndsIn starts targets closed m (at targets k)) on (ends_of_group (at s.places v) k from lt (subst (λ m. IsArcOf starts m k) (sym on) arc))
    ]
  ]

  pub group_closed : IsUnderWay starts targets nodes closed
  group_closed = record {
    rest_size = way.rest_size;
    places_size = way.places_size;
    numbers_size = marked.size ∙ way.numbers_size;
    few = few;
    room = let more = start_in in let is = size in let old = way.room in omega arith;
    placed = placed_closed;
    seen = seen_closed;
    new = λ v below new. let old = way.new v below new in (kept_new v new ∙ old.0, old.1);
    left = way.left;
    bounds_rise = cut_rises s.bounds n bounds cut_bounds way.bounds_rise;
    bounds_in = bounds_in_closed;
    first = first_closed;
    path_rises = way.path_rises;
    path_in = λ i lt. let is = size in let old = ended i lt in omega arith;
    finished = finished_closed;
    led = led_closed;
    joined = joined_closed;
    done = done_closed;
  }
