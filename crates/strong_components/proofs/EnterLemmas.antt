-- A node that is seen for the first time, an arc that is taken, and a node that has no arc left.
use Rattle.std.proofs.Common.{◌≡◌, ℕ, ◌+◌, ◌<◌, ◌≤◌, ◌⊎◌, inl, inr, List, length, sym, ap, ◌∙◌, subst, arith}
use Rattle.std.proofs.lemmas.Bool.{cases_eq, cases_lt}
use Rattle.auto_core.specs.Game.{Close}
use Rattle.auto_laws.proofs.GameLemmas.{close_refl}
use Rattle.strong_components.specs.Graph.{at, HasArc}
use Rattle.strong_components.specs.UnderWay.{none, State, Behind, IsDone, IsOpen, IsNew, IsTaken, LeadsOn, IsPlaced, IsUnderWay}
use Rattle.strong_components.proofs.StateLemmas.{IsPushed, IsCut, IsSet, pushed_rises, cut_rises, one_place, place_of_node}

module _ (starts targets : List ℕ) (nodes : ℕ) (s : State) (way : IsUnderWay starts targets nodes s) where
  module _ (v : ℕ) (below : v < nodes) (is_new : IsNew s v) (room : length s.stack < none)
      (reaches : (x : ℕ) → x < length s.stack → Close (HasArc starts targets) (at s.stack x) v)
      (stack bounds path places : List ℕ)
      (on_stack : IsPushed s.stack v stack) (on_bounds : IsPushed s.bounds (length s.stack) bounds) (on_path : IsPushed s.path (length s.stack) path)
      (at_place : IsSet s.places v (length s.stack) places) where
    abbrev after : State
    after = record { stack = stack; bounds = bounds; path = path; rest = s.rest; places = places; numbers = s.numbers; count = s.count }

    size : length stack ≡ length s.stack + 1
    size = on_stack.size

    other_node : (x : ℕ) → x < length s.stack → at s.stack x ≡ v → ⊥
    other_node x within same =
        let place : at s.places (at s.stack x) ≡ x = place_of_node starts targets nodes s way x within in
        let new : at s.places (at s.stack x) ≡ none = ap (at s.places) same ∙ is_new in
        omega arith

    behind_before : (x y : ℕ) → Behind bounds x y → Behind s.bounds x y
    behind_before x y h i lt low =
        let more = on_bounds.size in
        let is : at bounds i ≡ at s.bounds i = on_bounds.same i lt in
        let up : at bounds i ≤ y = h i (omega arith) (omega arith) in
        omega arith

    -- The bounds are all at or before the new place.
    bound_below : (i : ℕ) → i < length bounds → at bounds i ≤ length s.stack
    bound_below i lt =
        let more = on_bounds.size in
        elim (cases_eq i (length s.bounds)) [
          | inl e ↦ let is : at bounds i ≡ length s.stack = ap (at bounds) e ∙ on_bounds.last in omega arith
          | inr apart ↦
              let is : at bounds i ≡ at s.bounds i = on_bounds.same i (omega arith) in
              let within : at s.bounds i < length s.stack = way.bounds_in i (omega arith) in
              omega arith
        ]

    behind_after : (x y : ℕ) → x < length s.stack → Behind s.bounds x y → Behind bounds x y
    behind_after x y within h i lt low =
        let more = on_bounds.size in
        elim (cases_eq i (length s.bounds)) [
          | inl e ↦ let is : at bounds i ≡ length s.stack = ap (at bounds) e ∙ on_bounds.last in absurd (omega arith)
          | inr apart ↦
              let is : at bounds i ≡ at s.bounds i = on_bounds.same i (omega arith) in
              let up : at s.bounds i ≤ y = h i (omega arith) (omega arith) in
              omega arith
        ]

    placed_after : (x : ℕ) → x < length stack → IsPlaced nodes after x
    placed_after x within = elim (cases_eq x (length s.stack)) [
      | inl e ↦
          let is : at stack x ≡ v = ap (at stack) e ∙ on_stack.last in
          record {
            below = subst (λ n. n < nodes) (sym is) below;
            place = ap (at places) is ∙ at_place.here ∙ sym e;
            number = ap (at s.numbers) is ∙ (way.new v below is_new).0;
          }
      | inr apart ↦
          let lt : x < length s.stack = let more = size in omega arith in
          let is : at stack x ≡ at s.stack x = on_stack.same x lt in
          let old = way.placed x lt in
          record {
            below = subst (λ n. n < nodes) (sym is) old.below;
            place = ap (at places) is ∙ at_place.others (at s.stack x) (other_node x lt) ∙ old.place;
            number = ap (at s.numbers) is ∙ old.number;
          }
    ]

    seen_after : (w : ℕ) → w < nodes → IsNew after w ⊎ IsDone after w ⊎ IsOpen after w
    seen_after w w_below = elim (cases_eq w v) [
      | inl e ↦
          let place : at places w ≡ length s.stack = ap (at places) e ∙ at_place.here in
          let more = size in
          inr (inr (omega arith, ap (at stack) place ∙ on_stack.last ∙ sym e))
      | inr apart ↦
          let is : at places w ≡ at s.places w = at_place.others w apart in
          elim (way.seen w w_below) [
            | inl new ↦ inl (is ∙ new)
            | inr (inl is_done) ↦ inr (inl is_done)
            | inr (inr (lt, on)) ↦
                let more = size in
                inr (inr (omega arith, ap (at stack) is ∙ on_stack.same (at s.places w) lt ∙ on))
          ]
    ]

    new_after : (w : ℕ) → w < nodes → IsNew after w → (at s.numbers w ≡ none) × (at s.rest w + at starts w ≡ at starts (w + 1))
    new_after w w_below new = elim (cases_eq w v) [
      | inl e ↦
          let place : at places w ≡ length s.stack = ap (at places) e ∙ at_place.here in
          absurd (let same : at places w ≡ none = new in omega arith)
      | inr apart ↦ way.new w w_below (sym (at_place.others w apart) ∙ new)
    ]

    led_after : (x k : ℕ) → x < length stack → IsTaken starts after (at stack x) k → LeadsOn after x (at targets k)
    led_after x k within taken = elim (cases_eq x (length s.stack)) [
      | inl e ↦
          let is : at stack x ≡ v = ap (at stack) e ∙ on_stack.last in
          let from = subst (λ n. IsTaken starts s n k) is taken in
          let low = from.0 in
          let high = from.1 in
          let whole = (way.new v below is_new).1 in
          absurd (omega arith)
      | inr apart ↦
          let lt : x < length s.stack = let more = size in omega arith in
          let is : at stack x ≡ at s.stack x = on_stack.same x lt in
          elim (way.led x k lt (subst (λ n. IsTaken starts s n k) is taken)) [
            | inl is_done ↦ inl is_done
            | inr (y, y_in, on, behind) ↦ let more = size in inr (y, omega arith, on_stack.same y y_in ∙ on, behind_after x y lt behind)
          ]
    ]

    joined_after : (x y : ℕ) → x < length stack → y < length stack → Behind bounds x y → Close (HasArc starts targets) (at stack x) (at stack y)
    joined_after x y x_in y_in behind =
        let more = size in
        elim (cases_eq y (length s.stack)) [
          | inl y_last ↦
              let y_is : at stack y ≡ v = ap (at stack) y_last ∙ on_stack.last in
              elim (cases_eq x (length s.stack)) [
                | inl x_last ↦
                    let x_is : at stack x ≡ v = ap (at stack) x_last ∙ on_stack.last in
                    subst (λ n. Close (HasArc starts targets) (at stack x) n) (x_is ∙ sym y_is) (close_refl (HasArc starts targets) (at stack x))
                | inr apart ↦
                    let lt : x < length s.stack = omega arith in
                    subst (λ n. Close (HasArc starts targets) (at stack x) n) (sym y_is) (subst (λ n. Close (HasArc starts targets) n v) (sym (on_stack.same x lt)) (reaches x lt))
              ]
          | inr y_apart ↦
              let y_lt : y < length s.stack = omega arith in
              elim (cases_eq x (length s.stack)) [
                | inl x_last ↦
                    let bound_more = on_bounds.size in
                    let last : at bounds (length s.bounds) ≡ length s.stack = on_bounds.last in
                    let up : at bounds (length s.bounds) ≤ y = behind (length s.bounds) (omega arith) (omega arith) in
                    absurd (omega arith)
                | inr apart ↦
                    let lt : x < length s.stack = omega arith in
                    subst (λ n. Close (HasArc starts targets) (at stack x) n) (sym (on_stack.same y y_lt))
                    (subst (λ n. Close (HasArc starts targets) n (at s.stack y)) (sym (on_stack.same x lt)) (way.joined x y lt y_lt (behind_before x y behind)))
              ]
        ]

    first_after : 0 < length stack → (0 < length bounds) × (at bounds 0 ≡ 0)
    first_after some =
        let more = on_bounds.size in (
          omega arith,
          elim (cases_lt 0 (length s.stack)) [
            | inl had ↦ let old = way.first had in on_bounds.same 0 old.0 ∙ old.1
            | inr had_none ↦
                let none_there : length s.bounds ≡ 0 = elim (cases_lt 0 (length s.bounds)) [
                  | inl lt ↦ let in_stack = way.bounds_in 0 lt in absurd (omega arith)
                  | inr few ↦ omega arith
                ] in
                let empty : length s.stack ≡ 0 = omega arith in
                ap (at bounds) (sym none_there) ∙ on_bounds.last ∙ empty
          ],
        )

    finished_after : (x : ℕ) → x < length stack → (at s.rest (at stack x) ≡ 0) ⊎ ((i : ℕ) × (i < length path) × (at path i ≡ x))
    finished_after x within =
        let more = on_path.size in
        elim (cases_eq x (length s.stack)) [
          | inl e ↦ inr (length s.path, omega arith, on_path.last ∙ sym e)
          | inr apart ↦
              let lt : x < length s.stack = let grown = size in omega arith in
              elim (way.finished x lt) [
                | inl ended ↦ inl (ap (at s.rest) (on_stack.same x lt) ∙ ended)
                | inr (i, i_in, is) ↦ inr (i, omega arith, on_path.same i i_in ∙ is)
              ]
        ]

    inside : (xs ys : List ℕ) → IsPushed xs (length s.stack) ys → ((i : ℕ) → i < length xs → at xs i < length s.stack) → (i : ℕ) → i < length ys → at ys i < length stack
    inside xs ys more old i lt =
        let grown = more.size in
        let wider = size in
        elim (cases_eq i (length xs)) [
          | inl e ↦ let is : at ys i ≡ length s.stack = ap (at ys) e ∙ more.last in omega arith
          | inr apart ↦
              let is : at ys i ≡ at xs i = more.same i (omega arith) in
              let less : at xs i < length s.stack = old i (omega arith) in
              omega arith
        ]

    pub entered : IsUnderWay starts targets nodes after
    entered = record {
      rest_size = way.rest_size;
      places_size = at_place.size ∙ way.places_size;
      numbers_size = way.numbers_size;
      few = way.few;
      room = let more = size in omega arith;
      placed = placed_after;
      seen = seen_after;
      new = new_after;
      left = way.left;
      bounds_rise = pushed_rises s.bounds (length s.stack) bounds on_bounds way.bounds_in way.bounds_rise;
      bounds_in = inside s.bounds bounds on_bounds way.bounds_in;
      first = first_after;
      path_rises = pushed_rises s.path (length s.stack) path on_path way.path_in way.path_rises;
      path_in = inside s.path path on_path way.path_in;
      finished = finished_after;
      led = led_after;
      joined = joined_after;
      done = λ w k w_below is_done arc. let e = way.done w k w_below is_done arc in record { done = e.done; fall = e.fall; joined = e.joined };
    }

  -- The arc with the greatest number that is left is taken, which leads on.
  module _ (x less : ℕ) (within : x < length s.stack) (had : at s.rest (at s.stack x) ≡ less + 1) (k : ℕ) (is_next : k + less + 1 ≡ at starts (at s.stack x + 1))
      (in_path : (i : ℕ) × (i < length s.path) × (at s.path i ≡ x)) (leads : LeadsOn s x (at targets k)) (rest : List ℕ) (set : IsSet s.rest (at s.stack x) less rest) where
    abbrev after_arc : State
    after_arc = record { stack = s.stack; bounds = s.bounds; path = s.path; rest = rest; places = s.places; numbers = s.numbers; count = s.count }

    abbrev v : ℕ
    v = at s.stack x

    rest_below : (w : ℕ) → at rest w ≤ at s.rest w
    rest_below w = elim (cases_eq w v) [
      | inl e ↦ let one : at rest w ≡ less = ap (at rest) e ∙ set.here in let two : at s.rest w ≡ less + 1 = ap (at s.rest) e ∙ had in omega arith
      | inr apart ↦ let is : at rest w ≡ at s.rest w = set.others w apart in omega arith
    ]

    seen_node : (w : ℕ) → IsNew s w → w ≡ v → ⊥
    seen_node w new e =
        let place : at s.places w ≡ x = ap (at s.places) e ∙ place_of_node starts targets nodes s way x within in
        let same : at s.places w ≡ none = new in
        let room = way.room in
        omega (arith, within)

    left_after : (w : ℕ) → w < nodes → at rest w + at starts w ≤ at starts (w + 1)
    left_after w below = let old = way.left w below in let less_left = rest_below w in omega arith

    finished_arc : (y : ℕ) → y < length s.stack → (at rest (at s.stack y) ≡ 0) ⊎ ((i : ℕ) × (i < length s.path) × (at s.path i ≡ y))
    finished_arc y y_in = elim (way.finished y y_in) [
      | inl ended ↦ let most = rest_below (at s.stack y) in inl (omega arith)
      | inr there ↦ inr there
    ]

    led_arc : (y j : ℕ) → y < length s.stack → IsTaken starts after_arc (at s.stack y) j → LeadsOn after_arc y (at targets j)
    led_arc y j y_in taken = elim (cases_eq (at s.stack y) v) [
      | inl e ↦
          let same : y ≡ x = one_place starts targets nodes s way y x y_in within e in
          let left : at rest (at s.stack y) ≡ less = ap (at rest) e ∙ set.here in
          let was : at s.rest (at s.stack y) ≡ less + 1 = ap (at s.rest) e ∙ had in
          let next : k + less + 1 ≡ at starts (at s.stack y + 1) = is_next ∙ ap (λ n. at starts (n + 1)) (sym e) in
          let low = taken.0 in
          let high = taken.1 in
          elim (cases_eq j k) [
            | inl last ↦ subst (λ n. LeadsOn s n (at targets j)) (sym same) (subst (λ n. LeadsOn s x (at targets n)) (sym last) leads)
            | inr before ↦ way.led y j y_in (low, omega arith)
          ]
      | inr apart ↦
          let is : at rest (at s.stack y) ≡ at s.rest (at s.stack y) = set.others (at s.stack y) apart in
          let low = taken.0 in
          let high = taken.1 in
          way.led y j y_in (low, omega arith)
    ]

    pub arc_taken : IsUnderWay starts targets nodes after_arc
    arc_taken = record {
      rest_size = set.size ∙ way.rest_size;
      places_size = way.places_size;
      numbers_size = way.numbers_size;
      few = way.few;
      room = way.room;
      placed = λ y y_in. let old = way.placed y y_in in record { below = old.below; place = old.place; number = old.number };
      seen = way.seen;
      new = λ w below new. let old = way.new w below new in (old.0, ap (λ n. n + at starts w) (set.others w (seen_node w new)) ∙ old.1);
      left = left_after;
      bounds_rise = way.bounds_rise;
      bounds_in = way.bounds_in;
      first = way.first;
      path_rises = way.path_rises;
      path_in = way.path_in;
      finished = finished_arc;
      led = led_arc;
      joined = way.joined;
      done = λ w j below is_done arc. let e = way.done w j below is_done arc in record { done = e.done; fall = e.fall; joined = e.joined };
    }

  -- The node at the last place of the path has no arc left.
  module _ (n : ℕ) (path : List ℕ) (whole : length s.path ≡ n + 1) (cut : IsCut s.path n path) (ended : at s.rest (at s.stack (at s.path n)) ≡ 0) where
    abbrev after_node : State
    after_node = record { stack = s.stack; bounds = s.bounds; path = path; rest = s.rest; places = s.places; numbers = s.numbers; count = s.count }

    finished_node : (y : ℕ) → y < length s.stack → (at s.rest (at s.stack y) ≡ 0) ⊎ ((i : ℕ) × (i < length path) × (at path i ≡ y))
    finished_node y y_in = elim (way.finished y y_in) [
      | inl done ↦ inl done
      | inr (i, i_in, is) ↦
          let size = cut.size in
          elim (cases_eq i n) [
            | inl e ↦ inl (ap (λ p. at s.rest (at s.stack p)) (sym is ∙ ap (at s.path) e) ∙ ended)
            | inr apart ↦ inr (i, omega arith, cut.same i (omega arith) ∙ is)
          ]
    ]

    path_in_node : (i : ℕ) → i < length path → at path i < length s.stack
    path_in_node i lt =
        let size = cut.size in
        let is : at path i ≡ at s.path i = cut.same i (omega arith) in
        let old : at s.path i < length s.stack = way.path_in i (omega arith) in
        omega arith

    pub node_ended : IsUnderWay starts targets nodes after_node
    node_ended = record {
      rest_size = way.rest_size;
      places_size = way.places_size;
      numbers_size = way.numbers_size;
      few = way.few;
      room = way.room;
      placed = λ y y_in. let old = way.placed y y_in in record { below = old.below; place = old.place; number = old.number };
      seen = way.seen;
      new = way.new;
      left = way.left;
      bounds_rise = way.bounds_rise;
      bounds_in = way.bounds_in;
      first = way.first;
      path_rises = cut_rises s.path n path cut way.path_rises;
      path_in = path_in_node;
      finished = finished_node;
      led = way.led;
      joined = way.joined;
      done = λ w j below is_done arc. let e = way.done w j below is_done arc in record { done = e.done; fall = e.fall; joined = e.joined };
    }
