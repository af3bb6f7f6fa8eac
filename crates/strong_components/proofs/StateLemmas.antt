-- Lists that grow or shrink by one, seen place by place; taking an arc; and what is so at the end.
use Rattle.std.proofs.Common.{◌≡◌, ℕ, ◌+◌, ◌<◌, ◌≤◌, inl, inr, List, [], ◌∷◌, ◌++◌, length, take, slice_set, refl, sym, ap, ◌∙◌, subst, arith, length-append, length-set, get_or-set_same, get_or-set_other}
use Rattle.std.proofs.lemmas.Bool.{cases_eq, cases_lt}
use Rattle.std.proofs.lemmas.List.{get_or_push, get_or_append_left, get_or-take, length-take-le}
use Rattle.auto_core.specs.Game.{Close}
use Rattle.strong_components.specs.Graph.{at, HasArc, AreComponents}
use Rattle.strong_components.specs.UnderWay.{none, State, IsDone, IsNew, Rises, IsUnderWay}

-- The second list has one item more.
pub record IsPushed (xs : List ℕ) (x : ℕ) (ys : List ℕ) : Type 0 where
  pub size : length ys ≡ length xs + 1
  pub same : (i : ℕ) → i < length xs → at ys i ≡ at xs i
  pub last : at ys (length xs) ≡ x

pub pushed : (xs : List ℕ) (x : ℕ) → IsPushed xs x (xs ++ x ∷ [])
pushed xs x = record {
  size = length-append xs (x ∷ []);
  same = λ i lt. get_or_append_left xs (x ∷ []) 0 i lt;
  last = get_or_push xs x 0 (length xs) refl;
}

-- The second list is the first one up to a place.
pub record IsCut (xs : List ℕ) (n : ℕ) (ys : List ℕ) : Type 0 where
  pub size : length ys ≡ n
  pub within : n ≤ length xs
  pub same : (i : ℕ) → i < n → at ys i ≡ at xs i

pub is_cut : (xs : List ℕ) (n : ℕ) → n ≤ length xs → IsCut xs n (take n xs)
is_cut xs n within = record { size = length-take-le n xs within; within = within; same = λ i lt. get_or-take n xs i 0 lt }

-- The second list has another item at the place.
pub record IsSet (xs : List ℕ) (place x : ℕ) (ys : List ℕ) : Type 0 where
  pub size : length ys ≡ length xs
  pub here : at ys place ≡ x
  pub others : (i : ℕ) → (i ≡ place → ⊥) → at ys i ≡ at xs i

pub is_set : (xs : List ℕ) (place x : ℕ) → place < length xs → IsSet xs place x (slice_set xs place x)
is_set xs place x within = record {
  size = length-set xs place x;
  here = get_or-set_same xs place x 0 within;
  others = λ i apart. get_or-set_other xs place i x 0 apart;
}

-- A list that is cut rises if the whole one does.
pub cut_rises : (xs : List ℕ) (n : ℕ) (ys : List ℕ) → IsCut xs n ys → Rises xs → Rises ys
cut_rises xs n ys cut rises i j lt within =
    let size = cut.size in
    let most = cut.within in
    let one : at ys i ≡ at xs i = cut.same i (omega arith) in
    let two : at ys j ≡ at xs j = cut.same j (omega arith) in
    let less : at xs i < at xs j = rises i j lt (omega arith) in
    omega arith

pub pushed_rises : (xs : List ℕ) (x : ℕ) (ys : List ℕ) → IsPushed xs x ys → ((i : ℕ) → i < length xs → at xs i < x) → Rises xs → Rises ys
pushed_rises xs x ys pushed below rises i j lt within =
    let size = pushed.size in
    let one : at ys i ≡ at xs i = pushed.same i (omega arith) in
    elim (cases_eq j (length xs)) [
      | inl e ↦
          let two : at ys j ≡ x = ap (at ys) e ∙ pushed.last in
          let less : at xs i < x = below i (omega arith) in
          omega arith
      | inr apart ↦
          let two : at ys j ≡ at xs j = pushed.same j (omega arith) in
          let less : at xs i < at xs j = rises i j lt (omega arith) in
          omega arith
    ]

module _ (starts targets : List ℕ) (nodes : ℕ) (s : State) (way : IsUnderWay starts targets nodes s) where
  -- A node on the stack is seen, and has no component.
  pub place_of_node : (x : ℕ) → x < length s.stack → at s.places (at s.stack x) ≡ x
  place_of_node x within = (way.placed x within).place

  pub one_place : (x y : ℕ) → x < length s.stack → y < length s.stack → at s.stack x ≡ at s.stack y → x ≡ y
  one_place x y x_in y_in same = sym (place_of_node x x_in) ∙ ap (at s.places) same ∙ place_of_node y y_in

  pub not_done : (x : ℕ) → x < length s.stack → IsDone s (at s.stack x) → ⊥
  not_done x within is_done =
      let plain : at s.numbers (at s.stack x) ≡ none = (way.placed x within).number in
      let few = way.few in
      omega (arith, is_done)

  -- Where no group is left, no node is.
  pub none_left : length s.bounds ≡ 0 → length s.stack ≡ 0
  none_left empty = elim (cases_lt 0 (length s.stack)) [
    | inl some ↦ let has = (way.first some).0 in absurd (omega arith)
    | inr few ↦ omega arith
  ]

  -- At the end the numbers are those of components.
  pub are_components : length s.bounds ≡ 0 → ((v : ℕ) → v < nodes → IsNew s v → ⊥) → ((v w : ℕ) → v < nodes → HasArc starts targets v w → w < nodes) → AreComponents starts targets nodes s.numbers
  are_components empty all_seen to_nodes = record {
    size = way.numbers_size;
    fall = λ v w below (k, arc, is). subst (λ n. at s.numbers n ≤ at s.numbers v) is (way.done v k below (done_at v below) arc).fall;
    joined = λ v w below (k, arc, is).
        subst (λ n. at s.numbers n ≡ at s.numbers v → Close (HasArc starts targets) n v) is (way.done v k below (done_at v below) arc).joined;
  }
    where
      done_at : (v : ℕ) → v < nodes → IsDone s v
      done_at v below = elim (way.seen v below) [
        | inl new ↦ absurd (all_seen v below new)
        | inr (inl is_done) ↦ is_done
        | inr (inr on) ↦ let size = none_left empty in let lt = on.0 in absurd (omega arith)
      ]

abbrev made : List ℕ → List ℕ → List ℕ → List ℕ → List ℕ → List ℕ → ℕ → State
made stack bounds path rest places numbers count = record { stack = stack; bounds = bounds; path = path; rest = rest; places = places; numbers = numbers; count = count }

-- Two states with the same parts are one.
pub same_state : (s t : State) → s.stack ≡ t.stack → s.bounds ≡ t.bounds → s.path ≡ t.path → s.rest ≡ t.rest → s.places ≡ t.places → s.numbers ≡ t.numbers → s.count ≡ t.count → s ≡ t
same_state s t stack bounds path rest places numbers count =
    ap (λ x. made x s.bounds s.path s.rest s.places s.numbers s.count) stack
    ∙ ap (λ x. made t.stack x s.path s.rest s.places s.numbers s.count) bounds
    ∙ ap (λ x. made t.stack t.bounds x s.rest s.places s.numbers s.count) path
    ∙ ap (λ x. made t.stack t.bounds t.path x s.places s.numbers s.count) rest
    ∙ ap (λ x. made t.stack t.bounds t.path t.rest x s.numbers s.count) places
    ∙ ap (λ x. made t.stack t.bounds t.path t.rest t.places x s.count) numbers
    ∙ ap (λ x. made t.stack t.bounds t.path t.rest t.places t.numbers x) count
