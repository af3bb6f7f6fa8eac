-- The three ways to go on: to a new node, to one on the stack, and to one with a component.
use Rattle.std.proofs.Common.{◌≡◌, ℕ, ◌-◌, ◌<◌, ◌≤◌, inl, inr, List, [], ◌∷◌, ◌++◌, length, take, slice_set, refl, sym, ap, ◌∙◌, subst, arith, le_refl}
use Rattle.std.proofs.lemmas.Bool.{cases_eq}
use Rattle.auto_core.specs.Game.{Close}
use Rattle.auto_laws.proofs.GameLemmas.{close_trans, close_one}
use Rattle.strong_components.specs.Graph.{at, HasArc}
use Rattle.strong_components.specs.UnderWay.{none, State, IsDone, IsOpen, IsNew, IsUnderWay}
use Rattle.strong_components.specs.Steps.{CanGo, Begins, Went}
use Rattle.strong_components.proofs.StateLemmas.{pushed, is_cut, is_set}
use Rattle.strong_components.proofs.EnterLemmas.{entered}
use Rattle.strong_components.proofs.GroupLemmas.{groups_merged, behind_the_place}

begins_itself : (xs : List ℕ) → Begins xs xs
begins_itself xs = record { size = le_refl (length xs); same = λ i lt. refl }

begins_pushed : (xs : List ℕ) (x : ℕ) → Begins xs (xs ++ x ∷ [])
begins_pushed xs x = let p = pushed xs x in record { size = let more = p.size in omega arith; same = p.same }

module _ (starts targets : List ℕ) (nodes : ℕ) (s : State) (way : IsUnderWay starts targets nodes s) (x w : ℕ) (can : CanGo starts targets nodes s x w) where
  -- From each place a way leads to x, and on to w.
  reaches : (y : ℕ) → y < length s.stack → Close (HasArc starts targets) (at s.stack y) w
  reaches y y_in =
      close_trans (HasArc starts targets) (at s.stack y) (at s.stack x) w (way.joined y x y_in can.within (λ i lt low. can.is_last i lt))
      (close_one (HasArc starts targets) (at s.stack x) w can.arc)

  abbrev pub with_node : State
  with_node = record {
    stack = s.stack ++ w ∷ [];
    bounds = s.bounds ++ length s.stack ∷ [];
    path = s.path ++ length s.stack ∷ [];
    rest = s.rest;
    places = slice_set s.places w (length s.stack);
    numbers = s.numbers;
    count = s.count;
  }

  pub went_new : IsNew s w → length s.stack < none → Went starts targets nodes s with_node x w
  went_new new room =
      let place_in : w < length s.places = let size = way.places_size in let below = can.below in omega arith in
      let set = is_set s.places w (length s.stack) place_in in
      let on_stack = pushed s.stack w in
      let on_bounds = pushed s.bounds (length s.stack) in
      let on_path = pushed s.path (length s.stack) in
      let stack_size = on_stack.size in
      let path_size = on_path.size in
      record {
        way = entered starts targets nodes s way w can.below new room reaches (s.stack ++ w ∷ []) (s.bounds ++ length s.stack ∷ []) (s.path ++ length s.stack ∷ [])
            (slice_set s.places w (length s.stack)) on_stack on_bounds on_path set;
        leads = inr (length s.stack, omega arith, on_stack.last, λ i lt low. let within = can.within in omega arith);
        rest = refl;
        stack = begins_pushed s.stack w;
        path = begins_pushed s.path (length s.stack);
        most = omega arith;
        seen = λ v was now. elim (cases_eq v w) [
          | inl e ↦ was (ap (at s.places) e ∙ new)
          | inr apart ↦ was (sym (set.others v apart) ∙ now)
        ];
        is_seen = λ now. let here : at (slice_set s.places w (length s.stack)) w ≡ length s.stack = set.here in
            let there : at (slice_set s.places w (length s.stack)) w ≡ none = now in omega arith;
      }

  abbrev pub with_bounds : List ℕ → State
  with_bounds bounds = record { stack = s.stack; bounds = bounds; path = s.path; rest = s.rest; places = s.places; numbers = s.numbers; count = s.count }

  -- The node is on the stack.
  is_open : (IsNew s w → ⊥) → at s.numbers w ≡ none → IsOpen s w
  is_open seen plain = elim (way.seen w can.below) [
    | inl new ↦ absurd (seen new)
    | inr (inl is_done) ↦ let few = way.few in absurd (omega (arith, is_done))
    | inr (inr on) ↦ on
  ]

  pub went_open : (IsNew s w → ⊥) → at s.numbers w ≡ none → (n : ℕ) → n ≤ length s.bounds → (0 < n → at s.bounds (n - 1) ≤ at s.places w) →
      ((i : ℕ) → n ≤ i → i < length s.bounds → at s.places w < at s.bounds i) → Went starts targets nodes s (with_bounds (take n s.bounds)) x w
  went_open seen plain n within last past =
      let y : ℕ = at s.places w in
      let on = is_open seen plain in
      let cut = is_cut s.bounds n within in
      let up_to : (i : ℕ) → i < n → at s.bounds i ≤ y = λ i lt. elim (cases_eq i (n - 1)) [
        | inl e ↦ let eq : at s.bounds i ≡ at s.bounds (n - 1) = ap (at s.bounds) e in let low = last (omega arith) in omega arith
        | inr apart ↦ let less = way.bounds_rise i (n - 1) (omega arith) (omega arith) in let low = last (omega arith) in omega arith
      ] in
      let steps : Close (HasArc starts targets) (at s.stack x) (at s.stack y) = subst (λ m. Close (HasArc starts targets) (at s.stack x) m) (sym on.1) (close_one (HasArc starts targets) (at s.stack x) w can.arc) in
      record {
        way = groups_merged starts targets nodes s way x y can.within on.0 can.is_last steps n (take n s.bounds) cut up_to past;
        leads = inr (y, on.0, on.1, behind_the_place starts targets nodes s way x y can.within on.0 can.is_last steps n (take n s.bounds) cut up_to past);
        rest = refl;
        stack = begins_itself s.stack;
        path = begins_itself s.path;
        most = omega arith;
        seen = λ v was now. was now;
        is_seen = seen;
      }

  pub went_done : (IsNew s w → ⊥) → (at s.numbers w ≡ none → ⊥) → Went starts targets nodes s s x w
  went_done seen numbered =
      let is_done : IsDone s w = elim (way.seen w can.below) [
        | inl new ↦ absurd (seen new)
        | inr (inl done) ↦ done
        | inr (inr on) ↦ absurd (numbered (ap (at s.numbers) (sym on.1) ∙ (way.placed (at s.places w) on.0).number))
      ] in
      record {
        way = way;
        leads = inl is_done;
        rest = refl;
        stack = begins_itself s.stack;
        path = begins_itself s.path;
        most = omega arith;
        seen = λ v was now. was now;
        is_seen = seen;
      }
