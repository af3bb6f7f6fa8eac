-- What a step leaves.
use Rattle.std.proofs.Common.{◌≡◌, ℕ, ◌+◌, ◌-◌, ◌<◌, ◌≤◌, inl, inr, List, [], ◌∷◌, ◌++◌, length, take, slice_set, refl, sym, ap, ◌∙◌, subst, arith}
use Rattle.std.specs.List.{sum_by}
use Rattle.std.proofs.lemmas.List.Sums.{sum_by-set}
use Rattle.std.proofs.lemmas.Bool.{cases_eq}
use Rattle.strong_components.specs.Graph.{at, IsGraph}
use Rattle.strong_components.specs.UnderWay.{none, State, IsNew, IsUnderWay, AreMarked}
use Rattle.strong_components.specs.Steps.{CanGo, KeepsSeen, Went, IsLastOnPath, Stepped}
use Rattle.strong_components.proofs.StateLemmas.{pushed, IsCut, is_cut, IsSet, is_set, none_left}
use Rattle.strong_components.proofs.EnterLemmas.{entered, arc_taken, node_ended}
use Rattle.strong_components.proofs.CloseLemmas.{group_closed}

module _ (starts targets : List ℕ) (nodes : ℕ) (s : State) (way : IsUnderWay starts targets nodes s) where
  module _ (x : ℕ) (last : IsLastOnPath s x) where
    pub place_in : x < length s.stack
    place_in = subst (λ n. n < length s.stack) last.here (let some = last.some in way.path_in (length s.path - 1) (omega arith))

    pub node_below : at s.stack x < nodes
    node_below = (way.placed x place_in).below

    pub node_stepped : at s.rest (at s.stack x) ≡ 0 → Stepped starts targets nodes s
        (record { stack = s.stack; bounds = s.bounds; path = take (length s.path - 1) s.path; rest = s.rest; places = s.places; numbers = s.numbers; count = s.count })
    node_stepped ended =
        let n : ℕ = length s.path - 1 in
        let some = last.some in
        let whole : length s.path ≡ n + 1 = omega arith in
        let cut : IsCut s.path n (take n s.path) = is_cut s.path n (omega arith) in
        let size = cut.size in
        record {
          way = node_ended starts targets nodes s way n (take n s.path) whole cut (ap (λ p. at s.rest (at s.stack p)) last.here ∙ ended);
          less = omega arith;
          seen = λ v was now. was now;
        }

    -- The arc that is next.
    module _ (graph : IsGraph starts targets nodes) (less : ℕ) (had : at s.rest (at s.stack x) ≡ less + 1) where
      pub next_arc : (at starts (at s.stack x) ≤ at starts (at s.stack x + 1) - (less + 1)) × (less + 1 ≤ at starts (at s.stack x + 1))
      next_arc = let old = way.left (at s.stack x) node_below in (omega arith, omega arith)

      pub arc_in : at starts (at s.stack x + 1) - (less + 1) < length targets
      arc_in =
          let most = graph.within (at s.stack x) node_below in
          let old = next_arc in
          let enough = old.1 in
          omega arith

      pub can_go : CanGo starts targets nodes s x (at targets (at starts (at s.stack x + 1) - (less + 1)))
      can_go =
          let old = next_arc in
          let low = old.0 in
          let enough = old.1 in
          record {
            within = place_in;
            is_last = last.is_last;
            arc = (at starts (at s.stack x + 1) - (less + 1), (low, omega arith), refl);
            below = graph.to_nodes (at starts (at s.stack x + 1) - (less + 1)) arc_in;
          }

      pub arc_stepped : (t : State) → Went starts targets nodes s t x (at targets (at starts (at s.stack x + 1) - (less + 1))) → Stepped starts targets nodes s
          (record { stack = t.stack; bounds = t.bounds; path = t.path; rest = slice_set t.rest (at s.stack x) less; places = t.places; numbers = t.numbers; count = t.count })
      arc_stepped t went =
          let k : ℕ = at starts (at s.stack x + 1) - (less + 1) in
          let rest = slice_set t.rest (at s.stack x) less in
          let old = next_arc in
          let enough = old.1 in
          let some = last.some in
          let stack_more = went.stack.size in
          let path_more = went.path.size in
          let in_s = place_in in
          let node : at t.stack x ≡ at s.stack x = went.stack.same x in_s in
          let rest_size = went.way.rest_size in
          let below = node_below in
          let set : IsSet t.rest (at s.stack x) less rest = is_set t.rest (at s.stack x) less (omega arith) in
          let had_t : at t.rest (at s.stack x) ≡ less + 1 = ap (λ r. at r (at s.stack x)) went.rest ∙ had in
          let sums = sum_by-set (λ n. n) t.rest (at s.stack x) less 0 (omega arith) in
          let sums_s : sum_by (λ n. n) t.rest ≡ sum_by (λ n. n) s.rest = ap (λ r. sum_by (λ n. n) r) went.rest in
          let most = went.most in
          record {
            way = arc_taken starts targets nodes t went.way x less (omega arith) (ap (at t.rest) node ∙ had_t) k
                (subst (λ v. k + less + 1 ≡ at starts (v + 1)) (sym node) (omega arith))
                (length s.path - 1, omega arith, went.path.same (length s.path - 1) (omega arith) ∙ last.here) went.leads rest (subst (λ v. IsSet t.rest v less rest) (sym node) set);
            less = omega arith;
            seen = went.seen;
          }

  -- The same, by the numbers that the code has.
  module _ (x : ℕ) (last : IsLastOnPath s x) (graph : IsGraph starts targets nodes) (node left : ℕ) (is_node : at s.stack x ≡ node) (is_left : at s.rest node ≡ left) (some : left ≡ 0 → ⊥) where
    one_less : (left - 1) + 1 ≡ left
    one_less = elim (cases_eq left 0) [ inl e ↦ absurd (some e) | inr apart ↦ omega arith ]

    had_left : at s.rest (at s.stack x) ≡ (left - 1) + 1
    had_left = ap (at s.rest) is_node ∙ is_left ∙ sym one_less

    pub arc_can : CanGo starts targets nodes s x (at targets (at starts (node + 1) - left))
    arc_can =
        subst (λ n. CanGo starts targets nodes s x (at targets (at starts (n + 1) - left))) is_node
        (subst (λ m. CanGo starts targets nodes s x (at targets (at starts (at s.stack x + 1) - m))) one_less (can_go x last graph (left - 1) had_left))

    pub arc_makes : (t : State) → Went starts targets nodes s t x (at targets (at starts (node + 1) - left)) → Stepped starts targets nodes s
        (record { stack = t.stack; bounds = t.bounds; path = t.path; rest = slice_set t.rest node (left - 1); places = t.places; numbers = t.numbers; count = t.count })
    arc_makes t went =
        let back = subst (λ m. Went starts targets nodes s t x (at targets (at starts (at s.stack x + 1) - m))) (sym one_less)
        (subst (λ n. Went starts targets nodes s t x (at targets (at starts (n + 1) - left))) (sym is_node) went) in
        subst (λ n. Stepped starts targets nodes s
        (record { stack = t.stack; bounds = t.bounds; path = t.path; rest = slice_set t.rest n (left - 1); places = t.places; numbers = t.numbers; count = t.count })) is_node
        (arc_stepped x last graph (left - 1) had_left t back)

    pub node_in_rest : (t : State) → Went starts targets nodes s t x (at targets (at starts (node + 1) - left)) → node < length t.rest
    node_in_rest t went =
        let size = went.way.rest_size in
        let below : node < nodes = subst (λ n. n < nodes) is_node (node_below x last) in
        omega arith

  -- No bound is past the last one.
  pub bound_most : (i : ℕ) → i < length s.bounds → at s.bounds i ≤ at s.bounds (length s.bounds - 1)
  bound_most i lt = elim (cases_eq i (length s.bounds - 1)) [
    | inl e ↦ let eq : at s.bounds i ≡ at s.bounds (length s.bounds - 1) = ap (at s.bounds) e in omega arith
    | inr apart ↦ let less = way.bounds_rise i (length s.bounds - 1) (omega arith) (omega arith) in omega arith
  ]

  pub path_most : (start : ℕ) → (0 < length s.path → at s.path (length s.path - 1) < start) → (i : ℕ) → i < length s.path → at s.path i < start
  path_most start last i lt =
      let most = last (omega arith) in
      elim (cases_eq i (length s.path - 1)) [
        | inl e ↦ let eq : at s.path i ≡ at s.path (length s.path - 1) = ap (at s.path) e in omega arith
        | inr apart ↦ let less = way.path_rises i (length s.path - 1) (omega arith) (omega arith) in omega arith
      ]

  pub group_stepped : (numbers : List ℕ) → 0 < length s.bounds → ((i : ℕ) → i < length s.path → at s.path i < at s.bounds (length s.bounds - 1)) →
      AreMarked s.stack (at s.bounds (length s.bounds - 1)) s.count s.numbers numbers → s.count + 1 < none → Stepped starts targets nodes s
      (record { stack = take (at s.bounds (length s.bounds - 1)) s.stack; bounds = take (length s.bounds - 1) s.bounds; path = s.path; rest = s.rest; places = s.places; numbers = numbers; count = s.count + 1 })
  group_stepped numbers some ended marked few =
      let n : ℕ = length s.bounds - 1 in
      let start : ℕ = at s.bounds n in
      let within : start < length s.stack = way.bounds_in n (omega arith) in
      let cut_stack = is_cut s.stack start (omega (arith, within)) in
      let cut_bounds = is_cut s.bounds n (omega arith) in
      let size = cut_stack.size in
      record {
        way = group_closed starts targets nodes s way n start (omega arith) refl ended (take start s.stack) (take n s.bounds) numbers cut_stack cut_bounds marked few;
        less = omega arith;
        seen = λ v was now. was now;
      }

  -- A root that is seen, while no group is left.
  pub root_entered : (v : ℕ) → v < nodes → IsNew s v → length s.bounds ≡ 0 → length s.stack < none → (t : State) →
      t ≡ record { stack = s.stack ++ v ∷ []; bounds = s.bounds ++ length s.stack ∷ []; path = s.path ++ length s.stack ∷ []; rest = s.rest; places = slice_set s.places v (length s.stack); numbers = s.numbers; count = s.count } →
      IsUnderWay starts targets nodes t × KeepsSeen s t × (IsNew t v → ⊥)
  root_entered v below new empty room t is =
      let places = slice_set s.places v (length s.stack) in
      let place_in : v < length s.places = let size = way.places_size in omega arith in
      let set = is_set s.places v (length s.stack) place_in in
      let on_stack = pushed s.stack v in
      let on_bounds = pushed s.bounds (length s.stack) in
      let on_path = pushed s.path (length s.stack) in
      let alone = none_left starts targets nodes s way empty in
      subst (λ u. IsUnderWay starts targets nodes u × KeepsSeen s u × (IsNew u v → ⊥)) (sym is) (
        entered starts targets nodes s way v below new room (λ x lt. absurd (omega (arith, lt, alone))) (s.stack ++ v ∷ []) (s.bounds ++ length s.stack ∷ []) (s.path ++ length s.stack ∷ [])
            places on_stack on_bounds on_path set,
        λ w was now. elim (cases_eq w v) [
          | inl e ↦ was (ap (at s.places) e ∙ new)
          | inr apart ↦ was (sym (set.others w apart) ∙ now)
        ],
        λ now. let here : at places v ≡ length s.stack = set.here in let there : at places v ≡ none = now in omega arith,
      )
