-- Groups that are made one, and the last group made a component.
use Rattle.std.proofs.Common.{◌≡◌, ℕ, ◌<◌, ◌≤◌, inl, inr, List, length, ap, ◌∙◌, arith}
use Rattle.std.proofs.lemmas.Bool.{cases_eq, cases_lt}
use Rattle.auto_core.specs.Game.{Close}
use Rattle.auto_laws.proofs.GameLemmas.{close_trans}
use Rattle.strong_components.specs.Graph.{at, HasArc}
use Rattle.strong_components.specs.UnderWay.{State, Behind, IsTaken, LeadsOn, IsUnderWay}
use Rattle.strong_components.proofs.StateLemmas.{IsCut, cut_rises}

module _ (starts targets : List ℕ) (nodes : ℕ) (s : State) (way : IsUnderWay starts targets nodes s) where
  -- The bounds up to the first that is past the place y stay. From x, at or past all bounds, an arc leads to the node
  -- there.
  module _ (x y : ℕ) (x_in : x < length s.stack) (y_in : y < length s.stack) (is_last : (i : ℕ) → i < length s.bounds → at s.bounds i ≤ x)
      (steps : Close (HasArc starts targets) (at s.stack x) (at s.stack y))
      (n : ℕ) (bounds : List ℕ) (cut : IsCut s.bounds n bounds) (up_to : (i : ℕ) → i < n → at s.bounds i ≤ y) (past : (i : ℕ) → n ≤ i → i < length s.bounds → y < at s.bounds i) where
    abbrev merged : State
    merged = record { stack = s.stack; bounds = bounds; path = s.path; rest = s.rest; places = s.places; numbers = s.numbers; count = s.count }

    same : (i : ℕ) → i < n → at bounds i ≡ at s.bounds i
    same = cut.same

    wider : (a b : ℕ) → Behind s.bounds a b → Behind bounds a b
    wider a b h i lt low =
        let size = cut.size in
        let most = cut.within in
        let is : at bounds i ≡ at s.bounds i = same i (omega arith) in
        let up : at s.bounds i ≤ b = h i (omega arith) (omega arith) in
        omega arith

    pub behind_the_place : Behind bounds x y
    behind_the_place i lt low =
        let size = cut.size in
        let is : at bounds i ≡ at s.bounds i = same i (omega arith) in
        let up : at s.bounds i ≤ y = up_to i (omega arith) in
        omega arith

    joined_merged : (a b : ℕ) → a < length s.stack → b < length s.stack → Behind bounds a b → Close (HasArc starts targets) (at s.stack a) (at s.stack b)
    joined_merged a b a_in b_in behind =
        let size = cut.size in
        let most = cut.within in
        elim (cases_lt n (length s.bounds)) [
          | inl more ↦ elim (cases_lt a (at s.bounds n)) [
            | inl before ↦ way.joined a b a_in b_in (λ i lt low. elim (cases_lt i n) [
              | inl kept ↦
                  let is : at bounds i ≡ at s.bounds i = same i kept in
                  let up : at bounds i ≤ b = behind i (omega arith) (omega arith) in
                  omega arith
              | inr from ↦
                  let rising : at s.bounds n ≤ at s.bounds i = elim (cases_eq i n) [
                    | inl e ↦ let eq : at s.bounds i ≡ at s.bounds n = ap (at s.bounds) e in omega arith
                    | inr apart ↦ let less = way.bounds_rise n i (omega arith) lt in omega arith
                  ] in
                  absurd (omega arith)
            ])
            | inr from ↦
                let to_x : Close (HasArc starts targets) (at s.stack a) (at s.stack x) = way.joined a x a_in x_in (λ i lt low. is_last i lt) in
                let from_y : Close (HasArc starts targets) (at s.stack y) (at s.stack b) = way.joined y b y_in b_in (λ i lt low. elim (cases_lt i n) [
                  | inl kept ↦
                      let is : at bounds i ≡ at s.bounds i = same i kept in
                      let less : at s.bounds i < at s.bounds n = way.bounds_rise i n kept more in
                      let up : at bounds i ≤ b = behind i (omega arith) (omega arith) in
                      omega arith
                  | inr late ↦ let far : y < at s.bounds i = past i late lt in absurd (omega arith)
                ]) in
                close_trans (HasArc starts targets) (at s.stack a) (at s.stack y) (at s.stack b)
                (close_trans (HasArc starts targets) (at s.stack a) (at s.stack x) (at s.stack y) to_x steps) from_y
          ]
          | inr all ↦ way.joined a b a_in b_in (λ i lt low.
              let is : at bounds i ≡ at s.bounds i = same i (omega arith) in
              let up : at bounds i ≤ b = behind i (omega arith) (omega arith) in
              omega arith)
        ]

    led_merged : (a k : ℕ) → a < length s.stack → IsTaken starts merged (at s.stack a) k → LeadsOn merged a (at targets k)
    led_merged a k a_in taken = elim (way.led a k a_in taken) [
      | inl is_done ↦ inl is_done
      | inr (b, b_in, is, behind) ↦ inr (b, b_in, is, wider a b behind)
    ]

    bounds_in_merged : (i : ℕ) → i < length bounds → at bounds i < length s.stack
    bounds_in_merged i lt =
        let size = cut.size in
        let most = cut.within in
        let is : at bounds i ≡ at s.bounds i = same i (omega arith) in
        let old : at s.bounds i < length s.stack = way.bounds_in i (omega arith) in
        omega arith

    first_merged : 0 < length s.stack → (0 < length bounds) × (at bounds 0 ≡ 0)
    first_merged some =
        let old = way.first some in
        let has : 0 < length s.bounds = old.0 in
        let zero_there : at s.bounds 0 ≡ 0 = old.1 in
        let size = cut.size in
        let kept : 0 < n = elim (cases_lt 0 n) [
          | inl lt ↦ lt
          | inr few ↦ let far : y < at s.bounds 0 = past 0 (omega arith) has in absurd (omega arith)
        ] in
        (omega arith, same 0 kept ∙ zero_there)

    pub groups_merged : IsUnderWay starts targets nodes merged
    groups_merged = record {
      rest_size = way.rest_size;
      places_size = way.places_size;
      numbers_size = way.numbers_size;
      few = way.few;
      room = way.room;
      placed = λ a a_in. let old = way.placed a a_in in record { below = old.below; place = old.place; number = old.number };
      seen = way.seen;
      new = way.new;
      left = way.left;
      bounds_rise = cut_rises s.bounds n bounds cut way.bounds_rise;
      bounds_in = bounds_in_merged;
      first = first_merged;
      path_rises = way.path_rises;
      path_in = way.path_in;
      finished = way.finished;
      led = led_merged;
      joined = joined_merged;
      done = λ w j below is_done arc. let e = way.done w j below is_done arc in record { done = e.done; fall = e.fall; joined = e.joined };
    }
