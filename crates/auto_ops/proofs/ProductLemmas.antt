-- The intersection while it is made.
use Rattle.std.proofs.Common.{◌≡◌, ℕ, zero, suc, ◌+◌, ◌-◌, ◌<◌, ◌≤◌, ◌⊎◌, ◌↔◌, inl, inr, Bool, true, false, not, cond, ◌&&◌, List, [], ◌∷◌, ◌++◌, length, get_or, take, drop, map, filter, All, Contains, eqb, Some, refl, sym, ap, ◌∙◌, subst, arith, length-append, append_assoc, if◌then◌else◌}
use Rattle.std.specs.List.{flat_map, list_any}
use Rattle.std.proofs.lemmas.Bool.{false≢true, eq-eqb, eqb-true, ne_eqb, and_parts, and_from, cases_lt}
use Rattle.std.proofs.lemmas.List.{length_push, get_or_push, map_push, map-append, append-nil, take_more, take_all, take-append-le, take-append-drop, take-take, length-drop, get_or-drop, flat_map_more}
use Rattle.std.proofs.lemmas.List.Elements.{All-contains, All-push, All-take, All-cons, All-nil, Contains-append_left, Contains-append_right, Contains-append_cases}
use Rattle.std.proofs.lemmas.List.Folds.{list_any_at}
use Rattle.std.proofs.lemmas.List.Concat.{flat_map-append}
use Rattle.std.proofs.lemmas.List.Sorted.{Contains-permutation, IsPermutation-sym, length_permutation}
use Rattle.std.proofs.lemmas.Option.{slice_get-get_or, slice_get_within, get_or_from_slice_get}
use Rattle.auto_core.specs.Automaton.{Automaton, IsAutomaton, Moves, IsOutgoing, IsSuccessors, IsBelowPair, IsAbovePair, trans, trans_at, HasRepeat}
use Rattle.auto_core.specs.Build.{IsBuilt}
use Rattle.auto_core.specs.Parts.{AreParts}
use Rattle.auto_core.specs.Outcome.{At}
use Rattle.auto_core.specs.declared.parts.Mode.{Mode}
use Rattle.auto_core.specs.declared.parts.Trans.{Trans}
use Rattle.auto_core.proofs.PathLemmas.{Contains-here, Contains-later, Contains-cons_cases, none_in_nil}
use Rattle.auto_core.proofs.MoveLemmas.{move_in_range}
use Rattle.auto_core.proofs.MemberLemmas.{Rises, filter_has, filter_from, map_has, map_from}
use Rattle.ba_format.specs.Sight.{noted, first_seen}
use Rattle.auto_ops.specs.declared.product_states.ProductState.{ProductState}
use Rattle.auto_ops.specs.Limits.{IsSmallResult}
use Rattle.auto_ops.specs.Intersection.{product_state, start_of, awaits_after, GoesBeside, IsReachedBy, IsProductReached, IsAcceptingProductState, ProductMove, product_move, goes_from, goes_with, moves_beside, moves_of, moves_from, same_product_state, seen_by, IsIntersection, IsIntersectionTooLarge}
use Rattle.auto_ops.specs.UnderWay.{IsMoveNumbered, AreMoves, IsInside, IsUnderWay, AreTooMany, IsRoomy, IsExplored, IsExploredUpto}
use Rattle.auto_ops.proofs.SightLemmas.{Differ, apart_append, apart_map, apart_filter, apart_flat, apart_front, apart_once, noted_more, flat_from, flat_has, at_member, at_one, at_place, at_front, all_from, filter_part, fold_append, first_more, seen_start, first_apart, first_from, first_has}
use Rattle.auto_ops.proofs.UnionLemmas.{same_parts, transitions_apart}

-- ---- the same product state

flags_same : (a b : Bool) → cond a b (not b) ≡ true → a ≡ b
flags_same true true h = refl
flags_same true false h = absurd (false≢true h)
flags_same false true h = absurd (false≢true h)
flags_same false false h = refl

flag_itself : (a : Bool) → cond a a (not a) ≡ true
flag_itself true = refl
flag_itself false = refl

pub same_equal : (t u : ProductState) → same_product_state t u ≡ true → t ≡ u
same_equal t u h =
    let (front, flags) = and_parts (eqb t.first u.first && eqb t.second u.second) (cond t.awaits_second u.awaits_second (not u.awaits_second)) h in
    let (one, two) = and_parts (eqb t.first u.first) (eqb t.second u.second) front in
    let p = eqb-true t.first u.first one in
    let q = eqb-true t.second u.second two in
    let r = flags_same t.awaits_second u.awaits_second flags in
    λ i. product_state (p i) (q i) (r i)

pub same_itself : (t : ProductState) → same_product_state t t ≡ true
same_itself t = and_from (eqb t.first t.first && eqb t.second t.second) (cond t.awaits_second t.awaits_second (not t.awaits_second))
    (and_from (eqb t.first t.first) (eqb t.second t.second) (eq-eqb t.first t.first refl) (eq-eqb t.second t.second refl)) (flag_itself t.awaits_second)

-- a product state that is there needs no new number
pub noted_there : (product_states : List ProductState) (n : ℕ) (t : ProductState) → At product_states n t → noted same_product_state product_states t ≡ product_states
noted_there product_states n t h =
    let lt = slice_get_within product_states n t h in
    let hit : list_any (same_product_state t) product_states ≡ true = list_any_at (same_product_state t) product_states n t lt (ap (same_product_state t) (get_or_from_slice_get product_states n t t h) ∙ same_itself t) in
    ap (λ b. if b then product_states else product_states ++ t ∷ []) hit

-- a new one stands at the end
pub at_end : (product_states : List ProductState) (n : ℕ) (t : ProductState) → n ≡ length product_states → At (product_states ++ t ∷ []) n t
at_end product_states n t e =
    slice_get-get_or (product_states ++ t ∷ []) n t (omega (arith, length_push product_states t)) ∙ ap (λ x. Some x) (get_or_push product_states t t n (sym e))

-- ---- the moves from a product state

module _ (mode : Mode) (A B : Automaton) where
  beside_from : (t : ProductState) (x : Trans) (m : ProductMove) → Contains (moves_beside mode A B t x) m → (y : Trans) × Contains B.transitions y × (y.source ≡ t.second) × (y.label ≡ x.label) × (product_move mode A B t x y ≡ m)
  beside_from t x m h =
      let (y, there, is) = map_from (product_move mode A B t x) (filter (goes_with t.second x.label) B.transitions) m h in
      let (y_in, test) = filter_from (goes_with t.second x.label) B.transitions y there in
      let (s, a) = and_parts (eqb y.source t.second) (eqb y.label x.label) test in
      (y, y_in, eqb-true y.source t.second s, eqb-true y.label x.label a, is)

  pub move_from : (t : ProductState) (m : ProductMove) → Contains (moves_of mode A B t) m → (m.source ≡ t) × GoesBeside mode A B t m.label m.target
  move_from t m h =
      let (x, x_there, near) = flat_from (moves_beside mode A B t) (filter (goes_from t.first) A.transitions) m h in
      let (x_in, x_test) = filter_from (goes_from t.first) A.transitions x x_there in
      let (y, y_in, s, a, is) = beside_from t x m near in
      let first : Moves A t.first x.label x.target = subst (λ p. Moves A p x.label x.target) (eqb-true x.source t.first x_test) x_in in
      let second : Moves B t.second x.label y.target = subst (λ p. Moves B p x.label y.target) s (subst (λ b. Moves B y.source b y.target) a y_in) in
      let goes : GoesBeside mode A B t x.label (product_state x.target y.target (awaits_after mode A B t)) = record { first = first; second = second; awaits = refl } in
      let P : ProductMove → Type 0 = λ n. GoesBeside mode A B t n.label n.target in
      (ap (λ (n : ProductMove). n.source) (sym is), subst P is goes)

  pub move_has : (t : ProductState) (a : ℕ) (u : ProductState) → GoesBeside mode A B t a u → Contains (moves_of mode A B t) (record { source = t; label = a; target = u })
  move_has t a u goes =
      let x = trans t.first a u.first in
      let y = trans t.second a u.second in
      let x_there = filter_has (goes_from t.first) A.transitions x goes.first (eq-eqb t.first t.first refl) in
      let y_there = filter_has (goes_with t.second a) B.transitions y goes.second (and_from (eqb t.second t.second) (eqb a a) (eq-eqb t.second t.second refl) (eq-eqb a a refl)) in
      let there : Contains (moves_beside mode A B t x) (product_move mode A B t x y) = map_has (product_move mode A B t x) (filter (goes_with t.second a) B.transitions) y y_there in
      let whole : Contains (moves_of mode A B t) (product_move mode A B t x y) = flat_has (moves_beside mode A B t) (filter (goes_from t.first) A.transitions) x (product_move mode A B t x y) x_there there in
      let P : Bool → Type 0 = λ b. Contains (moves_of mode A B t) (record { source = t; label = a; target = product_state u.first u.second b }) in
      subst P (sym goes.awaits) whole

  pub moves_apart : (t : ProductState) → IsAutomaton A → IsAutomaton B → Rises Differ (moves_of mode A B t)
  moves_apart t a_valid b_valid =
      apart_flat (moves_beside mode A B t) (filter (goes_from t.first) A.transitions)
      (λ x. apart_map (product_move mode A B t x) (filter (goes_with t.second x.label) B.transitions)
      (λ y z y_in z_in e.
      let (_, y_test) = filter_from (goes_with t.second x.label) B.transitions y y_in in
      let (_, z_test) = filter_from (goes_with t.second x.label) B.transitions z z_in in
      let (y_s, y_a) = and_parts (eqb y.source t.second) (eqb y.label x.label) y_test in
      let (z_s, z_a) = and_parts (eqb z.source t.second) (eqb z.label x.label) z_test in
      same_parts y z
      (eqb-true y.source t.second y_s ∙ sym (eqb-true z.source t.second z_s))
      (eqb-true y.label x.label y_a ∙ sym (eqb-true z.label x.label z_a))
      (ap (λ (m : ProductMove). m.target.second) e))
      (apart_filter (goes_with t.second x.label) B.transitions (transitions_apart B b_valid)))
      (λ x z m x_in z_in near far.
      let (_, x_test) = filter_from (goes_from t.first) A.transitions x x_in in
      let (_, z_test) = filter_from (goes_from t.first) A.transitions z z_in in
      let (y, _, _, _, is) = beside_from t x m near in
      let (y', _, _, _, is') = beside_from t z m far in
      let e = is ∙ sym is' in
      same_parts x z
      (eqb-true x.source t.first x_test ∙ sym (eqb-true z.source t.first z_test))
      (ap (λ (n : ProductMove). n.label) e)
      (ap (λ (n : ProductMove). n.target.first) e))
      (apart_filter (goes_from t.first) A.transitions (transitions_apart A a_valid))

  pub all_apart : (ts : List ProductState) → IsAutomaton A → IsAutomaton B → Rises Differ ts → Rises Differ (moves_from mode A B ts)
  all_apart ts a_valid b_valid apart =
      apart_flat (moves_of mode A B) ts (λ t. moves_apart t a_valid b_valid)
      (λ t u m t_in u_in near far. sym (move_from t m near).0 ∙ (move_from u m far).0) apart

-- ---- transitions as moves

moves_grow : (product_states rest : List ProductState) (ts : List Trans) (ms : List ProductMove) → AreMoves product_states ts ms → AreMoves (product_states ++ rest) ts ms
moves_grow product_states rest [] [] h = tt
moves_grow product_states rest [] (m ∷ ms) h = absurd h
moves_grow product_states rest (t ∷ ts) [] h = absurd h
moves_grow product_states rest (t ∷ ts) (m ∷ ms) (here, later) = (
  (at_front product_states rest t.source m.source here.0, here.1, at_front product_states rest t.target m.target here.2),
  moves_grow product_states rest ts ms later,
)

moves_push : (product_states : List ProductState) (ts : List Trans) (ms : List ProductMove) (t : Trans) (m : ProductMove) → AreMoves product_states ts ms → IsMoveNumbered product_states t m → AreMoves product_states (ts ++ t ∷ []) (ms ++ m ∷ [])
moves_push product_states [] [] t m h n = (n, tt)
moves_push product_states [] (m' ∷ ms) t m h n = absurd h
moves_push product_states (t' ∷ ts) [] t m h n = absurd h
moves_push product_states (t' ∷ ts) (m' ∷ ms) t m (here, later) n = (here, moves_push product_states ts ms t m later n)

pub moves_length : (product_states : List ProductState) (ts : List Trans) (ms : List ProductMove) → AreMoves product_states ts ms → length ts ≡ length ms
moves_length product_states [] [] h = refl
moves_length product_states [] (m ∷ ms) h = absurd h
moves_length product_states (t ∷ ts) [] h = absurd h
moves_length product_states (t ∷ ts) (m ∷ ms) (here, later) = let e = moves_length product_states ts ms later in omega arith

move_of : (product_states : List ProductState) (ts : List Trans) (ms : List ProductMove) → AreMoves product_states ts ms → (t : Trans) → Contains ts t → (m : ProductMove) × Contains ms m × IsMoveNumbered product_states t m
move_of product_states [] ms h t there = absurd (none_in_nil t there)
move_of product_states (t' ∷ ts) [] h t there = absurd h
move_of product_states (t' ∷ ts) (m' ∷ ms) (here, later) t there = elim (Contains-cons_cases t' t ts there) [
  | inl e ↦ let P : Trans → Type 0 = λ x. IsMoveNumbered product_states x m' in (m', Contains-here m' m' ms refl, subst P e here)
  | inr far ↦ let (m, m_in, n) = move_of product_states ts ms later t far in (m, Contains-later m' m ms m_in, n)
]

trans_of : (product_states : List ProductState) (ts : List Trans) (ms : List ProductMove) → AreMoves product_states ts ms → (m : ProductMove) → Contains ms m → (t : Trans) × Contains ts t × IsMoveNumbered product_states t m
trans_of product_states ts [] h m there = absurd (none_in_nil m there)
trans_of product_states [] (m' ∷ ms) h m there = absurd h
trans_of product_states (t' ∷ ts) (m' ∷ ms) (here, later) m there = elim (Contains-cons_cases m' m ms there) [
  | inl e ↦ let P : ProductMove → Type 0 = λ x. IsMoveNumbered product_states t' x in (t', Contains-here t' t' ts refl, subst P e here)
  | inr far ↦ let (t, t_in, n) = trans_of product_states ts ms later m far in (t, Contains-later t' t ts t_in, n)
]

one_move : (product_states : List ProductState) (t : Trans) (m n : ProductMove) → IsMoveNumbered product_states t m → IsMoveNumbered product_states t n → m ≡ n
one_move product_states t m n a b =
    let p = at_one product_states t.source m.source n.source a.0 b.0 in
    let q = sym a.1 ∙ b.1 in
    let r = at_one product_states t.target m.target n.target a.2 b.2 in
    λ i. record { source = p i; label = q i; target = r i }

trans_apart : (product_states : List ProductState) (ts : List Trans) (ms : List ProductMove) → AreMoves product_states ts ms → Rises Differ ms → Rises Differ ts
trans_apart product_states [] ms h a = tt
trans_apart product_states (t ∷ ts) [] h a = absurd h
trans_apart product_states (t ∷ ts) (m ∷ ms) (here, later) a = (
  λ u there e.
      let (n, n_in, is) = move_of product_states ts ms later u there in
      let P : Trans → Type 0 = λ x. IsMoveNumbered product_states x n in
      a.0 n n_in (one_move product_states t m n here (subst P (sym e) is)),
  trans_apart product_states ts ms later a.1,
)

-- ---- one step

module _ (A B : Automaton) where
  seen_append : (ms more : List ProductMove) → seen_by A B (ms ++ more) ≡ seen_by A B ms ++ map (λ (m : ProductMove). m.target) more
  seen_append ms more = ap (λ l. start_of A B ∷ l) (map-append (λ (m : ProductMove). m.target) ms more)

  -- with more moves, the product states seen before stay in front
  pub seen_grows : (ms more : List ProductMove) → (rest : List ProductState) × (first_seen same_product_state (seen_by A B (ms ++ more)) ≡ first_seen same_product_state (seen_by A B ms) ++ rest)
  seen_grows ms more =
      let (rest, e) = first_more same_product_state (seen_by A B ms) (map (λ (m : ProductMove). m.target) more) in
      (rest, ap (first_seen same_product_state) (seen_append ms more) ∙ e)

  pub noted_next : (ms : List ProductMove) (m : ProductMove) → noted same_product_state (first_seen same_product_state (seen_by A B ms)) m.target ≡ first_seen same_product_state (seen_by A B (ms ++ m ∷ []))
  noted_next ms m =
      sym (fold_append (noted same_product_state) [] (seen_by A B ms) (m.target ∷ [])) ∙ ap (first_seen same_product_state) (sym (seen_append ms (m ∷ [])))

  noted_grows : (ms : List ProductMove) (m : ProductMove) (product_states new : List ProductState) → product_states ≡ first_seen same_product_state (seen_by A B ms) → new ≡ noted same_product_state product_states m.target
      → (new ≡ first_seen same_product_state (seen_by A B (ms ++ m ∷ []))) × ((rest : List ProductState) × (new ≡ product_states ++ rest))
  noted_grows ms m product_states new is is_new =
      let next : new ≡ first_seen same_product_state (seen_by A B (ms ++ m ∷ [])) = is_new ∙ ap (λ l. noted same_product_state l m.target) is ∙ noted_next ms m in
      let (rest, e) = seen_grows ms (m ∷ []) in
      (next, (rest, next ∙ e ∙ ap (λ l. l ++ rest) (sym is)))

  pub step : (ms : List ProductMove) (m : ProductMove) (product_states new : List ProductState) (ts next : List Trans) (number target : ℕ)
      → IsUnderWay A B ms product_states ts
      → At product_states number m.source
      → new ≡ noted same_product_state product_states m.target
      → At new target m.target
      → next ≡ ts ++ trans number m.label target ∷ []
      → IsUnderWay A B (ms ++ m ∷ []) new next × At new number m.source
  step ms m product_states new ts next number target under at_source is_new at_target is_next =
      let (seen, (rest, grown)) = noted_grows ms m product_states new under.seen is_new in
      let P : List ProductState → Type 0 = λ l. AreMoves l ts ms in
      let Q : List ProductState → Type 0 = λ l. At l number m.source in
      let all : AreMoves new ts ms = subst P (sym grown) (moves_grow product_states rest ts ms under.numbered) in
      let here : At new number m.source = subst Q (sym grown) (at_front product_states rest number m.source at_source) in
      let R : List Trans → Type 0 = λ l. AreMoves new l (ms ++ m ∷ []) in
      (record { seen = seen; numbered = subst R (sym is_next) (moves_push new ts ms (trans number m.label target) m all (here, refl, at_target)) }, here)

  -- too many stay too many
  pub more_too_many : (ms more : List ProductMove) → AreTooMany A B ms → AreTooMany A B (ms ++ more)
  more_too_many ms more (inl many) = let (rest, e) = seen_grows ms more in inl (omega (arith, ap (λ (l : List ProductState). length l) e, length-append (first_seen same_product_state (seen_by A B ms)) rest))
  more_too_many ms more (inr many) = inr (omega (arith, length-append ms more))

  pub step_too_many : (ms : List ProductMove) (m : ProductMove) (product_states : List ProductState) (ts : List Trans)
      → IsUnderWay A B ms product_states ts
      → (2048 < length (noted same_product_state product_states m.target)) ⊎ (65536 < length ts + 1)
      → AreTooMany A B (ms ++ m ∷ [])
  step_too_many ms m product_states ts under (inl many) =
      let (seen, _) = noted_grows ms m product_states (noted same_product_state product_states m.target) under.seen refl in
      inl (omega (arith, ap (λ (l : List ProductState). length l) seen))
  step_too_many ms m product_states ts under (inr many) =
      let e = moves_length product_states ts ms under.numbered in
      let f = length-append ms (m ∷ []) in
      inr (omega arith)

  -- a product state inside more
  pub inside_noted : (product_states : List ProductState) (u : ProductState) → All (IsInside A B) product_states → IsInside A B u → All (IsInside A B) (noted same_product_state product_states u)
  inside_noted product_states u all here = by (list_any (same_product_state u) product_states)
    where
      by : (b : Bool) → All (IsInside A B) (if b then product_states else product_states ++ u ∷ [])
      by true = all
      by false = All-push (IsInside A B) product_states u all here

-- ---- stretches of transitions

pub outgoing_part : (A : Automaton) (p b e : ℕ) → IsOutgoing A p b e → filter (goes_from p) A.transitions ≡ take (e - b) (drop b A.transitions)
outgoing_part A p b e s =
    let within = s.within in
    let range = s.is_range in
    filter_part (goes_from p) (trans 0 0 0) A.transitions b (e - b) (omega arith)
    (λ i lt. ne_eqb (trans_at A i).source p (λ is. let l = s.before i lt in omega arith))
    (λ i from lt. eq-eqb (trans_at A i).source p (s.inside i from (omega arith)))
    (λ i from lt. ne_eqb (trans_at A i).source p (λ is. let l = s.after i (omega arith) lt in omega arith))

not_with : (p a : ℕ) (y : Trans) → ((y.source ≡ p) → (y.label ≡ a) → ⊥) → goes_with p a y ≡ false
not_with p a y differs = by (eqb y.source p) (eqb y.label a) refl refl
  where
    by : (s l : Bool) → eqb y.source p ≡ s → eqb y.label a ≡ l → (s && l) ≡ false
    by true true e f = absurd (differs (eqb-true y.source p e) (eqb-true y.label a f))
    by true false e f = refl
    by false l e f = refl

pub successors_part : (B : Automaton) (p a b e : ℕ) → IsSuccessors B p a b e → filter (goes_with p a) B.transitions ≡ take (e - b) (drop b B.transitions)
successors_part B p a b e s =
    let within = s.within in
    let range = s.is_range in
    filter_part (goes_with p a) (trans 0 0 0) B.transitions b (e - b) (omega arith)
    (λ i lt. not_with p a (trans_at B i) (below (trans_at B i) (s.before i lt)))
    (λ i from lt. let (one, two) = s.inside i from (omega arith) in and_from (eqb (trans_at B i).source p) (eqb (trans_at B i).label a) (eq-eqb (trans_at B i).source p one) (eq-eqb (trans_at B i).label a two))
    (λ i from lt. not_with p a (trans_at B i) (above (trans_at B i) (s.after i (omega arith) lt)))
  where
    below : (y : Trans) → IsBelowPair y p a → y.source ≡ p → y.label ≡ a → ⊥
    below y h q r = omega arith

    above : (y : Trans) → IsAbovePair y p a → y.source ≡ p → y.label ≡ a → ⊥
    above y h q r = omega arith

-- ---- the loops over stretches

part_more : {X : Type 0} (xs : List X) (b at : ℕ) (d : X) → b ≤ at → at < length xs → take (at + 1 - b) (drop b xs) ≡ take (at - b) (drop b xs) ++ get_or xs at d ∷ []
part_more {X} xs b at d from within =
    let e : at + 1 - b ≡ (at - b) + 1 = omega arith in
    let k : b + (at - b) ≡ at = omega arith in
    let P : ℕ → X = λ i. get_or xs i d in
    ap (λ n. take n (drop b xs)) e
    ∙ take_more (drop b xs) (at - b) d (omega (arith, length-drop b xs))
    ∙ ap (λ x. take (at - b) (drop b xs) ++ x ∷ []) (get_or-drop b xs (at - b) d ∙ ap P k)

mapped_more : {X Y : Type 0} (f : X → Y) (ms : List Y) (xs : List X) (b at : ℕ) (d : X) → b ≤ at → at < length xs → ms ++ map f (take (at + 1 - b) (drop b xs)) ≡ (ms ++ map f (take (at - b) (drop b xs))) ++ f (get_or xs at d) ∷ []
mapped_more f ms xs b at d from within =
    ap (λ l. ms ++ map f l) (part_more xs b at d from within)
    ∙ ap (λ l. ms ++ l) (map_push f (take (at - b) (drop b xs)) (get_or xs at d))
    ∙ sym (append_assoc ms (map f (take (at - b) (drop b xs))) (f (get_or xs at d) ∷ []))

pub flat_more : {X Y : Type 0} (f : X → List Y) (ms : List Y) (xs : List X) (b at : ℕ) (d : X) → b ≤ at → at < length xs → ms ++ flat_map f (take (at + 1 - b) (drop b xs)) ≡ (ms ++ flat_map f (take (at - b) (drop b xs))) ++ f (get_or xs at d)
flat_more f ms xs b at d from within =
    ap (λ l. ms ++ flat_map f l) (part_more xs b at d from within)
    ∙ sym (flat_map_more f ms (take (at - b) (drop b xs)) (get_or xs at d))

-- a longer front of a list goes on from a shorter one
pub front_of : {X : Type 0} (n m : ℕ) (xs : List X) → n ≤ m → (rest : List X) × (take m xs ≡ take n xs ++ rest)
front_of n m xs h = (drop n (take m xs), sym (take-append-drop n (take m xs)) ∙ ap (λ l. l ++ drop n (take m xs)) (take-take n m xs h))

pub at_noted : (product_states : List ProductState) (u : ProductState) (n : ℕ) (t : ProductState) → At product_states n t → At (noted same_product_state product_states u) n t
at_noted product_states u n t h =
    let (rest, e) = noted_more same_product_state product_states u in
    let P : List ProductState → Type 0 = λ l. At l n t in
    subst P (sym e) (at_front product_states rest n t h)

module _ (mode : Mode) (A B : Automaton) (t : ProductState) (x : Trans) (ts : List Trans) (b at : ℕ) (awaits : Bool) (product_states : List ProductState) (done : List Trans) (ms : List ProductMove)
    (list : ts ≡ B.transitions) (from : b ≤ at) (within : at < length B.transitions) (is : awaits ≡ awaits_after mode A B t)
    (under : IsUnderWay A B (ms ++ map (product_move mode A B t x) (take (at - b) (drop b B.transitions))) product_states done) where
  -- the product state that the move leads to
  leads_to : product_state x.target (get_or ts at (trans 0 0 0)).target awaits ≡ product_state x.target (trans_at B at).target (awaits_after mode A B t)
  leads_to = λ i. product_state x.target (get_or (list i) at (trans 0 0 0)).target (is i)

  pub beside_more : (new : List ProductState) (next : List Trans) (number target : ℕ)
      → At product_states number t
      → new ≡ noted same_product_state product_states (product_state x.target (get_or ts at (trans 0 0 0)).target awaits)
      → At new target (product_state x.target (get_or ts at (trans 0 0 0)).target awaits)
      → next ≡ done ++ trans number x.label target ∷ []
      → IsUnderWay A B (ms ++ map (product_move mode A B t x) (take (at + 1 - b) (drop b B.transitions))) new next
  beside_more new next number target at_t is_new at_target is_next =
      let m = product_move mode A B t x (trans_at B at) in
      let before = ms ++ map (product_move mode A B t x) (take (at - b) (drop b B.transitions)) in
      let P : ProductState → Type 0 = λ u. new ≡ noted same_product_state product_states u in
      let Q : ProductState → Type 0 = λ u. At new target u in
      let R : List ProductMove → Type 0 = λ l. IsUnderWay A B l new next in
      subst R (sym (mapped_more (product_move mode A B t x) ms B.transitions b at (trans 0 0 0) from within))
      (step A B before m product_states new done next number target under at_t (subst P leads_to is_new) (subst Q leads_to at_target) is_next).0

  pub beside_too_many : (e : ℕ) → IsSuccessors B t.second x.label b e → at < e
      → (2048 < length (noted same_product_state product_states (product_state x.target (get_or ts at (trans 0 0 0)).target awaits))) ⊎ (65536 < length done + 1)
      → AreTooMany A B (ms ++ moves_beside mode A B t x)
  beside_too_many e s lt many =
      let J = product_move mode A B t x in
      let m = J (trans_at B at) in
      let before = ms ++ map J (take (at - b) (drop b B.transitions)) in
      let P : ProductState → Type 0 = λ u. (2048 < length (noted same_product_state product_states u)) ⊎ (65536 < length done + 1) in
      let Q : List ProductMove → Type 0 = λ l. AreTooMany A B l in
      let here : AreTooMany A B (ms ++ map J (take (at + 1 - b) (drop b B.transitions))) =
      subst Q (sym (mapped_more J ms B.transitions b at (trans 0 0 0) from within)) (step_too_many A B before m product_states done under (subst P leads_to many)) in
      let (rest, grown) = front_of (at + 1 - b) (e - b) (drop b B.transitions) (omega arith) in
      let whole : ms ++ moves_beside mode A B t x ≡ (ms ++ map J (take (at + 1 - b) (drop b B.transitions))) ++ map J rest =
      ap (λ l. ms ++ map J l) (successors_part B t.second x.label b e s ∙ grown)
      ∙ ap (λ l. ms ++ l) (map-append J (take (at + 1 - b) (drop b B.transitions)) rest)
      ∙ sym (append_assoc ms (map J (take (at + 1 - b) (drop b B.transitions))) (map J rest)) in
      subst Q (sym whole) (more_too_many A B (ms ++ map J (take (at + 1 - b) (drop b B.transitions))) (map J rest) here)

module _ (mode : Mode) (A B : Automaton) (t : ProductState) (b at e : ℕ) (ms : List ProductMove) (from : b ≤ at) (within : at < length A.transitions) where
  pub from_too_many : IsOutgoing A t.first b e → at < e
      → AreTooMany A B ((ms ++ flat_map (moves_beside mode A B t) (take (at - b) (drop b A.transitions))) ++ moves_beside mode A B t (trans_at A at))
      → AreTooMany A B (ms ++ moves_of mode A B t)
  from_too_many s lt many =
      let F = moves_beside mode A B t in
      let Q : List ProductMove → Type 0 = λ l. AreTooMany A B l in
      let front = take (at + 1 - b) (drop b A.transitions) in
      let here : AreTooMany A B (ms ++ flat_map F front) = subst Q (sym (flat_more F ms A.transitions b at (trans 0 0 0) from within)) many in
      let (rest, grown) = front_of (at + 1 - b) (e - b) (drop b A.transitions) (omega arith) in
      let whole : ms ++ moves_of mode A B t ≡ (ms ++ flat_map F front) ++ flat_map F rest =
      ap (λ l. ms ++ flat_map F l) (outgoing_part A t.first b e s ∙ grown)
      ∙ ap (λ l. ms ++ l) (flat_map-append F front rest)
      ∙ sym (append_assoc ms (flat_map F front) (flat_map F rest)) in
      subst Q (sym whole) (more_too_many A B (ms ++ flat_map F front) (flat_map F rest) here)

-- ---- all product states

reached_members : (mode : Mode) (A B : Automaton) (ts : List ProductState) → All (IsProductReached mode A B) ts → (u : ProductState) → Contains (seen_by A B (moves_from mode A B ts)) u → IsProductReached mode A B u
reached_members mode A B ts all u h = elim (Contains-cons_cases (start_of A B) u (map (λ (m : ProductMove). m.target) (moves_from mode A B ts)) h) [
  | inl e ↦ (0, sym e)
  | inr later ↦
      let (m, m_in, is) = map_from (λ (n : ProductMove). n.target) (moves_from mode A B ts) u later in
      let (t, t_in, near) = flat_from (moves_of mode A B) ts m m_in in
      let (n, by) = All-contains (IsProductReached mode A B) ts t all t_in in
      let (_, goes) = move_from mode A B t m near in
      let P : ProductState → Type 0 = λ v. IsProductReached mode A B v in
      subst P is (suc n, (t, m.label, by, goes))
]

module _ (mode : Mode) (A B : Automaton) where
  -- the product states up to one more
  pub from_more : (product_states : List ProductState) (done : ℕ) (d : ProductState) → done < length product_states → moves_from mode A B (take (done + 1) product_states) ≡ moves_from mode A B (take done product_states) ++ moves_of mode A B (get_or product_states done d)
  from_more product_states done d lt =
      ap (moves_from mode A B) (take_more product_states done d lt)
      ∙ flat_map-append (moves_of mode A B) (take done product_states) (get_or product_states done d ∷ [])
      ∙ ap (λ l. moves_from mode A B (take done product_states) ++ l) (append-nil (moves_of mode A B (get_or product_states done d)))

  pub explored_more : (done : ℕ) (product_states new : List ProductState) (ts next : List Trans) (d : ProductState)
      → done < length product_states
      → IsExploredUpto mode A B done product_states ts
      → IsUnderWay A B (moves_from mode A B (take done product_states) ++ moves_of mode A B (get_or product_states done d)) new next
      → IsRoomy A B new next
      → IsExploredUpto mode A B (done + 1) new next
  explored_more done product_states new ts next d lt upto under roomy =
      let before = moves_from mode A B (take done product_states) in
      let more = moves_of mode A B (get_or product_states done d) in
      let (rest, e) = seen_grows A B before more in
      let grown : new ≡ product_states ++ rest = under.seen ∙ e ∙ ap (λ l. l ++ rest) (sym upto.so_far.seen) in
      let len : length new ≡ length product_states + length rest = ap (λ (l : List ProductState). length l) grown ∙ length-append product_states rest in
      let P : List ProductMove → Type 0 = λ l. IsUnderWay A B l new next in
      let front : take (done + 1) new ≡ take (done + 1) product_states = ap (take (done + 1)) grown ∙ take-append-le (done + 1) product_states rest (omega arith) in
      let whole : moves_from mode A B (take (done + 1) new) ≡ before ++ more = ap (moves_from mode A B) front ∙ from_more product_states done d lt in
      let near : All (IsProductReached mode A B) (take (done + 1) product_states) = All-take (IsProductReached mode A B) (done + 1) product_states upto.reached in
      let Q : List ProductMove → Type 0 = λ l. (u : ProductState) → Contains (first_seen same_product_state (seen_by A B l)) u → IsProductReached mode A B u in
      let told = subst Q (from_more product_states done d lt) (λ u h. reached_members mode A B (take (done + 1) product_states) near u (first_from same_product_state same_equal same_itself (seen_by A B (moves_from mode A B (take (done + 1) product_states))) u h)) in
      let R : List ProductState → Type 0 = λ l. (u : ProductState) → Contains l u → IsProductReached mode A B u in
      record {
        within = omega arith;
        so_far = subst P (sym whole) under;
        reached = all_from (IsProductReached mode A B) new (subst R (sym under.seen) told);
        roomy = roomy;
      }

  pub explored_start : (product_states : List ProductState) (ts : List Trans) → product_states ≡ start_of A B ∷ [] → ts ≡ [] → IsAutomaton A → IsAutomaton B → IsExploredUpto mode A B 0 product_states ts
  explored_start product_states ts is none a_valid b_valid =
      let P : List ProductState → Type 0 = λ l. IsExploredUpto mode A B 0 l ts in
      let Q : List Trans → Type 0 = λ l. IsExploredUpto mode A B 0 (start_of A B ∷ []) l in
      subst P (sym is) (subst Q (sym none) (record {
        within = omega arith;
        so_far = record { seen = refl; numbered = tt };
        reached = All-cons (IsProductReached mode A B) (start_of A B) [] (0, refl) (All-nil (IsProductReached mode A B));
        roomy = record {
          few = omega arith;
          few_transitions = omega arith;
          inside = All-cons (IsInside A B) (start_of A B) [] (a_valid.initial_is_state, b_valid.initial_is_state) (All-nil (IsInside A B));
        };
      }))

  pub explored_all : (done : ℕ) (product_states : List ProductState) (ts : List Trans) → length product_states ≤ done → IsExploredUpto mode A B done product_states ts → IsExplored mode A B product_states ts
  explored_all done product_states ts over upto =
      let whole : take done product_states ≡ product_states = take_all done product_states over in
      let P : List ProductState → Type 0 = λ l. IsUnderWay A B (moves_from mode A B l) product_states ts in
      let under : IsUnderWay A B (moves_from mode A B product_states) product_states ts = subst P whole upto.so_far in
      record {
        numbered = record {
          reached = λ t. (λ h. All-contains (IsProductReached mode A B) product_states t upto.reached h, λ h. found under h.0 t h.1);
          in_order = under.seen;
        };
        all = under.numbered;
        roomy = upto.roomy;
      }
    where
      found : IsUnderWay A B (moves_from mode A B product_states) product_states ts → (n : ℕ) (u : ProductState) → IsReachedBy mode A B n u → Contains product_states u
      found under zero u h =
          let R : List ProductState → Type 0 = λ l. Contains l u in
          subst R (sym under.seen) (first_has same_product_state same_equal same_itself (seen_by A B (moves_from mode A B product_states)) u
          (Contains-here (start_of A B) u (map (λ (m : ProductMove). m.target) (moves_from mode A B product_states)) (sym h)))
      found under (suc n) u (t, a, by, goes) =
          let R : List ProductState → Type 0 = λ l. Contains l u in
          let t_in = found under n t by in
          let m : ProductMove = record { source = t; label = a; target = u } in
          let m_in : Contains (moves_from mode A B product_states) m = flat_has (moves_of mode A B) product_states t m t_in (move_has mode A B t a u goes) in
          subst R (sym under.seen) (first_has same_product_state same_equal same_itself (seen_by A B (moves_from mode A B product_states)) u
          (Contains-later (start_of A B) u (map (λ (n : ProductMove). n.target) (moves_from mode A B product_states)) (map_has (λ (n : ProductMove). n.target) (moves_from mode A B product_states) m m_in)))

  pub explored_too_many : IsAutomaton A → IsAutomaton B → (done : ℕ) (product_states : List ProductState) (ts : List Trans) (d : ProductState)
      → done < length product_states
      → IsExploredUpto mode A B done product_states ts
      → AreTooMany A B (moves_from mode A B (take done product_states) ++ moves_of mode A B (get_or product_states done d))
      → IsIntersectionTooLarge mode A B
  explored_too_many a_valid b_valid done product_states ts d lt upto many =
      let front = take (done + 1) product_states in
      let Q : List ProductMove → Type 0 = λ l. AreTooMany A B l in
      let Same = first_apart same_product_state same_equal same_itself in
      let R : List ProductState → Type 0 = λ l. Rises Differ l in
      let apart : Rises Differ product_states = subst R (sym upto.so_far.seen) (Same (seen_by A B (moves_from mode A B (take done product_states)))) in
      let near : All (IsProductReached mode A B) front = All-take (IsProductReached mode A B) (done + 1) product_states upto.reached in
      let front_apart : Rises Differ front = apart_front front (drop (done + 1) product_states) (subst R (sym (take-append-drop (done + 1) product_states)) apart) in
      counted front near front_apart (subst Q (sym (from_more product_states done d lt)) many)
    where
      counted : (front : List ProductState) → All (IsProductReached mode A B) front → Rises Differ front → AreTooMany A B (moves_from mode A B front) → IsIntersectionTooLarge mode A B
      counted front near apart (inl many) = inr (inl (record {
        things = first_seen same_product_state (seen_by A B (moves_from mode A B front));
        different = apart_once (first_seen same_product_state (seen_by A B (moves_from mode A B front))) (first_apart same_product_state same_equal same_itself (seen_by A B (moves_from mode A B front)));
        each = all_from (IsProductReached mode A B) (first_seen same_product_state (seen_by A B (moves_from mode A B front)))
            (λ u h. reached_members mode A B front near u (first_from same_product_state same_equal same_itself (seen_by A B (moves_from mode A B front)) u h));
        many = many;
      }))
      counted front near apart (inr many) = inr (inr (record {
        things = moves_from mode A B front;
        different = apart_once (moves_from mode A B front) (all_apart mode A B front a_valid b_valid apart);
        each = all_from (λ (m : ProductMove). IsProductReached mode A B m.source × GoesBeside mode A B m.source m.label m.target) (moves_from mode A B front) (λ m h.
            let (t, t_in, there) = flat_from (moves_of mode A B) front m h in
            let (is, goes) = move_from mode A B t m there in
            let P : ProductState → Type 0 = λ s. IsProductReached mode A B s × GoesBeside mode A B s m.label m.target in
            subst P (sym is) (All-contains (IsProductReached mode A B) front t near t_in, goes));
        many = many;
      }))

  -- ---- the automaton

  module _ (product_states : List ProductState) (ts : List Trans) (accepting : List ℕ) (explored : IsExplored mode A B product_states ts) (a_valid : IsAutomaton A) (b_valid : IsAutomaton B)
      (members : (n : ℕ) → Contains accepting n ↔ ((t : ProductState) × At product_states n t × IsAcceptingProductState mode A B t)) where
    product_states_apart : Rises Differ product_states
    product_states_apart =
        let R : List ProductState → Type 0 = λ l. Rises Differ l in
        subst R (sym explored.numbered.in_order) (first_apart same_product_state same_equal same_itself (seen_by A B (moves_from mode A B product_states)))

    ts_apart : Rises Differ ts
    ts_apart = trans_apart product_states ts (moves_from mode A B product_states) explored.all (all_apart mode A B product_states a_valid b_valid product_states_apart)

    pub moves_to : (p a q : ℕ) → Contains ts (trans p a q) → (t : ProductState) × (u : ProductState) × At product_states p t × At product_states q u × GoesBeside mode A B t a u
    moves_to p a q h =
        let (m, m_in, (at_p, same, at_q)) = move_of product_states ts (moves_from mode A B product_states) explored.all (trans p a q) h in
        let (t, t_in, near) = flat_from (moves_of mode A B) product_states m m_in in
        let (is, goes) = move_from mode A B t m near in
        let P : ProductState → Type 0 = λ s. GoesBeside mode A B s m.label m.target in
        let Q : ℕ → Type 0 = λ b. GoesBeside mode A B m.source b m.target in
        (m.source, m.target, at_p, at_q, subst Q (sym same) (subst P (sym is) goes))

    pub moves_back : (p a q : ℕ) → ((t : ProductState) × (u : ProductState) × At product_states p t × At product_states q u × GoesBeside mode A B t a u) → Contains ts (trans p a q)
    moves_back p a q (t, u, at_p, at_q, goes) =
        let m : ProductMove = record { source = t; label = a; target = u } in
        let m_in : Contains (moves_from mode A B product_states) m = flat_has (moves_of mode A B) product_states t m (at_member product_states p t at_p) (move_has mode A B t a u goes) in
        let (x, x_in, (at_s, same, at_t)) = trans_of product_states ts (moves_from mode A B product_states) explored.all m m_in in
        let e = at_place product_states x.source p t product_states_apart at_s at_p in
        let f = at_place product_states x.target q u product_states_apart at_t at_q in
        let P : Trans → Type 0 = λ y. Contains ts y in
        subst P (same_parts x (trans p a q) e same f) x_in

    pub intersection_parts : (HasRepeat accepting → ⊥) → AreParts (length product_states) A.labels 0 ts accepting
    intersection_parts once = record {
      few = omega (arith, explored.roomy.few_transitions);
      in_states = (
        start_in,
        all_from (λ (t : Trans). (t.source < length product_states) × (t.target < length product_states)) ts (λ x h.
            let (t, u, at_p, at_q, goes) = moves_to x.source x.label x.target h in
            (slice_get_within product_states x.source t at_p, slice_get_within product_states x.target u at_q)),
        all_from (λ n. n < length product_states) accepting (λ n h. let (t, at_n, both) = (members n).0 h in slice_get_within product_states n t at_n),
      );
      in_labels = all_from (λ (t : Trans). t.label < A.labels) ts (λ x h.
          let (t, u, at_p, at_q, goes) = moves_to x.source x.label x.target h in
          (move_in_range A a_valid t.first x.label u.first goes.first).2);
      no_transition_twice = apart_once ts ts_apart;
      no_state_twice = once;
    }
      where
        start_in : 0 < length product_states
        start_in =
            let P : List ProductState → Type 0 = λ l. At l 0 (start_of A B) in
            slice_get_within product_states 0 (start_of A B) (subst P (sym explored.numbered.in_order) (seen_start same_product_state (start_of A B) (map (λ (m : ProductMove). m.target) (moves_from mode A B product_states))))

    pub intersection_built : (C : Automaton) → IsBuilt (length product_states) A.labels 0 ts accepting C → IsIntersection mode A B C
    intersection_built C b = record {
      valid = b.valid;
      product_states = product_states;
      numbered = explored.numbered;
      states = b.states_given;
      labels = b.labels_given;
      initial = b.initial_given;
      moves = λ p a q. (
        λ m. moves_to p a q (Contains-permutation C.transitions ts (trans p a q) (IsPermutation-sym ts C.transitions b.transitions_given) m),
        λ m. Contains-permutation ts C.transitions (trans p a q) b.transitions_given (moves_back p a q m),
      );
      accepting = λ p. (
        λ h. (members p).0 (Contains-permutation C.accepting accepting p (IsPermutation-sym accepting C.accepting b.accepting_given) h),
        λ h. Contains-permutation accepting C.accepting p b.accepting_given ((members p).1 h),
      );
    }

    pub intersection_small : A.labels ≤ 256 → (C : Automaton) → IsBuilt (length product_states) A.labels 0 ts accepting C → IsSmallResult C
    intersection_small few C b = record {
      states = omega (arith, b.states_given, explored.roomy.few);
      transitions = omega (arith, length_permutation ts C.transitions b.transitions_given, explored.roomy.few_transitions);
      labels = omega (arith, b.labels_given);
    }

-- ---- the numbers of the accepting product states

-- Just the numbers below `at` of accepting product states are in the list.
abbrev pub HasAccepting : Mode → Automaton → Automaton → List ProductState → ℕ → List ℕ → Type 0
HasAccepting mode A B product_states at made = (n : ℕ) → Contains made n ↔ ((t : ProductState) × (n < at) × At product_states n t × IsAcceptingProductState mode A B t)

module _ (mode : Mode) (A B : Automaton) (product_states : List ProductState) (at : ℕ) (made : List ℕ) (d : ProductState) (lt : at < length product_states) (members : HasAccepting mode A B product_states at made) where
  here : At product_states at (get_or product_states at d)
  here = slice_get-get_or product_states at d lt

  pub accepting_more : IsAcceptingProductState mode A B (get_or product_states at d) → Rises Differ made → HasAccepting mode A B product_states (at + 1) (made ++ at ∷ []) × Rises Differ (made ++ at ∷ [])
  accepting_more acc apart = (
    λ n. (
      λ h. elim (Contains-append_cases made (at ∷ []) n h) [
        | inl old ↦ let (t, below, at_n, both) = (members n).0 old in (t, omega arith, at_n, both)
        | inr new ↦ elim (Contains-cons_cases at n [] new) [
          | inl e ↦ (
            get_or product_states at d,
            omega arith,
            subst (λ k. At product_states k (get_or product_states at d)) e here,
            acc,
          )
          | inr none ↦ absurd (none_in_nil n none)
        ]
      ],
      λ (t, below, at_n, both). elim (cases_lt n at) [
        | inl lower ↦ Contains-append_left made (at ∷ []) n ((members n).1 (t, lower, at_n, both))
        | inr up ↦ Contains-append_right made (at ∷ []) n (Contains-here at n [] (omega arith))
      ],
    ),
    apart_append made (at ∷ []) apart (λ y h. absurd (none_in_nil y h), tt) (λ n old new. elim (Contains-cons_cases at n [] new) [
      | inl e ↦ let (t, below, _, _) = (members n).0 old in omega arith
      | inr none ↦ none_in_nil n none
    ]),
  )

  pub accepting_same : (IsAcceptingProductState mode A B (get_or product_states at d) → ⊥) → HasAccepting mode A B product_states (at + 1) made
  accepting_same refused n = (
    λ h. let (t, below, at_n, both) = (members n).0 h in (t, omega arith, at_n, both),
    λ (t, below, at_n, both). elim (cases_lt n at) [
      | inl lower ↦ (members n).1 (t, lower, at_n, both)
      | inr up ↦
          let e : at ≡ n = omega arith in
          let P : ProductState → Type 0 = λ u. IsAcceptingProductState mode A B u in
          absurd (refused (subst P (at_one product_states n t (get_or product_states at d) at_n (subst (λ k. At product_states k (get_or product_states at d)) e here)) both))
    ],
  )

pub accepting_all : (mode : Mode) (A B : Automaton) (product_states : List ProductState) (at : ℕ) (made : List ℕ) → length product_states ≤ at → HasAccepting mode A B product_states at made
    → (n : ℕ) → Contains made n ↔ ((t : ProductState) × At product_states n t × IsAcceptingProductState mode A B t)
accepting_all mode A B product_states at made over members n = (
  λ h. let (t, _, at_n, both) = (members n).0 h in (t, at_n, both),
  λ (t, at_n, both). let lt = slice_get_within product_states n t at_n in (members n).1 (t, omega arith, at_n, both),
)
