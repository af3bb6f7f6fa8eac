-- Automata turned so that the letters are the sources, and the spans of their transitions.
use Rattle.std.proofs.Common.{◌≡◌, ℕ, ◌+◌, ◌-◌, ◌<◌, ◌≤◌, ◌⊎◌, inl, inr, List, [], length, get_or, map, Contains, refl, sym, ap, ◌∙◌, subst, arith}
use Rattle.std.proofs.lemmas.Bool.{cases_lt, cases_eq}
use Rattle.std.proofs.lemmas.List.{length-map, get_or-map}
use Rattle.std.proofs.lemmas.List.Elements.{All-map}
use Rattle.std.proofs.lemmas.List.Sorted.{Contains-permutation, IsPermutation-sym}
use Rattle.auto_core.specs.Automaton.{Automaton, IsAutomaton, Moves, IsBefore, IsOutgoing, HasRepeat, trans, trans_at}
use Rattle.auto_core.specs.Build.{IsBuilt}
use Rattle.auto_core.specs.Parts.{AreParts}
use Rattle.auto_core.specs.declared.parts.Trans.{Trans}
use Rattle.auto_core.proofs.MemberLemmas.{no_repeat, map_has, map_from}
use Rattle.auto_core.proofs.MoveLemmas.{outgoing_moves, moves_in_outgoing}
use Rattle.auto_core.proofs.SetLemmas.{transitions_rise}
use Rattle.letter_classes.specs.Columns.{exchanged, IsTurned, AreAlike, AreSpansAlike, HasFirstUnlike}
use Rattle.map_laws.specs.Maps.{HasSameColumns}

clash : (t u : Trans) → t.source ≡ u.source → t.label ≡ u.label → t.target ≡ u.target → IsBefore t u → ⊥
clash t u s l g h = omega arith

pub once : (A : Automaton) → IsAutomaton A → HasRepeat A.transitions → ⊥
once A valid = no_repeat IsBefore (λ t h. clash t t refl refl refl h) A.transitions (transitions_rise A valid)

again : (t : Trans) → exchanged (exchanged t) ≡ t
again t = refl

map_once : (ts : List Trans) → (HasRepeat ts → ⊥) → HasRepeat (map exchanged ts) → ⊥
map_once ts f (i, j, differ, i_in, j_in, e) =
    let len = length-map ts exchanged in
    let i_in' : i < length ts = omega arith in
    let j_in' : j < length ts = omega arith in
    f (
      i,
      j,
      differ,
      i_in',
      j_in',
      λ d.
          let same : exchanged (get_or ts i d) ≡ exchanged (get_or ts j d) = sym (get_or-map exchanged ts i d d i_in') ∙ e d ∙ get_or-map exchanged ts j d d j_in' in
          ap exchanged same,
    )

module _ (A : Automaton) (n : ℕ) (valid : IsAutomaton A) (labels : A.labels ≤ n) (states : A.states ≤ n) where
  pub turned_parts : AreParts n A.states A.initial (map exchanged A.transitions) []
  turned_parts = record {
    few = let few = valid.few in omega (arith, length-map A.transitions exchanged);
    in_states = (
      let start = valid.initial_is_state in omega arith,
      All-map (λ t. (t.source < n) × (t.target < n)) exchanged A.transitions (λ k d lt. let r = valid.in_range k d lt in (let l = r.2 in omega arith, let g = r.1 in omega arith)),
      λ k d lt. absurd (omega arith),
    );
    in_labels = All-map (λ t. t.label < A.states) exchanged A.transitions (λ k d lt. (valid.in_range k d lt).0);
    no_transition_twice = map_once A.transitions (once A valid);
    no_state_twice = λ (i, j, differ, i_in, j_in, e). omega arith;
  }

  pub turned_built : (T : Automaton) → IsBuilt n A.states A.initial (map exchanged A.transitions) [] T → IsTurned A T
  turned_built T b = record {
    valid = b.valid;
    enough = let e = b.states_given in omega arith;
    moves = λ a p q. (
      λ m.
          let (t, there, is) = map_from exchanged A.transitions (trans a p q) (Contains-permutation T.transitions (map exchanged A.transitions) (trans a p q) (IsPermutation-sym (map exchanged A.transitions) T.transitions b.transitions_given) m) in
          let P : Trans → Type 0 = λ u. Contains A.transitions u in
          subst P (ap exchanged is) there,
      λ m. Contains-permutation (map exchanged A.transitions) T.transitions (trans a p q) b.transitions_given (map_has exchanged A.transitions (trans p a q) m),
    );
  }

-- the transition i stands before j by label, then by target
abbrev Precedes : Automaton → ℕ → ℕ → Type 0
Precedes T i j = ((trans_at T i).label < (trans_at T j).label) ⊎ (((trans_at T i).label ≡ (trans_at T j).label) × ((trans_at T i).target < (trans_at T j).target))

alike_sym : (T : Automaton) (i j : ℕ) → AreAlike T i j → AreAlike T j i
alike_sym T i j h = (sym h.0, sym h.1)

one_precedes : (T : Automaton) (i j : ℕ) → (AreAlike T i j → ⊥) → Precedes T i j ⊎ Precedes T j i
one_precedes T i j h = elim (cases_lt (trans_at T i).label (trans_at T j).label) [
  | inl lt ↦ inl (inl lt)
  | inr ge ↦ elim (cases_lt (trans_at T j).label (trans_at T i).label) [
    | inl lt ↦ inr (inl lt)
    | inr le ↦ elim (cases_lt (trans_at T i).target (trans_at T j).target) [
      | inl lt ↦ inl (inr (omega arith, lt))
      | inr ge' ↦ elim (cases_lt (trans_at T j).target (trans_at T i).target) [
        | inl lt ↦ inr (inr (omega arith, lt))
        | inr le' ↦ absurd (h (omega arith, omega arith))
      ]
    ]
  ]
]

follows_clash : (t u v : Trans) → t.source ≡ u.source → v.label ≡ u.label → v.target ≡ u.target → IsBefore t u → (v.label < t.label) ⊎ ((v.label ≡ t.label) × (v.target < t.target)) → ⊥
follows_clash t u v s l g h k = omega arith

self_clash : (u v : Trans) → u.label ≡ v.label → u.target ≡ v.target → (v.label < u.label) ⊎ ((v.label ≡ u.label) × (v.target < u.target)) → ⊥
self_clash u v l g k = omega arith

-- the letters a and x have other moves where the span of a goes on with a transition that the span of x has passed over
missing :
    (T : Automaton) (valid : IsAutomaton T) (a x b e c f place : ℕ)
    → IsOutgoing T a b e
    → IsOutgoing T x c f
    → ((k : ℕ) → k < place → (b + k < e) × (c + k < f) × AreAlike T (b + k) (c + k))
    → b + place < e
    → (f ≤ c + place) ⊎ ((c + place < f) × Precedes T (b + place) (c + place))
    → ((p q : ℕ) → Moves T a p q → Moves T x p q)
    → ⊥
missing T valid a x b e c f place s r before in_first late has =
    let t : ℕ = b + place in
    let fits = s.within in
    let fits' = r.within in
    let m = outgoing_moves T a b e s t (omega arith) in_first in
    let (i, from, below, at) = moves_in_outgoing T x c f r (trans_at T t).label (trans_at T t).target (has (trans_at T t).label (trans_at T t).target m) in
    let label : (trans_at T i).label ≡ (trans_at T t).label = ap (λ (u : Trans). u.label) at in
    let target : (trans_at T i).target ≡ (trans_at T t).target = ap (λ (u : Trans). u.target) at in
    elim (cases_lt i (c + place)) [
      | inl lt ↦
          let j : ℕ = i - c in
          let is : c + j ≡ i = omega arith in
          let known = before j (omega arith) in
          let alike = subst (λ y. AreAlike T (b + j) y) is known.2 in
          let inside : b + j < e = known.0 in
          clash (trans_at T (b + j)) (trans_at T t) (s.inside (b + j) (omega arith) inside ∙ sym (s.inside t (omega arith) in_first)) (alike.0 ∙ label) (alike.1 ∙ target)
          (valid.in_order (b + j) t (omega arith) (omega arith))
      | inr ge ↦ elim late [
        | inl out ↦ omega arith
        | inr more ↦ elim (cases_eq (c + place) i) [
          | inl same ↦ subst (λ y. ((trans_at T y).label ≡ (trans_at T t).label) → ((trans_at T y).target ≡ (trans_at T t).target) → ⊥) same
              (λ l g. self_clash (trans_at T (c + place)) (trans_at T t) l g more.1) label target
          | inr apart ↦
              let inside : c + place < f = more.0 in
              follows_clash (trans_at T (c + place)) (trans_at T i) (trans_at T t)
              (r.inside (c + place) (omega arith) inside ∙ sym (r.inside i from below)) (sym label) (sym target)
              (valid.in_order (c + place) i (omega arith) (omega arith)) more.1
        ]
      ]
    ]

-- the span of x has each move that the span of a has
found :
    (T : Automaton) (a x b e c f : ℕ)
    → IsOutgoing T a b e
    → IsOutgoing T x c f
    → b + f ≡ c + e
    → ((k : ℕ) → b + k < e → AreAlike T (b + k) (c + k))
    → (p q : ℕ)
    → Moves T a p q
    → Moves T x p q
found T a x b e c f s r len alike p q m =
    let (t, from, below, at) = moves_in_outgoing T a b e s p q m in
    let k : ℕ = t - b in
    let is : b + k ≡ t = omega arith in
    let same = alike k (omega arith) in
    let label : (trans_at T (c + k)).label ≡ p = sym same.0 ∙ ap (λ y. (trans_at T y).label) is ∙ ap (λ (u : Trans). u.label) at in
    let target : (trans_at T (c + k)).target ≡ q = sym same.1 ∙ ap (λ y. (trans_at T y).target) is ∙ ap (λ (u : Trans). u.target) at in
    let move = outgoing_moves T x c f r (c + k) (omega arith) (omega arith) in
    subst (λ y. Moves T x y q) label (subst (λ y. Moves T x (trans_at T (c + k)).label y) target move)

module _ (A T : Automaton) (k : IsTurned A T) (a x b e c f : ℕ) (s : IsOutgoing T a b e) (r : IsOutgoing T x c f) where
  pub same_columns : AreSpansAlike T b e c f → HasSameColumns A a x
  same_columns h p q =
      let len : b + f ≡ c + e = h.len in (
        λ m. (k.moves x p q).0 (found T a x b e c f s r len h.alike p q ((k.moves a p q).1 m)),
        λ m. (k.moves a p q).0 (found T x a c f b e r s (sym len) (λ j lt. alike_sym T (b + j) (c + j) (h.alike j (omega arith))) p q ((k.moves x p q).1 m)),
      )

  first_to : HasSameColumns A a x → (p q : ℕ) → Moves T a p q → Moves T x p q
  first_to same p q m = (k.moves x p q).1 ((same p q).0 ((k.moves a p q).0 m))

  second_to : HasSameColumns A a x → (p q : ℕ) → Moves T x p q → Moves T a p q
  second_to same p q m = (k.moves a p q).1 ((same p q).1 ((k.moves x p q).0 m))

  pub other_columns : HasFirstUnlike T b e c f → HasSameColumns A a x → ⊥
  other_columns h same =
      let n : ℕ = h.place in
      let back : (j : ℕ) → j < n → (c + j < f) × (b + j < e) × AreAlike T (c + j) (b + j) = λ j lt. let g = h.before j lt in (g.1, g.0, alike_sym T (b + j) (c + j) g.2) in
      elim h.here [
        | inl one ↦ missing T k.valid a x b e c f n s r h.before one.0 (inl one.1) (first_to same)
        | inr two ↦ elim two [
          | inl one ↦ missing T k.valid x a c f b e n r s back one.1 (inl one.0) (second_to same)
          | inr both ↦ elim (one_precedes T (b + n) (c + n) both.2) [
            | inl lower ↦ missing T k.valid a x b e c f n s r h.before both.0 (inr (both.1, lower)) (first_to same)
            | inr higher ↦ missing T k.valid x a c f b e n r s back both.1 (inr (both.0, higher)) (second_to same)
          ]
        ]
      ]
