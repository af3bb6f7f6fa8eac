-- The moves of the lists are the transitions.
use Rattle.std.specs.Prelude.{◌≡◌, ℕ, ◌<◌, ◌↔◌, List, [], ◌∷◌, map, ◌==◌, Bool, true, false, cond, Contains, refl}
use Rattle.std.specs.List.{filter}
use Rattle.std.proofs.Common.{◌⊎◌, inl, inr, sym, ap, ◌∙◌, subst}
use Rattle.std.proofs.lemmas.Bool.{eqb-true, eq-eqb, false≢true}
use Rattle.auto_core.specs.Automaton.{Automaton, IsAutomaton, Moves, trans}
use Rattle.auto_core.proofs.MoveLemmas.{move_in_range}
use Rattle.auto_core.specs.declared.parts.Trans.{Trans}
use Rattle.auto_core.specs.Game.{BackwardMoves}
use Rattle.auto_core.proofs.MemberLemmas.{map_has, map_from, filter_has, filter_from}
use Rattle.auto_core.proofs.PathLemmas.{Contains-here, Contains-later, Contains-cons_cases, none_in_nil}
use Rattle.look_round.specs.declared.moves.Move.{Move}
use Rattle.look_round.specs.Sides.{move, move_of, forward_moves, turned_move, backward_moves, turned_trans}

-- the transitions out of p as moves
abbrev out_of : List Trans → ℕ → List Move
out_of ts p = map move_of (filter (λ (t : Trans). t.source == p) ts)

add_kept : (b : Bool) (t : Trans) (ts : List Trans) (p a q : ℕ) → (t.source == p) ≡ b
    → (t ≡ trans p a q) ⊎ Contains (out_of ts p) (move a q)
    → Contains (map move_of
    (cond b (t ∷ filter (λ (t : Trans). t.source == p) ts)
    (filter (λ (t : Trans). t.source == p) ts))) (move a q)
add_kept true t ts p a q is h = elim h [
  | inl e ↦ Contains-here (move_of t) (move a q) (out_of ts p) (ap move_of e)
  | inr later ↦ Contains-later (move_of t) (move a q) (out_of ts p) later
]
add_kept false t ts p a q is h = elim h [
  | inl e ↦ absurd (false≢true (sym is ∙ eq-eqb t.source p (ap (λ (u : Trans). u.source) e)))
  | inr later ↦ later
]

to_list : (ts : List Trans) (p a q : ℕ) → Contains ts (trans p a q)
    → Contains (out_of ts p) (move a q)
to_list [] p a q h = absurd (none_in_nil (trans p a q) h)
to_list (t ∷ ts) p a q h =
    add_kept (t.source == p) t ts p a q refl (elim (Contains-cons_cases t (trans p a q) ts h) [
      | inl e ↦ inl e
      | inr later ↦ inr (to_list ts p a q later)
    ])

whole : (p p' a a' q q' : ℕ) → p ≡ p' → a ≡ a' → q ≡ q' → trans p a q ≡ trans p' a' q'
whole p p' a a' q q' e f g =
    ap (λ x. trans x a q) e ∙ ap (λ x. trans p' x q) f ∙ ap (λ x. trans p' a' x) g

split_kept : (b : Bool) (t : Trans) (ts : List Trans) (p a q : ℕ) → (t.source == p) ≡ b
    → Contains (map move_of
    (cond b (t ∷ filter (λ (t : Trans). t.source == p) ts)
    (filter (λ (t : Trans). t.source == p) ts))) (move a q)
    → (t ≡ trans p a q) ⊎ Contains (out_of ts p) (move a q)
split_kept true t ts p a q is c =
    elim (Contains-cons_cases (move_of t) (move a q) (out_of ts p) c) [
      | inl e ↦ inl
          (whole t.source p t.label a t.target q (eqb-true t.source p is) (ap (λ (m : Move). m.label) e)
          (ap (λ (m : Move). m.to) e))
      | inr later ↦ inr later
    ]
split_kept false t ts p a q is c = inr c

from_list : (ts : List Trans) (p a q : ℕ) → Contains (out_of ts p) (move a q)
    → Contains ts (trans p a q)
from_list [] p a q h = absurd (none_in_nil (move a q) h)
from_list (t ∷ ts) p a q h = elim (split_kept (t.source == p) t ts p a q refl h) [
  | inl e ↦ Contains-here t (trans p a q) ts e
  | inr later ↦ Contains-later t (trans p a q) ts (from_list ts p a q later)
]

-- p moves forward by a to q exactly where its list has this move.
pub forward_lists : (A : Automaton) (p a q : ℕ)
    → Contains (forward_moves A p) (move a q) ↔ Moves A p a q
forward_lists A p a q = (from_list A.transitions p a q, to_list A.transitions p a q)

-- moves forward lead to states
pub forward_stays : (A : Automaton) → IsAutomaton A → (p a q : ℕ) → Moves A p a q → q < A.states
forward_stays A valid p a q m = (move_in_range A valid p a q m).1

-- p moves backward by a to q exactly where its list has this move.
pub backward_lists : (A : Automaton) (p a q : ℕ)
    → Contains (backward_moves A p) (move a q) ↔ BackwardMoves A p a q
backward_lists A p a q = (
  λ h.
      let (t, in_filter, is) =
      map_from turned_move (filter (λ (t : Trans). t.target == p) A.transitions) (move a q) h in
      let (there, passes) = filter_from (λ (t : Trans). t.target == p) A.transitions t in_filter in
      subst (Contains A.transitions)
      (whole t.source q t.label a t.target p (ap (λ (m : Move). m.to) is)
      (ap (λ (m : Move). m.label) is) (eqb-true t.target p passes)) there,
  λ m. map_has turned_move (filter (λ (t : Trans). t.target == p) A.transitions) (trans q a p)
      (filter_has (λ (t : Trans). t.target == p) A.transitions (trans q a p) m (eq-eqb p p refl)),
)

-- moves backward lead to states
pub backward_stays : (A : Automaton) → IsAutomaton A → (p a q : ℕ) → BackwardMoves A p a q
    → q < A.states
backward_stays A valid p a q m = (move_in_range A valid q a p m).0

-- p moves forward by a to q exactly where this is a transition.
pub forward_sees : (A : Automaton) (p a q : ℕ)
    → Moves A p a q ↔ ((t : Trans) × Contains A.transitions t × (t ≡ trans p a q))
forward_sees A p a q =
    (λ m. (trans p a q, m, refl), λ (t, there, is). subst (Contains A.transitions) is there)

-- p moves backward by a to q exactly where this is a transition turned round.
pub backward_sees : (A : Automaton) (p a q : ℕ)
    → BackwardMoves A p a q
    ↔ ((t : Trans) × Contains A.transitions t × (turned_trans t ≡ trans p a q))
backward_sees A p a q = (
  λ m. (trans q a p, m, refl),
  λ (t, there, is). subst (Contains A.transitions)
      (ap turned_trans is) there,
)
