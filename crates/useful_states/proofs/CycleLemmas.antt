-- The graph of the moves, and cycles by the numbers of components.
use Rattle.std.proofs.Common.{◌≡◌, ℕ, zero, suc, ◌+◌, ◌^◌, ◌<◌, ◌≤◌, inl, inr, Bool, ◌||◌, List, [], ◌∷◌, ◌++◌, length, refl, sym, ap, ◌∙◌, subst, arith, le_refl}
use Rattle.std.proofs.lemmas.Bool.{cases_eq, cases_lt}
use Rattle.auto_core.specs.Automaton.{Automaton, IsAutomaton, IsOutgoing, Moves, trans_at, is_accepting}
use Rattle.auto_core.specs.Game.{Chain, Close}
use Rattle.auto_core.specs.Run.{Run}
use Rattle.auto_core.specs.Useful.{Reaches, IsOnCycle}
use Rattle.auto_core.specs.declared.parts.Trans.{Trans}
use Rattle.auto_core.proofs.MoveLemmas.{move_at, move_in_range, outgoing_moves, moves_in_outgoing}
use Rattle.strong_components.specs.Graph.{at, IsGraph, HasArc, AreComponents}
use Rattle.strong_components.proofs.StateLemmas.{pushed}
use Rattle.useful_states.specs.declared.direction.Direction.TheVariants.{Forward}
use Rattle.useful_states.specs.Gathering.{MovesAlong}
use Rattle.useful_states.specs.Cycles.{AreSpans, AreTargets, AreComponentNumbers}
use Rattle.useful_states.proofs.RunLemmas.{reaches_by}

-- ---- where the transitions of each state start

-- The first c transitions have lesser sources, and the others have not.
pub record Parts (A : Automaton) (p c : ℕ) : Type 0 where
  pub within : c ≤ length A.transitions
  pub before : (t : ℕ) → t < c → (trans_at A t).source < p
  pub after : (t : ℕ) → c ≤ t → t < length A.transitions → p ≤ (trans_at A t).source

-- It is so for the states below p.
pub record AreSpansTo (A : Automaton) (p : ℕ) (starts : List ℕ) : Type 0 where
  pub size : length starts ≡ p + 1
  pub each : (v : ℕ) → v < p → IsOutgoing A v (at starts v) (at starts (v + 1))
  pub last : Parts A p (at starts p)

-- A state's transitions start where those of the lesser ones end.
parts_start : (A : Automaton) (p c begin end : ℕ) → Parts A p c → IsOutgoing A p begin end → begin ≡ c
parts_start A p c begin end parts range =
    let most = range.within in
    let upto = range.is_range in
    let fits = parts.within in
    elim (cases_lt begin c) [
      | inl less ↦ absurd (elim (cases_lt begin end) [
        | inl inside ↦ omega (arith, parts.before begin less, range.inside begin (le_refl begin) inside)
        | inr past ↦ omega (arith, parts.before begin less, range.after begin past (omega arith))
      ])
      | inr not_less ↦ elim (cases_lt c begin) [
        | inl more ↦ absurd (omega (arith, range.before c more, parts.after c (le_refl c) (omega arith)))
        | inr not_more ↦ omega arith
      ]
    ]

parts_end : (A : Automaton) (p begin end : ℕ) → IsOutgoing A p begin end → Parts A (p + 1) end
parts_end A p begin end range = record {
  within = range.within;
  before = λ t lt. elim (cases_lt t begin) [
    | inl less ↦ omega (arith, range.before t less)
    | inr from ↦ omega (arith, range.inside t from lt)
  ];
  after = λ t from lt. omega (arith, range.after t from lt);
}

pub spans_none : (A : Automaton) (starts : List ℕ) → starts ≡ 0 ∷ [] → AreSpansTo A 0 starts
spans_none A starts is = subst (AreSpansTo A 0) (sym is) (record {
  size = refl;
  each = λ v lt. absurd (omega (arith, lt));
  last = record { within = omega arith; before = λ t lt. absurd (omega (arith, lt)); after = λ t from lt. omega arith };
})

pub spans_more : (A : Automaton) (p begin end : ℕ) (old new : List ℕ) → AreSpansTo A p old → IsOutgoing A p begin end → new ≡ old ++ end ∷ [] → AreSpansTo A (p + 1) new
spans_more A p begin end old new spans range is = subst (AreSpansTo A (p + 1)) (sym is) (record { size = size; each = each; last = last })
  where
    longer : List ℕ
    longer = old ++ end ∷ []

    size : length (old ++ end ∷ []) ≡ p + 1 + 1
    size = (pushed old end).size ∙ ap (λ n. n + 1) spans.size

    kept : (v : ℕ) → v < p + 1 → at (old ++ end ∷ []) v ≡ at old v
    kept v lt = (pushed old end).same v (omega (arith, lt, spans.size))

    here : at (old ++ end ∷ []) (p + 1) ≡ end
    here = ap (at (old ++ end ∷ [])) (sym spans.size) ∙ (pushed old end).last

    start : begin ≡ at old p
    start = parts_start A p (at old p) begin end spans.last range

    each : (v : ℕ) → v < p + 1 → IsOutgoing A v (at (old ++ end ∷ []) v) (at (old ++ end ∷ []) (v + 1))
    each v lt = elim (cases_eq v p) [
      | inl e ↦
          subst (λ n. IsOutgoing A n (at (old ++ end ∷ []) n) (at (old ++ end ∷ []) (n + 1))) (sym e) (
          subst (λ n. IsOutgoing A p n (at (old ++ end ∷ []) (p + 1))) (start ∙ sym (kept p (omega arith))) (subst (λ n. IsOutgoing A p begin n) (sym here) range)
          )
      | inr apart ↦
          let below : v < p = omega (arith, lt, apart) in
          subst (λ n. IsOutgoing A v n (at (old ++ end ∷ []) (v + 1))) (sym (kept v lt)) (
          subst (λ n. IsOutgoing A v (at old v) n) (sym (kept (v + 1) (omega arith))) (spans.each v below)
          )
    ]

    last : Parts A (p + 1) (at (old ++ end ∷ []) (p + 1))
    last = subst (Parts A (p + 1)) (sym here) (parts_end A p begin end range)

pub spans_all : (A : Automaton) (p : ℕ) (starts : List ℕ) → p ≡ A.states → AreSpansTo A p starts → AreSpans A starts
spans_all A p starts all spans = record { size = spans.size ∙ ap (λ n. n + 1) all; each = λ v lt. spans.each v (omega (arith, lt, all)) }

-- ---- where they lead

-- The first n targets are there.
pub record AreTargetsTo (A : Automaton) (n : ℕ) (targets : List ℕ) : Type 0 where
  pub size : length targets ≡ n
  pub each : (k : ℕ) → k < n → at targets k ≡ (trans_at A k).target

pub targets_none : (A : Automaton) (targets : List ℕ) → targets ≡ [] → AreTargetsTo A 0 targets
targets_none A targets is = record { size = ap length is; each = λ k lt. absurd (omega (arith, lt)) }

pub targets_more : (A : Automaton) (n x : ℕ) (old new : List ℕ) → AreTargetsTo A n old → x ≡ (trans_at A n).target → new ≡ old ++ x ∷ [] → AreTargetsTo A (n + 1) new
targets_more A n x old new targets name is = subst (AreTargetsTo A (n + 1)) (sym is) (record {
  size = (pushed old x).size ∙ ap (λ m. m + 1) targets.size;
  each = λ k lt. elim (cases_eq k n) [
    | inl e ↦ ap (at (old ++ x ∷ [])) (e ∙ sym targets.size) ∙ (pushed old x).last ∙ name ∙ ap (λ m. (trans_at A m).target) (sym e)
    | inr apart ↦
        let below : k < n = omega (arith, lt, apart) in
        (pushed old x).same k (omega (arith, below, targets.size)) ∙ targets.each k below
  ];
})

pub targets_all : (A : Automaton) (n : ℕ) (targets : List ℕ) → n ≡ length A.transitions → AreTargetsTo A n targets → AreTargets A targets
targets_all A n targets all t = record { size = t.size ∙ all; each = λ k lt. t.each k (omega (arith, lt, all)) }

-- ---- the graph

module _ (A : Automaton) (valid : IsAutomaton A) (starts targets : List ℕ) (spans : AreSpans A starts) (ends : AreTargets A targets) where
  pub target_below : (k : ℕ) → k < length targets → at targets k < A.states
  target_below k lt =
      let t_in : k < length A.transitions = omega (arith, lt, ends.size) in
      let range = move_in_range A valid (trans_at A k).source (trans_at A k).label (trans_at A k).target (move_at A k t_in) in
      subst (λ n. n < A.states) (sym (ends.each k t_in)) range.1

  pub is_graph : A.states + 1 < 2 ^ 32 → IsGraph starts targets A.states
  is_graph few = record {
    size = spans.size;
    few = few;
    rising = λ v lt. (spans.each v lt).is_range;
    within = λ v lt. omega (arith, (spans.each v lt).within, ends.size);
    to_nodes = target_below;
  }

  arc_moves : (v w : ℕ) → v < A.states → HasArc starts targets v w → MovesAlong A Forward v w
  arc_moves v w v_in (k, (low, high), is) =
      let range = spans.each v v_in in
      let t_in : k < length A.transitions = omega (arith, high, range.within) in
      ((trans_at A k).label, subst (λ x. Moves A v (trans_at A k).label x) (sym (ends.each k t_in) ∙ is) (outgoing_moves A v (at starts v) (at starts (v + 1)) range k low high))

  moves_arc : (v w : ℕ) → MovesAlong A Forward v w → HasArc starts targets v w
  moves_arc v w (a, move) =
      let range = spans.each v (move_in_range A valid v a w move).0 in
      let (k, low, high, is) = moves_in_outgoing A v (at starts v) (at starts (v + 1)) range a w move in
      (k, (low, high), ends.each k (omega (arith, high, range.within)) ∙ ap (λ (u : Trans). u.target) is)

  next_below : (v w : ℕ) → MovesAlong A Forward v w → w < A.states
  next_below v w (a, move) = (move_in_range A valid v a w move).1

  arcs_are_moves : (n v w : ℕ) → v < A.states → Chain (HasArc starts targets) n v w → Reaches A v w
  arcs_are_moves n v w v_in way = let (m, moves) = follows n v w v_in way in reaches_by A m v w moves
    where
      follows : (n v w : ℕ) → v < A.states → Chain (HasArc starts targets) n v w → Close (MovesAlong A Forward) v w
      follows zero v w v_in e = (zero, e)
      follows (suc n) v w v_in (r, arc, rest) =
          let step = arc_moves v r v_in arc in
          let (m, way) = follows n r w (next_below v r step) rest in
          (suc m, (r, step, way))

  pub are_numbers : (numbers : List ℕ) → AreComponents starts targets A.states numbers → AreComponentNumbers A numbers
  are_numbers numbers components = record {
    size = components.size;
    fall = λ p a q move. components.fall p q (move_in_range A valid p a q move).0 (moves_arc p q (a, move));
    joined = λ p a q move same.
        let in_range = move_in_range A valid p a q move in
        let back = components.joined p q in_range.0 (moves_arc p q (a, move)) same in
        arcs_are_moves back.0 q p in_range.1 back.1;
  }

-- ---- cycles

module _ (A : Automaton) (numbers : List ℕ) (are : AreComponentNumbers A numbers) where
  -- A run leads to no greater number.
  pub numbers_fall : (p : ℕ) (w : List ℕ) (q : ℕ) (flag : Bool) → Run A p w q flag → at numbers q ≤ at numbers p
  numbers_fall p [] q flag (e, f) = subst (λ x. at numbers x ≤ at numbers p) e (le_refl (at numbers p))
  numbers_fall p (a ∷ w) q flag (next, later, move, rest, is) =
      let one = are.fall p a next move in
      let two = numbers_fall next w q later rest in
      omega arith

  -- A move to an equal number lies on a cycle.
  pub cycle_from : (p a q : ℕ) → Moves A p a q → at numbers q ≡ at numbers p → IsOnCycle A p
  cycle_from p a q move same = let (w, flag, run) = are.joined p a q move same in (a ∷ w, is_accepting A q || flag, omega arith, (q, flag, move, run, refl))

  -- A state on a cycle has such a move.
  pub move_from : (p : ℕ) → IsOnCycle A p → (a q : ℕ) × Moves A p a q × (at numbers q ≡ at numbers p)
  move_from p ([], flag, some, run) = absurd (omega (arith, some))
  move_from p (a ∷ w, flag, some, (next, later, move, rest, is)) =
      let down = are.fall p a next move in
      let up = numbers_fall next w p later rest in
      (a, next, move, omega arith)
