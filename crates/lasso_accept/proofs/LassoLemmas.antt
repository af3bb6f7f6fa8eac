-- Accepted lassos as cycles in the graph of the loop, entered by the graph of the prefix.
use Rattle.std.proofs.Common.{◌≡◌, ◌↔◌, ℕ, zero, suc, ◌*◌, ◌<◌, ◌≤◌, inl, inr, Bool, true, false, ◌||◌, List, [], ◌∷◌, refl, sym, ◌∙◌, subst, arith}
use Rattle.std.proofs.lemmas.Bool.{cases_lt, or_cases, false≢true}
use Rattle.auto_core.specs.Automaton.{Automaton, IsAutomaton}
use Rattle.auto_core.specs.Run.{Run, repeated}
use Rattle.auto_core.specs.Accept.{AcceptsLasso}
use Rattle.auto_core.specs.Game.{Chain, Close}
use Rattle.auto_core.specs.Rows.{HasBit, bit_of, cell_of}
use Rattle.auto_core.specs.Reach.{HasArc, HasFlaggedCycle}
use Rattle.auto_core.proofs.PathLemmas.{run_join, run_split}
use Rattle.auto_core.proofs.MoveLemmas.{move_in_range}
use Rattle.auto_core.proofs.ReachLemmas.{close_trans}
use Rattle.lasso_accept.specs.Plane.{ArePlanes}

-- a run from a state ends in a state
pub run_in_range : (A : Automaton) → IsAutomaton A → (p : ℕ) (w : List ℕ) (q : ℕ) (flag : Bool) → p < A.states → Run A p w q flag → q < A.states
run_in_range A valid p [] q flag p_in (e, f) = let P : ℕ → Type 0 = λ s. s < A.states in subst P e p_in
run_in_range A valid p (a ∷ w) q flag p_in (r, later, m, run, e) = run_in_range A valid r w q later (move_in_range A valid p a r m).1 run

module _ (A : Automaton) (valid : IsAutomaton A) (v : List ℕ) (width : ℕ) (any flagged : List ℕ) (planes : ArePlanes A v width any flagged) where
  arc : ℕ → ℕ → Type 0
  arc = HasArc any A.states width

  -- arcs one after another are a run on as many turns
  chain_run : (n p q : ℕ) → Chain arc n p q → (flag : Bool) × Run A p (repeated v n) q flag
  unfolding arc
  chain_run zero p q c = (false, (c, refl))
  chain_run (suc n) p q (r, a, c) =
      let (first, run) = (planes.any_runs p r a.0 a.1).0 a.2 in
      let (later, rest) = chain_run n r q c in
      (first || later, run_join A p v r first (repeated v n) q later run rest)

  -- and the other way round
  run_chain : (n p q : ℕ) (flag : Bool) → p < A.states → Run A p (repeated v n) q flag → Chain arc n p q
  unfolding arc
  run_chain zero p q flag p_in (e, f) = e
  run_chain (suc n) p q flag p_in run =
      let cut = run_split A p v (repeated v n) q flag run in
      let r_in = run_in_range A valid p v cut.middle cut.first_flag p_in cut.first in (
        cut.middle,
        (p_in, r_in, (planes.any_runs p cut.middle p_in r_in).1 (cut.first_flag, cut.first)),
        run_chain n cut.middle q cut.second_flag r_in cut.second,
      )

  -- a run past an accepting state has a turn with one
  Flagged : ℕ → ℕ → Type 0
  Flagged p q = (x y : ℕ) × Close arc p x × HasArc flagged A.states width x y × Close arc y q

  flagged_turn : (n p q : ℕ) (flag : Bool) → flag ≡ true → p < A.states → Run A p (repeated v n) q flag → Flagged p q
  unfolding arc Flagged
  flagged_turn zero p q flag is p_in (e, f) = absurd (false≢true (sym f ∙ is))
  flagged_turn (suc n) p q flag is p_in run =
      let cut = run_split A p v (repeated v n) q flag run in
      let r_in = run_in_range A valid p v cut.middle cut.first_flag p_in cut.first in
      elim (or_cases cut.first_flag cut.second_flag (sym cut.is ∙ is)) [
        | inl here ↦
            let P : Bool → Type 0 = λ b. Run A p v cut.middle b in
            let cell = (planes.flagged_runs p cut.middle p_in r_in).1 (subst P here cut.first) in
            (p, cut.middle, (0, refl), (p_in, r_in, cell), (n, run_chain n cut.middle q cut.second_flag r_in cut.second))
        | inr later ↦
            let (x, y, (m, way), turn, back) = flagged_turn n cut.middle q cut.second_flag later r_in cut.second in
            (x, y, (suc m, (cut.middle, (p_in, r_in, (planes.any_runs p cut.middle p_in r_in).1 (cut.first_flag, cut.first)), way)), turn, back)
      ]

  module _ (u marks : List ℕ) (entered : (q : ℕ) → q < A.states → HasBit marks q ↔ ((flag : Bool) × Run A A.initial u q flag)) (below : (q : ℕ) → HasBit marks q → q < A.states) where
    cycle_accepts : HasFlaggedCycle (HasArc any A.states width) (HasArc flagged A.states width) marks → AcceptsLasso A u v
    unfolding arc
    cycle_accepts c =
        let (f, enter) = (entered c.start (below c.start c.marked)).0 c.marked in
        let (g, way) = chain_run c.enters.0 c.start c.at c.enters.1 in
        let (h, back) = chain_run c.returns.0 c.next c.at c.returns.1 in
        let leaves = c.leaves in
        let turn = (planes.flagged_runs c.at c.next leaves.0 leaves.1).0 leaves.2 in
        record {
          before = c.enters.0;
          turns = suc c.returns.0;
          state = c.at;
          flag = f || g;
          enters = run_join A A.initial u c.start f (repeated v c.enters.0) c.at g enter way;
          some_turn = omega arith;
          cycles = run_join A c.at v c.next true (repeated v c.returns.0) c.at h turn back;
        }

    accepted_cycles : AcceptsLasso A u v → HasFlaggedCycle (HasArc any A.states width) (HasArc flagged A.states width) marks
    unfolding arc Flagged
    accepted_cycles a =
        let cut = run_split A A.initial u (repeated v a.before) a.state a.flag a.enters in
        let start_in = run_in_range A valid A.initial u cut.middle cut.first_flag valid.initial_is_state cut.first in
        let way = run_chain a.before cut.middle a.state cut.second_flag start_in cut.second in
        let state_in = run_in_range A valid cut.middle (repeated v a.before) a.state cut.second_flag start_in cut.second in
        let (x, y, to, turn, from) = flagged_turn a.turns a.state a.state true refl state_in a.cycles in
        record {
          start = cut.middle;
          at = x;
          next = y;
          marked = (entered cut.middle start_in).1 (cut.first_flag, cut.first);
          enters = close_trans arc cut.middle a.state x (a.before, way) to;
          leaves = turn;
          returns = close_trans arc y a.state x from to;
        }

pub cycles_as_lassos :
    (A : Automaton)
    → IsAutomaton A
    → (u v : List ℕ) (width : ℕ) (any flagged marks : List ℕ)
    → ArePlanes A v width any flagged
    → ((q : ℕ) → q < A.states → HasBit marks q ↔ ((flag : Bool) × Run A A.initial u q flag))
    → ((q : ℕ) → HasBit marks q → q < A.states)
    → HasFlaggedCycle (HasArc any A.states width) (HasArc flagged A.states width) marks ↔ AcceptsLasso A u v
cycles_as_lassos A valid u v width any flagged marks planes entered below = (
  cycle_accepts A valid v width any flagged planes u marks entered below,
  accepted_cycles A valid v width any flagged planes u marks entered below,
)

-- the row of the initial state marks what the prefix reaches
pub row_entered :
    (A : Automaton)
    → IsAutomaton A
    → (u : List ℕ) (width : ℕ) (any flagged row : List ℕ)
    → ArePlanes A u width any flagged
    → ((q : ℕ) → q < width * 64 → bit_of row q ≡ cell_of any width A.initial q)
    → ((q : ℕ) → width * 64 ≤ q → bit_of row q ≡ false)
    → ((q : ℕ) → q < A.states → HasBit row q ↔ ((flag : Bool) × Run A A.initial u q flag)) × ((q : ℕ) → HasBit row q → q < A.states)
row_entered A valid u width any flagged row planes inside outside = (
  λ q q_in.
      let room = planes.any_table.room in
      let near : q < width * 64 = omega arith in
      let both = planes.any_runs A.initial q valid.initial_is_state q_in in
      (λ h. both.0 (sym (inside q near) ∙ h), λ run. inside q near ∙ both.1 run),
  λ q h.
      elim (cases_lt q (width * 64)) [
        | inl near ↦ planes.any_table.columns A.initial q valid.initial_is_state near (sym (inside q near) ∙ h)
        | inr far ↦ absurd (false≢true (sym (outside q far) ∙ h))
      ],
)

-- Arcs one after another as runs on so many turns, and the other way round.
pub chain_as_run :
    (A : Automaton)
    → IsAutomaton A
    → (v : List ℕ) (width : ℕ) (any flagged : List ℕ)
    → ArePlanes A v width any flagged
    → (n p q : ℕ)
    → Chain (HasArc any A.states width) n p q
    → (flag : Bool) × Run A p (repeated v n) q flag
unfolding arc
chain_as_run A valid v width any flagged planes n p q c = chain_run A valid v width any flagged planes n p q c

pub run_as_chain :
    (A : Automaton)
    → IsAutomaton A
    → (v : List ℕ) (width : ℕ) (any flagged : List ℕ)
    → ArePlanes A v width any flagged
    → (n p q : ℕ) (flag : Bool)
    → p < A.states
    → Run A p (repeated v n) q flag
    → Chain (HasArc any A.states width) n p q
unfolding arc
run_as_chain A valid v width any flagged planes n p q flag p_in run = run_chain A valid v width any flagged planes n p q flag p_in run

-- A run on turns past an accepting state has a flagged arc on its way.
pub flagged_as_arcs :
    (A : Automaton)
    → IsAutomaton A
    → (v : List ℕ) (width : ℕ) (any flagged : List ℕ)
    → ArePlanes A v width any flagged
    → (n p q : ℕ)
    → p < A.states
    → Run A p (repeated v n) q true
    → (x y : ℕ) × Close (HasArc any A.states width) p x × HasArc flagged A.states width x y × Close (HasArc any A.states width) y q
unfolding arc Flagged
flagged_as_arcs A valid v width any flagged planes n p q p_in run = flagged_turn A valid v width any flagged planes n p q true refl p_in run
