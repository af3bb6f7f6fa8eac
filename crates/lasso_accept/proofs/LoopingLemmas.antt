-- The states from which a loop is accepted, as those from which a flagged cycle of its graph is reached; and accepted lassos by them.
use Rattle.std.proofs.Common.{◌≡◌, ◌↔◌, ℕ, suc, ◌<◌, ◌≤◌, ◌||◌, true, List, ◌∷◌, ◌++◌, length, take, drop, refl, ap, ◌∙◌, append-nil, arith}
use Rattle.std.proofs.lemmas.List.{drop_all, take_all}
use Rattle.auto_core.specs.Automaton.{Automaton, IsAutomaton, Moves, is_accepting}
use Rattle.auto_core.specs.Run.{repeated}
use Rattle.auto_core.specs.Accept.{AcceptsLasso}
use Rattle.auto_core.specs.Pairs.{set_of}
use Rattle.auto_core.specs.Rows.{HasBit}
use Rattle.auto_core.specs.Reach.{HasArc}
use Rattle.auto_core.proofs.PathLemmas.{run_join, run_split}
use Rattle.auto_core.proofs.ReachLemmas.{close_trans}
use Rattle.lasso_accept.specs.Plane.{ArePlanes}
use Rattle.bit_rows.specs.Loops.{LeadsToLoop}
use Rattle.lasso_accept.specs.Looping.{AcceptsLoopFrom, AcceptsLassoFrom, AcceptsFromInitial, AreRests}
use Rattle.lasso_accept.specs.Guide.{IsGuide}
use Rattle.lasso_accept.proofs.GuideLemmas.{guide_rests}
use Rattle.lasso_accept.proofs.LassoLemmas.{run_in_range, chain_as_run, run_as_chain, flagged_as_arcs}

-- A vector that was written whole holds what was written.
pub written_whole : (new items : List ℕ) (len : ℕ) → length items ≤ length new → length new ≤ len → take len (new ++ drop (length new) items) ≡ new
written_whole new items len short long = ap (λ x. take len (new ++ x)) (drop_all (length new) items short) ∙ ap (λ x. take len x) (append-nil new) ∙ take_all len new long

module _ (A : Automaton) (valid : IsAutomaton A) (v : List ℕ) (width : ℕ) (any flagged : List ℕ) (planes : ArePlanes A v width any flagged) where
  abbrev R : ℕ → ℕ → Type 0
  R = HasArc any A.states width

  abbrev F : ℕ → ℕ → Type 0
  F = HasArc flagged A.states width

  leads_accepts : (p : ℕ) → LeadsToLoop R F p → AcceptsLoopFrom A v p
  leads_accepts p (x, way, (next, leaves, returns)) =
      let (g, enters) = chain_as_run A valid v width any flagged planes way.0 p x way.1 in
      let (h, back) = chain_as_run A valid v width any flagged planes returns.0 next x returns.1 in
      let turn = (planes.flagged_runs x next leaves.0 leaves.1).0 leaves.2 in
      record {
        before = way.0;
        turns = suc returns.0;
        state = x;
        flag = g;
        enters = enters;
        some_turn = omega arith;
        cycles = run_join A x v next true (repeated v returns.0) x h turn back;
      }

  accepts_leads : (p : ℕ) → p < A.states → AcceptsLoopFrom A v p → LeadsToLoop R F p
  accepts_leads p p_in a =
      let state_in = run_in_range A valid p (repeated v a.before) a.state a.flag p_in a.enters in
      let (x, y, to, turn, from) = flagged_as_arcs A valid v width any flagged planes a.turns a.state a.state state_in a.cycles in
      let way = run_as_chain A valid v width any flagged planes a.before p a.state a.flag p_in a.enters in
      (x, close_trans R p a.state x (a.before, way) to, (y, turn, close_trans R y a.state x from to))

  pub leads_as_accepts : (out : List ℕ) → ((p : ℕ) → HasBit out p ↔ ((p < A.states) × LeadsToLoop R F p)) → (p : ℕ) → HasBit out p ↔ ((p < A.states) × AcceptsLoopFrom A v p)
  leads_as_accepts out leading p = (
    λ has. let b = (leading p).0 has in (b.0, leads_accepts p b.1),
    λ (p_in, a). (leading p).1 (p_in, accepts_leads p p_in a),
  )

-- A lasso is accepted where its prefix leads to a state from which its loop is.
pub lasso_by_loop :
    (A : Automaton) (u v : List ℕ) → AcceptsLasso A u v ↔ ((p : ℕ) × set_of A u p × AcceptsLoopFrom A v p)
lasso_by_loop A u v = (
  λ a.
      let cut = run_split A A.initial u (repeated v a.before) a.state a.flag a.enters in (
        cut.middle,
        (cut.first_flag, cut.first),
        record {
          before = a.before;
          turns = a.turns;
          state = a.state;
          flag = cut.second_flag;
          enters = cut.second;
          some_turn = a.some_turn;
          cycles = a.cycles;
        },
      ),
  λ (p, run, l). record {
    before = l.before;
    turns = l.turns;
    state = l.state;
    flag = run.0 || l.flag;
    enters = run_join A A.initial u p run.0 (repeated v l.before) l.state l.flag run.1 l.enters;
    some_turn = l.some_turn;
    cycles = l.cycles;
  },
)

-- A guide into the states from which the loop is accepted has the rests.
pub guide_as_rests :
    (A : Automaton)
    → IsAutomaton A
    → (u v target : List ℕ) (width : ℕ) (any flagged : List ℕ)
    → IsGuide A u target width any flagged
    → ((p : ℕ) → HasBit target p ↔ ((p < A.states) × AcceptsLoopFrom A v p))
    → AreRests A u v width any
guide_as_rests A valid u v target width any flagged g loops = record {
  len = g.any_len;
  rows = λ k p k_in p_in.
      let is = guide_rests A valid u target width any flagged g k p k_in p_in in (
        λ h.
            let (q, flag, run, lands) = is.0 h in
            record { end = q; flag = flag; run = run; loop = ((loops q).0 lands).1 },
        λ l.
            let end_in = run_in_range A valid p (drop k u) l.end l.flag p_in l.run in
            is.1 (l.end, l.flag, l.run, (loops l.end).1 (end_in, l.loop)),
      );
}

-- A lasso without a letter of its prefix is accepted where the letters before lead to a state from which the rest is.
pub lasso_by_rest :
    (A : Automaton) (u w v : List ℕ) → AcceptsLasso A (u ++ w) v ↔ ((p : ℕ) × set_of A u p × AcceptsLassoFrom A w v p)
lasso_by_rest A u w v = (
  λ a.
      let (q, run, l) = (lasso_by_loop A (u ++ w) v).0 a in
      let cut = run_split A A.initial u w q run.0 run.1 in
      (cut.middle, (cut.first_flag, cut.first), record { end = q; flag = cut.second_flag; run = cut.second; loop = l }),
  λ (p, run, l).
      (lasso_by_loop A (u ++ w) v).1
      (l.end, (run.0 || l.flag, run_join A A.initial u p run.0 w l.end l.flag run.1 l.run), l.loop),
)

pub accepts_from_initial : AcceptsFromInitial
accepts_from_initial A u v = (
  λ l. (lasso_by_loop A u v).1 (l.end, (l.flag, l.run), l.loop),
  λ a. let (p, run, loop) = (lasso_by_loop A u v).0 a in record { end = p; flag = run.0; run = run.1; loop = loop },
)

-- From a state a lasso with a letter more in front is accepted where a move with the letter leads to a state from which the lasso is.
pub accepts_after_move : (A : Automaton) (a : ℕ) (u v : List ℕ) (p : ℕ) → AcceptsLassoFrom A (a ∷ u) v p ↔ ((r : ℕ) × Moves A p a r × AcceptsLassoFrom A u v r)
accepts_after_move A a u v p = (
  λ l. let (r, later, move, rest, e) = l.run in (r, move, record { end = l.end; flag = later; run = rest; loop = l.loop }),
  λ (r, move, l). record { end = l.end; flag = is_accepting A r || l.flag; run = (r, l.flag, move, l.run, refl); loop = l.loop },
)
