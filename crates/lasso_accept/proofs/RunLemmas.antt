-- Routes of runs over a lasso, and the runs along them.
use Rattle.std.proofs.Common.{◌≡◌, ◌↔◌, ℕ, zero, suc, ◌+◌, ◌*◌, ◌<◌, ◌≤◌, inl, inr, Bool, true, false, List, [], ◌∷◌, ◌++◌, Result, Option, Ok, Err, Some, None, IfOk, MatchOption, refl, sym, ap, ◌∙◌, subst, arith}
use Rattle.std.proofs.lemmas.Bool.{cases_lt, or_left, false≢true}
use Rattle.auto_core.specs.Automaton.{Automaton, IsAutomaton, Moves}
use Rattle.auto_core.specs.Run.{Run, Path, end_of, some_accepting, repeated}
use Rattle.auto_core.specs.Game.{Close}
use Rattle.auto_core.specs.Rows.{HasBit, HasCell, bit_of, cell_of}
use Rattle.auto_core.specs.Reach.{HasArc}
use Rattle.auto_core.proofs.PathLemmas.{run_split, run_of_path, run_from_path, path_of_run, path_join, end_of-append, some_accepting-append}
use Rattle.auto_laws.proofs.PumpingLemmas.{chain_short}
use Rattle.lasso_accept.specs.Plane.{ArePlanes}
use Rattle.lasso_accept.specs.Guide.{LeadsToTarget, IsSpelled}
use Rattle.lasso_accept.specs.Countdown.{IsCountdown}
use Rattle.lasso_accept.specs.Route.{CountsTurns, IsArcRoute, IsRoute, HasTurned, HasGone}
use Rattle.lasso_accept.specs.LassoRun.{IsLassoRun, RunsTellAcceptance}
use Rattle.lasso_accept.specs.declared.runs.LassoRun.{LassoRun}
use Rattle.lasso_accept.proofs.LassoLemmas.{run_in_range, chain_as_run, run_as_chain}

-- rows that count arcs count turns
pub counts_turns :
    (A : Automaton)
    → IsAutomaton A
    → (v : List ℕ) (width : ℕ) (any flagged : List ℕ)
    → ArePlanes A v width any flagged
    → (target : ℕ) (table : List ℕ)
    → IsCountdown (HasArc any A.states width) A.states width target table
    → CountsTurns A v width target table
counts_turns A valid v width any flagged planes target table c =
    record {
      len = c.len;
      runs = λ k p k_in p_in. (
        λ h. chain_as_run A valid v width any flagged planes k p target ((c.chains k p k_in p_in).0 h),
        λ (flag, run). (c.chains k p k_in p_in).1 (run_as_chain A valid v width any flagged planes k p target flag p_in run),
      );
    }

-- where the target is reached from a mark, some row has one
pub some_row_meets :
    (any : List ℕ) (n width target : ℕ) (table marks : List ℕ)
    → IsCountdown (HasArc any n width) n width target table
    → ((k p : ℕ) → k < n → p < n → HasBit marks p → HasCell table width k p → ⊥)
    → (p : ℕ)
    → p < n
    → HasBit marks p
    → Close (HasArc any n width) p target
    → ⊥
some_row_meets any n width target table marks c none p p_in marked (m, chain) =
    let (k, k_in, short) = chain_short (HasArc any n width) n (λ s t s_in arc. arc.1) m p target p_in chain in
    none k p k_in p_in marked ((c.chains k p k_in p_in).1 short)

pub route_found :
    (A : Automaton)
    → IsAutomaton A
    → (u v : List ℕ) (width : ℕ) (any flagged : List ℕ)
    → ArePlanes A v width any flagged
    → (at before back : ℕ) (table entered : List ℕ)
    → IsArcRoute any flagged A.states width entered at before back table
    → ((q : ℕ) → q < A.states → HasBit entered q ↔ ((flag : Bool) × Run A A.initial u q flag))
    → IsRoute A u v width at before back table
route_found A valid u v width any flagged planes at before back table entered r enters =
    let (p, p_in, p_marked, p_cell) = r.enters in
    let (q, q_in, q_flagged, q_cell) = r.returns in
    let (flag, run) = (enters p p_in).0 p_marked in
    record {
      at_in = r.at_in;
      before_in = r.before_in;
      back_in = r.back_in;
      counts = counts_turns A valid v width any flagged planes at table r.counts;
      enters = (p, flag, run, p_cell);
      returns = (q, (planes.flagged_runs at q r.at_in q_in).0 q_flagged, q_cell);
    }

-- some turns have been taken, `left` are to come
pub record IsTurning (A : Automaton) (v : List ℕ) (width turns : ℕ) (table : List ℕ) (start : ℕ) (first : List ℕ) (left state : ℕ) (places : List ℕ) : Type 0 where
  pub done : ℕ
  pub states : List ℕ
  pub all : done + left ≡ turns
  pub is : places ≡ first ++ states
  pub path : Path A start (repeated v done) states
  pub ends : end_of start states ≡ state
  pub here : HasCell table width left state
  pub is_state : state < A.states

append_nil : (xs : List ℕ) → xs ≡ xs ++ []
append_nil [] = refl
append_nil (x ∷ xs) = ap (λ ys. x ∷ ys) (append_nil xs)

assoc : (xs ys zs : List ℕ) → (xs ++ ys) ++ zs ≡ xs ++ (ys ++ zs)
assoc [] ys zs = refl
assoc (x ∷ xs) ys zs = ap (λ r. x ∷ r) (assoc xs ys zs)

repeated_more : (v : List ℕ) (n : ℕ) → repeated v (suc n) ≡ repeated v n ++ v
repeated_more v zero = sym (append_nil v)
repeated_more v (suc n) = ap (λ x. v ++ x) (repeated_more v n) ∙ sym (assoc v (repeated v n) v)

pub turning_none :
    (A : Automaton) (v : List ℕ) (width turns : ℕ) (table : List ℕ) (start : ℕ) (first : List ℕ)
    → start < A.states
    → HasCell table width turns start
    → IsTurning A v width turns table start first turns start first
turning_none A v width turns table start first start_in here =
    record { done = 0; states = []; all = omega arith; is = append_nil first; path = tt; ends = refl; here = here; is_state = start_in }

pub turning_leads :
    (A : Automaton)
    → IsAutomaton A
    → (v : List ℕ) (width target : ℕ) (table : List ℕ) (left state : ℕ) (row : List ℕ)
    → A.states ≤ width * 64
    → CountsTurns A v width target table
    → left + 1 < A.states
    → state < A.states
    → HasCell table width (left + 1) state
    → ((q : ℕ) → q < width * 64 → bit_of row q ≡ cell_of table width left q)
    → LeadsToTarget A state v row false
turning_leads A valid v width target table left state row room c left_in state_in here inside =
    let next : left + 1 ≡ suc left = omega arith in
    let (flag, run) = (c.runs (left + 1) state left_in state_in).0 here in
    let R : ℕ → Type 0 = λ k. Run A state (repeated v k) target flag in
    let cut = run_split A state v (repeated v left) target flag (subst R next run) in
    let middle_in = run_in_range A valid state v cut.middle cut.first_flag state_in cut.first in
    record {
      end = cut.middle;
      flag = cut.first_flag;
      run = cut.first;
      lands = inside cut.middle (omega arith) ∙ (c.runs left cut.middle (omega arith) middle_in).1 (cut.second_flag, cut.second);
      passes = λ e. absurd (false≢true e);
    }

-- a row has only the bits of the table's row
pub row_cell :
    (table row : List ℕ) (width k q : ℕ)
    → ((q : ℕ) → q < width * 64 → bit_of row q ≡ cell_of table width k q)
    → ((q : ℕ) → width * 64 ≤ q → bit_of row q ≡ false)
    → HasBit row q
    → HasCell table width k q
row_cell table row width k q inside outside h = elim (cases_lt q (width * 64)) [
  | inl near ↦ sym (inside q near) ∙ h
  | inr far ↦ absurd (false≢true (sym (outside q far) ∙ h))
]

pub end_in_range : (A : Automaton) → IsAutomaton A → (p : ℕ) (w target : List ℕ) (asked : Bool) (old new : List ℕ) (end : ℕ) → p < A.states → IsSpelled A p w target asked old new end → end < A.states
end_in_range A valid p w target asked old new end p_in s =
    let P : ℕ → Type 0 = λ q. q < A.states in
    subst P s.ends (run_in_range A valid p w (end_of p s.states) (some_accepting A s.states) p_in (run_of_path A p w s.states s.path))

pub turning_more :
    (A : Automaton)
    → IsAutomaton A
    → (v : List ℕ) (width turns : ℕ) (table : List ℕ) (start : ℕ) (first : List ℕ) (left state : ℕ) (places row : List ℕ) (end : ℕ) (new : List ℕ)
    → IsTurning A v width turns table start first (left + 1) state places
    → ((q : ℕ) → q < width * 64 → bit_of row q ≡ cell_of table width left q)
    → ((q : ℕ) → width * 64 ≤ q → bit_of row q ≡ false)
    → IsSpelled A state v row false places new end
    → IsTurning A v width turns table start first left end new
turning_more A valid v width turns table start first left state places row end new t inside outside s =
    let all = t.all in
    let states : List ℕ = t.states in
    let M : ℕ → Type 0 = λ p. Path A p v s.states in
    let W : List ℕ → Type 0 = λ x. Path A start x (states ++ s.states) in
    let E : ℕ → Type 0 = λ p. end_of p s.states ≡ end in
    record {
      done = suc t.done;
      states = states ++ s.states;
      all = omega arith;
      is = s.is ∙ ap (λ xs. xs ++ s.states) t.is ∙ assoc first states s.states;
      path = subst W (sym (repeated_more v t.done)) (path_join (Moves A) start (repeated v t.done) v states s.states t.path (subst M (sym t.ends) s.path));
      ends = end_of-append start states s.states ∙ subst E (sym t.ends) s.ends;
      here = row_cell table row width left end inside outside s.lands;
      is_state = end_in_range A valid state v row false places new end t.is_state s;
    }

pub turning_all :
    (A : Automaton) (v : List ℕ) (width target turns : ℕ) (table : List ℕ) (start : ℕ) (first : List ℕ) (left state : ℕ) (places : List ℕ)
    → CountsTurns A v width target table
    → left ≡ 0
    → IsTurning A v width turns table start first left state places
    → HasTurned A start v turns target first places
turning_all A v width target turns table start first left state places c over t =
    let all = t.all in
    let done : t.done ≡ turns = omega arith in
    let state_in = t.is_state in
    let H : ℕ → Type 0 = λ k. HasCell table width k state in
    let (flag, run) = (c.runs 0 state (omega arith) state_in).0 (subst H over t.here) in
    let W : ℕ → Type 0 = λ k. Path A start (repeated v k) t.states in
    record { states = t.states; is = t.is; path = subst W done t.path; ends = t.ends ∙ run.0 }

-- The run along a route.
pub enters_leads :
    (A : Automaton)
    → IsAutomaton A
    → (p : ℕ) (w : List ℕ) (width k s : ℕ) (flag : Bool) (table row : List ℕ) (asked : Bool)
    → A.states ≤ width * 64
    → p < A.states
    → Run A p w s flag
    → (asked ≡ true → flag ≡ true)
    → HasCell table width k s
    → ((q : ℕ) → q < width * 64 → bit_of row q ≡ cell_of table width k q)
    → LeadsToTarget A p w row asked
enters_leads A valid p w width k s flag table row asked room p_in run passes cell inside =
    let s_in = run_in_range A valid p w s flag p_in run in
    record { end = s; flag = flag; run = run; lands = inside s (omega arith) ∙ cell; passes = passes }

-- a word spelled and then some turns taken
pub gone :
    (A : Automaton) (p : ℕ) (w v row : List ℕ) (turns target : ℕ) (asked : Bool) (old middle new : List ℕ) (state : ℕ)
    → IsSpelled A p w row asked old middle state
    → HasTurned A state v turns target middle new
    → HasGone A p w v turns target asked old new
gone A p w v row turns target asked old middle new state s t =
    let a : List ℕ = s.states in
    let b : List ℕ = t.states in
    let M : ℕ → Type 0 = λ q. Path A q (repeated v turns) b in
    let E : ℕ → Type 0 = λ q. end_of q b ≡ target in
    record {
      states = a ++ b;
      is = t.is ∙ ap (λ x. x ++ b) s.is ∙ assoc old a b;
      path = path_join (Moves A) p w (repeated v turns) a b s.path (subst M (sym s.ends) t.path);
      ends = end_of-append p a b ∙ subst E (sym s.ends) t.ends;
      passes = λ e. some_accepting-append A a b ∙ or_left (some_accepting A a) (some_accepting A b) (s.passes e);
    }

pub gone_if_turned :
    {R E : Type 0} (x : Result R E) (A : Automaton) (p : ℕ) (w v row : List ℕ) (turns target : ℕ) (asked : Bool) (old middle new : List ℕ) (state : ℕ)
    → IsSpelled A p w row asked old middle state
    → IfOk x (λ r. HasTurned A state v turns target middle new)
    → IfOk x (λ r. HasGone A p w v turns target asked old new)
gone_if_turned (Ok r) A p w v row turns target asked old middle new state s t = gone A p w v row turns target asked old middle new state s t
gone_if_turned (Err e) A p w v row turns target asked old middle new state s t = t

pub lasso_run :
    (A : Automaton) (u v : List ℕ) (at before back : ℕ) (middle places : List ℕ)
    → HasGone A A.initial u v before at false (A.initial ∷ []) middle
    → HasGone A at v v back at true middle places
    → IsLassoRun A u v (record { before = before; turns = back + 1; places = places })
lasso_run A u v at before back middle places g h =
    let a : List ℕ = g.states in
    let b : List ℕ = h.states in
    let i : ℕ = A.initial in
    let next : suc back ≡ back + 1 = omega arith in
    let T : ℕ → Type 0 = λ p. Path A p (repeated v (suc back)) b in
    let N : ℕ → Type 0 = λ k. Path A (end_of i a) (repeated v k) b in
    let C : ℕ → Type 0 = λ p. end_of p b ≡ p in
    record {
      entering = a;
      turning = b;
      places = h.is ∙ ap (λ x. x ++ b) g.is;
      enters = g.path;
      turns = subst N next (subst T (sym g.ends) h.path);
      some_turn = omega arith;
      returns = subst C (sym g.ends) h.ends;
      passes_accepting = h.passes refl;
    }

-- Runs over a lasso and its acceptance.
pub runs_tell : RunsTellAcceptance
runs_tell A u v = (
  λ (run, r). record {
    before = run.before;
    turns = run.turns;
    state = end_of A.initial r.entering;
    flag = some_accepting A r.entering;
    enters = run_of_path A A.initial (u ++ repeated v run.before) r.entering r.enters;
    some_turn = r.some_turn;
    cycles = run_from_path A (end_of A.initial r.entering) (repeated v run.turns) (end_of A.initial r.entering) true (r.turning, r.turns, r.returns, r.passes_accepting);
  },
  λ a.
      let (ps, enters, arrives, marks) = path_of_run A A.initial (u ++ repeated v a.before) a.state a.flag a.enters in
      let (qs, turns, comes_back, passes) = path_of_run A a.state (repeated v a.turns) a.state true a.cycles in
      let run : LassoRun = record { before = a.before; turns = a.turns; places = A.initial ∷ ps ++ qs } in
      let T : ℕ → Type 0 = λ p. Path A p (repeated v a.turns) qs in
      let C : ℕ → Type 0 = λ p. end_of p qs ≡ p in (
        run,
        record {
          entering = ps;
          turning = qs;
          places = refl;
          enters = enters;
          turns = subst T (sym arrives) turns;
          some_turn = a.some_turn;
          returns = subst C (sym arrives) comes_back;
          passes_accepting = passes;
        },
      ),
)

pub cell_row :
    (table row : List ℕ) (width k q : ℕ)
    → ((q : ℕ) → q < width * 64 → bit_of row q ≡ cell_of table width k q)
    → q < width * 64
    → HasCell table width k q
    → HasBit row q
cell_row table row width k q inside near h = inside q near ∙ h

-- the same route of lists that are equal
pub route_of_slices :
    (A : Automaton) (u v us vs : List ℕ) (width at before back : ℕ) (table ts : List ℕ)
    → us ≡ u
    → vs ≡ v
    → ts ≡ table
    → IsRoute A u v width at before back table
    → IsRoute A us vs width at before back ts
route_of_slices A u v us vs width at before back table ts e f g r =
    let U : List ℕ → Type 0 = λ x. IsRoute A x vs width at before back ts in
    let V : List ℕ → Type 0 = λ x. IsRoute A u x width at before back ts in
    let T : List ℕ → Type 0 = λ x. IsRoute A u v width at before back x in
    subst U (sym e) (subst V (sym f) (subst T (sym g) r))

-- what an answer that may be none or an error says, in other words
pub told_otherwise :
    {R E : Type 0} (x : Result (Option R) E) (P P' : Type 0) (Q Q' : R → Type 0)
    → (P → P')
    → ((r : R) → Q r → Q' r)
    → IfOk x (λ found. MatchOption found P Q)
    → IfOk x (λ found. MatchOption found P' Q')
told_otherwise (Ok (Some r)) P P' Q Q' none some h = some r h
told_otherwise (Ok None) P P' Q Q' none some h = none h
told_otherwise (Err e) P P' Q Q' none some h = h
