-- What a run over a lasso is.
use Rattle.std.specs.Prelude.{◌≡◌, ◌↔◌, ℕ, ◌≤◌, true, List, ◌∷◌, ◌++◌}
use Rattle.auto_core.specs.Automaton.{Automaton, Moves}
use Rattle.auto_core.specs.Run.{PathBy, end_of, some_accepting, repeated}
use Rattle.auto_core.specs.Accept.{AcceptsLasso}
use Rattle.lasso_accept.specs.declared.runs.LassoRun.{LassoRun}

-- The places are the initial state, then the states of a path on the prefix u and `before` times
-- the loop v, then those of a path on `turns` times the loop that goes on from there. There is at
-- least one such turn; the turns end in the state in which they began, and pass an accepting state.
pub record IsLassoRun (A : Automaton) (u v : List ℕ) (run : LassoRun) : Type 0 where
  pub entering : List ℕ
  pub turning : List ℕ
  pub places : run.places ≡ A.initial ∷ entering ++ turning
  pub enters : PathBy (Moves A) A.initial (u ++ repeated v run.before) entering
  pub turns : PathBy (Moves A) (end_of A.initial entering) (repeated v run.turns) turning
  pub some_turn : 1 ≤ run.turns
  pub returns : end_of (end_of A.initial entering) turning ≡ end_of A.initial entering
  pub passes_accepting : some_accepting A turning ≡ true

-- Such a run exists just where the lasso is accepted.
abbrev pub RunsTellAcceptance : Type 0
RunsTellAcceptance =
    (A : Automaton) (u v : List ℕ) → ((run : LassoRun) × IsLassoRun A u v run) ↔ AcceptsLasso A u v
