-- Runs, and moves that follow one another in either direction.
use Rattle.std.proofs.Common.{ℕ, zero, suc, Bool, false, ◌||◌, List, [], ◌∷◌, refl, sym}
use Rattle.auto_core.specs.Automaton.{Automaton, is_accepting}
use Rattle.auto_core.specs.Run.{Run}
use Rattle.auto_core.specs.Game.{Chain, Close}
use Rattle.auto_core.specs.Useful.{Reaches}
use Rattle.auto_core.proofs.ReachLemmas.{close_one, close_trans}
use Rattle.useful_states.specs.declared.direction.Direction.TheVariants.{Forward, Backward}
use Rattle.useful_states.specs.Gathering.{MovesAlong}

module _ (A : Automaton) where
  pub reaches_by : (n p q : ℕ) → Chain (MovesAlong A Forward) n p q → Reaches A p q
  reaches_by zero p q e = ([], false, (e, refl))
  reaches_by (suc n) p q (r, (a, move), rest) = let (w, flag, run) = reaches_by n r q rest in (a ∷ w, is_accepting A r || flag, (r, flag, move, run, refl))

  pub moves_of_run : (p : ℕ) (w : List ℕ) (q : ℕ) (flag : Bool) → Run A p w q flag → Close (MovesAlong A Forward) p q
  moves_of_run p [] q flag (e, f) = (zero, e)
  moves_of_run p (a ∷ w) q flag (next, later, move, rest, is) = let (n, way) = moves_of_run next w q later rest in (suc n, (next, (a, move), way))

  pub ahead_from_back : (n p q : ℕ) → Chain (MovesAlong A Backward) n p q → Close (MovesAlong A Forward) q p
  ahead_from_back zero p q e = (zero, sym e)
  ahead_from_back (suc n) p q (r, (a, move), rest) = close_trans (MovesAlong A Forward) q r p (ahead_from_back n r q rest) (close_one (MovesAlong A Forward) r p (a, move))

  pub back_from_ahead : (n p q : ℕ) → Chain (MovesAlong A Forward) n p q → Close (MovesAlong A Backward) q p
  back_from_ahead zero p q e = (zero, sym e)
  back_from_ahead (suc n) p q (r, (a, move), rest) = close_trans (MovesAlong A Backward) q r p (back_from_ahead n r q rest) (close_one (MovesAlong A Backward) r p (a, move))
