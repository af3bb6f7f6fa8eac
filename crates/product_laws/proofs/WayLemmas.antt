-- Ways of pairs, move by move: for a search that reads words off the moves that it has followed.
use Rattle.std.proofs.Common.{◌≡◌, ℕ, false, ◌||◌, List, [], ◌∷◌, ◌++◌, refl, ap, subst}
use Rattle.std.proofs.lemmas.Bool.{or_right, or_left}
use Rattle.auto_core.specs.Automaton.{Automaton, Moves, IsAccepting, is_accepting}
use Rattle.auto_core.specs.Run.{Run}
use Rattle.auto_core.proofs.PathLemmas.{run_join, test_from_accepting}
use Rattle.product_laws.specs.Reached.{GoesTo, Goes, LeadsTo, IsBadCycle, IsQuietWay, IsQuietMove}
use Rattle.product_laws.proofs.GoesLemmas.{goes_join}

one_move : (A : Automaton) (p a r : ℕ) → Moves A p a r → Run A p (a ∷ []) r (is_accepting A r || false)
one_move A p a r move = (r, false, move, (refl, refl), refl)

one_goes : (B : Automaton) (q a s : ℕ) → GoesTo B q a s → Goes B q (a ∷ []) s (is_accepting B s || false)
one_goes B q a s goes = (s, false, goes, (refl, refl), refl)

quiet_goes : (B : Automaton) (q a s : ℕ) → GoesTo B q a s → is_accepting B s ≡ false → Goes B q (a ∷ []) s false
quiet_goes B q a s goes plain = subst (λ b. Goes B q (a ∷ []) s b) (ap (λ b. b || false) plain) (one_goes B q a s goes)

-- The pair of the initial states is reached by the empty word.
pub leads_nowhere : (A B : Automaton) → LeadsTo A B [] A.initial B.initial
leads_nowhere A B = (false, false, (refl, refl), (refl, refl))

-- A word to a pair goes on by a move.
pub leads_on : (A B : Automaton) (w : List ℕ) (p q a r s : ℕ) → LeadsTo A B w p q → Moves A p a r → GoesTo B q a s → LeadsTo A B (w ++ a ∷ []) r s
leads_on A B w p q a r s (left, right, run, way) move goes = (
  left || (is_accepting A r || false),
  right || (is_accepting B s || false),
  run_join A A.initial w p left (a ∷ []) r (is_accepting A r || false) run (one_move A p a r move),
  goes_join B B.initial w q right (a ∷ []) s (is_accepting B s || false) way (one_goes B q a s goes),
)

pub quiet_nowhere : (A B : Automaton) (p q : ℕ) → IsQuietWay A B p q [] p q
quiet_nowhere A B p q = (false, (refl, refl), (refl, refl))

-- A quiet way goes on by a quiet move.
pub quiet_on : (A B : Automaton) (p q : ℕ) (w : List ℕ) (r s a t u : ℕ) → IsQuietWay A B p q w r s → IsQuietMove A B r s a t u → IsQuietWay A B p q (w ++ a ∷ []) t u
quiet_on A B p q w r s a t u (flag, run, way) (move, goes, plain) = (
  flag || (is_accepting A t || false),
  run_join A p w r flag (a ∷ []) t (is_accepting A t || false) run (one_move A r a t move),
  goes_join B q w s false (a ∷ []) u false way (quiet_goes B s a u goes plain),
)

-- A quiet way from a pair whose left state accepts, and a quiet move back to it, are a bad cycle.
pub bad_cycle : (A B : Automaton) (p q : ℕ) (w : List ℕ) (r s a : ℕ) → IsQuietWay A B p q w r s → IsQuietMove A B r s a p q → IsAccepting A p → IsBadCycle A B p q (w ++ a ∷ [])
bad_cycle A B p q w r s a (flag, run, way) (move, goes, plain) accepts = (
  subst (λ b. Run A p (w ++ a ∷ []) p b) (or_right flag (is_accepting A p || false) (or_left (is_accepting A p) false (test_from_accepting A p accepts)))
      (run_join A p w r flag (a ∷ []) p (is_accepting A p || false) run (one_move A r a p move)),
  goes_join B q w s false (a ∷ []) q false way (quiet_goes B s a q goes plain),
)
