-- The moves of a trimmed automaton lead to goals.
use Rattle.std.proofs.Common.{ℕ, ◌||◌, false, Bool, List, [], ◌∷◌, ◌++◌, Contains, refl, sym, ap, subst}
use Rattle.auto_core.specs.Automaton.{Automaton, Moves, is_accepting}
use Rattle.auto_core.specs.Run.{Run}
use Rattle.auto_core.specs.Useful.{Reaches, IsUseful, new_number, IsKeptPart}
use Rattle.auto_core.specs.declared.parts.Mode.TheVariants.{Buchi}
use Rattle.auto_core.proofs.PathLemmas.{run_join}
use Rattle.product_search.specs.Laws.{TrimmedReachGoals}

goes_on : (A : Automaton) (p a q r : ℕ) → Moves A p a q → Reaches A q r → Reaches A p r
goes_on A p a q r move (w, flag, run) = (a ∷ w, is_accepting A q || flag, (q, flag, move, run, refl))

comes_from : (A : Automaton) (p q a r : ℕ) → Reaches A p q → Moves A q a r → Reaches A p r
comes_from A p q a r (w, flag, run) move =
    (w ++ a ∷ [], flag || (is_accepting A r || false), run_join A p w q flag (a ∷ []) r (is_accepting A r || false) run (r, false, move, (refl, refl), refl))

module _ (A B : Automaton) (kept : List ℕ) (part : IsKeptPart A kept B) (g : ℕ) (has : (q : ℕ) → Reaches A A.initial q → Reaches A q g → Contains kept q) where
  -- A run through states that are kept is one among the new numbers.
  run_stays : (p : ℕ) (w : List ℕ) (q : ℕ) (flag : Bool) → Reaches A A.initial p → Reaches A q g → Run A p w q flag → (other : Bool) × Run B (new_number A kept p) w (new_number A kept q) other
  run_stays p [] q flag from to (is, plain) = (false, (ap (new_number A kept) is, refl))
  run_stays p (a ∷ w) q flag from to (next, later, move, rest, is) =
      let on : Reaches A A.initial next = comes_from A A.initial p a next from move in
      let more = run_stays next w q later on to rest in
      let ahead : Reaches A next g = goes_far next w q later rest to in
      let here : Contains kept p = has p from (goes_on A p a next g move ahead) in (
        is_accepting B (new_number A kept next) || more.0,
        (new_number A kept next, more.0, (part.moves (new_number A kept p) a (new_number A kept next)).1 (p, next, here, has next on ahead, move, refl, refl), more.1, refl),
      )
    where
      goes_far : (p : ℕ) (w : List ℕ) (q : ℕ) (flag : Bool) → Run A p w q flag → Reaches A q g → Reaches A p g
      goes_far p w q flag run (x, f, ahead) = (w ++ x, flag || f, run_join A p w q flag x g f run ahead)

pub trimmed_reach_goals : TrimmedReachGoals
trimmed_reach_goals A B (kept, are, part) p a q move =
    let (r, s, r_kept, s_kept, step, r_is, s_is) = (part.moves p a q).0 move in
    let useful : IsUseful A Buchi s = (are s).0 s_kept in
    let g : ℕ = useful.goal in
    let has : (t : ℕ) → Reaches A A.initial t → Reaches A t g → Contains kept t = λ t from there. (are t).1 (record { reached = from; goal = g; reaches = there; is_goal = useful.is_goal }) in
    let (accepts, (v, flag, some, round)) = useful.is_goal in
    let (x, f, ahead) = useful.reaches in
    let itself : Reaches A g g = ([], false, (refl, refl)) in
    let (w, h, enters) = useful.reached in
    let from : Reaches A A.initial g = (w ++ x, h || f, run_join A A.initial w s h x g f enters ahead) in
    let g_kept : Contains kept g = has g from itself in
    let way = run_stays A B kept part g has s x g f useful.reached itself ahead in
    let cycle = run_stays A B kept part g has g v g flag from itself round in
    let n : ℕ = new_number A kept g in (
      n,
      (x, way.0, subst (λ m. Run B m x n way.0) (sym s_is) way.1),
      ((part.accepting n).1 (g, g_kept, accepts, refl), (v, cycle.0, some, cycle.1)),
    )
