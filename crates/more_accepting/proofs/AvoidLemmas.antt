-- Cycles that avoid acceptance, and what is joined to them.
use Rattle.std.proofs.Common.{ℕ, zero, suc, ◌<◌, ◌||◌, inl, inr, Bool, false, List, [], ◌∷◌, ◌++◌, refl, sym, arith}
use Rattle.auto_core.specs.Automaton.{Automaton, IsAutomaton, Moves, IsAccepting, is_accepting}
use Rattle.auto_core.specs.Game.{Chain, Close}
use Rattle.auto_core.specs.Run.{Run}
use Rattle.auto_core.specs.Useful.{Reaches, IsOnCycle}
use Rattle.auto_core.proofs.MoveLemmas.{move_in_range}
use Rattle.auto_core.proofs.PathLemmas.{run_join}
use Rattle.useful_states.specs.declared.direction.Direction.TheVariants.{Forward}
use Rattle.useful_states.specs.declared.gathering.Gathered.{Gathered}
use Rattle.useful_states.specs.Gathering.{IsReachedFrom, HasGained, HoldsJust}
use Rattle.useful_states.proofs.GatherLemmas.{held_and}
use Rattle.useful_states.proofs.RunLemmas.{reaches_by, moves_of_run}
use Rattle.useful_states.proofs.UsefulLemmas.{accepting_below}
use Rattle.more_accepting.specs.More.{MovesBeside, AvoidsAcceptance, AreJoined, AcceptsMore}
use Rattle.more_accepting.specs.Making.{IsBeside, IsInside, IsJoinedToAvoiding}

-- ---- what reaches what

module _ (A : Automaton) where
  pub reaches_itself : (p : ℕ) → Reaches A p p
  reaches_itself p = ([], false, (refl, refl))

  pub reaches_next : (p a q : ℕ) → Moves A p a q → Reaches A p q
  reaches_next p a q move = (a ∷ [], is_accepting A q || false, (q, false, move, (refl, refl), refl))

  pub reaches_on : (p q r : ℕ) → Reaches A p q → Reaches A q r → Reaches A p r
  reaches_on p q r (w, flag, one) (x, more, two) = (w ++ x, flag || more, run_join A p w q flag x r more one two)

  pub joined_on : (p q r : ℕ) → AreJoined A p q → AreJoined A q r → AreJoined A p r
  joined_on p q r h k = (reaches_on p q r h.0 k.0, reaches_on r q p k.1 h.1)

  pub reaches_beside : (n p q : ℕ) → Chain (MovesBeside A) n p q → Reaches A p q
  reaches_beside zero p q e = ([], false, (e, refl))
  reaches_beside (suc n) p q (r, (a, move, not_p, not_r), rest) = reaches_on p r q (reaches_next p a r move) (reaches_beside n r q rest)

  pub avoiding_below : IsAutomaton A → (p : ℕ) → AvoidsAcceptance A p → p < A.states
  avoiding_below valid p (q, (a, move, not_p, not_q), way) = (move_in_range A valid p a q move).0

-- ---- cycles of moves between states that do not accept

module _ (A B : Automaton) (beside : IsBeside A B) where
  moves_to : (p : ℕ) (w : List ℕ) (q : ℕ) (flag : Bool) → Run B p w q flag → Close (MovesBeside A) p q
  moves_to p [] q flag (e, is) = (zero, e)
  moves_to p (a ∷ w) q flag (next, later, move, rest, is) = let (n, way) = moves_to next w q later rest in let (m, x, y) = (beside.moves p a next).0 move in (suc n, (next, (a, m, x, y), way))

  moves_from : (n p q : ℕ) → Chain (MovesBeside A) n p q → Reaches B p q
  moves_from zero p q e = ([], false, (e, refl))
  moves_from (suc n) p q (r, (a, move, x, y), rest) = let (w, flag, run) = moves_from n r q rest in (a ∷ w, is_accepting B r || flag, (r, flag, (beside.moves p a r).1 (move, x, y), run, refl))

  pub cycle_avoids : (p : ℕ) → IsOnCycle B p → AvoidsAcceptance A p
  cycle_avoids p ([], flag, some, run) = absurd (omega (arith, some))
  cycle_avoids p (a ∷ w, flag, some, (next, later, move, rest, is)) = let (m, x, y) = (beside.moves p a next).0 move in (next, (a, m, x, y), moves_to next w p later rest)

  pub avoids_on_cycle : (p : ℕ) → AvoidsAcceptance A p → IsOnCycle B p
  avoids_on_cycle p (q, (a, move, x, y), (n, way)) =
      let (w, flag, run) = moves_from n q p way in
      (a ∷ w, is_accepting B q || flag, omega arith, (q, flag, (beside.moves p a q).1 (move, x, y), run, refl))

-- ---- components

module _ (A B : Automaton) (inside : IsInside A B) where
  inside_joined : (p : ℕ) (w : List ℕ) (q : ℕ) (flag : Bool) → Run B p w q flag → AreJoined A p q
  inside_joined p [] q flag (e, is) = (([], false, (e, refl)), ([], false, (sym e, refl)))
  inside_joined p (a ∷ w) q flag (next, later, move, rest, is) = joined_on A p next q ((inside.moves p a next).0 move).1 (inside_joined next w q later rest)

  joined_inside : (p : ℕ) (w : List ℕ) (q : ℕ) (flag : Bool) → Run A p w q flag → Reaches A q p → Reaches B p q
  joined_inside p [] q flag (e, is) back = ([], false, (e, refl))
  joined_inside p (a ∷ w) q flag (next, later, move, rest, is) back =
      let one = reaches_next A p a next move in
      let on = reaches_on A next q p (w, later, rest) back in
      let (x, more, run) = joined_inside next w q later rest (reaches_on A q p next back one) in
      (a ∷ x, is_accepting B next || more, (next, more, (inside.moves p a next).1 (move, (one, on)), run, refl))

  -- What the moves within components reach from the states that avoid acceptance.
  pub joined_gathered : (old new : Gathered) → HoldsJust A.states (AvoidsAcceptance A) old → HasGained (IsReachedFrom B Forward old.set.members) old new → HoldsJust A.states (IsJoinedToAvoiding A) new
  joined_gathered old new held gained = held_and (AvoidsAcceptance A) (IsReachedFrom B Forward old.set.members) (IsJoinedToAvoiding A) A.states old new held gained (λ q. (
    λ (p, (to, (w, flag, from)), avoids).
        let (x, more, run) = joined_inside p w q flag from to in
        inr (p, (held.members p).1 avoids, moves_of_run B p x q more run),
    λ h. elim h [
      | inl avoids ↦ (q, (reaches_itself A q, reaches_itself A q), avoids)
      | inr (p, there, way) ↦
          let (w, flag, run) = reaches_by B way.0 p q way.1 in
          let joined = inside_joined p w q flag run in
          (p, (joined.1, joined.0), (held.members p).0 there)
    ],
  ))

-- ---- what accepts

pub accepts_if_not_joined : (A : Automaton) (p : ℕ) → p < A.states → (IsJoinedToAvoiding A p → ⊥) → AcceptsMore A p
accepts_if_not_joined A p p_in apart = inr (p_in, λ q joined avoids. apart (q, joined, avoids))

pub joined_accepts_not : (A : Automaton) (p : ℕ) → (IsAccepting A p → ⊥) → IsJoinedToAvoiding A p → AcceptsMore A p → ⊥
joined_accepts_not A p not_p (q, joined, avoids) h = elim h [ inl acc ↦ not_p acc | inr (p_in, all) ↦ all q joined avoids ]

pub accepting_below_more : (A : Automaton) → IsAutomaton A → (p : ℕ) → AcceptsMore A p → p < A.states
accepting_below_more A valid p h = elim h [ inl acc ↦ accepting_below A valid p acc | inr (p_in, all) ↦ p_in ]
