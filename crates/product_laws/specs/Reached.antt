-- Pairs that a word leads to: a state of A, and the state that a deterministic B is then in, or
-- none.
use Rattle.std.specs.Prelude.{◌≡◌, ℕ, ◌⊎◌, Bool, true, false, ◌||◌, List, [], ◌∷◌}
use Rattle.auto_core.specs.Automaton.{Automaton, Moves, is_accepting}
use Rattle.auto_core.specs.Run.{Run}
use Rattle.auto_core.specs.Useful.{Reaches, IsGoal}
use Rattle.auto_core.specs.declared.parts.Mode.TheVariants.{Buchi}

-- B has no move from q by the letter a.
abbrev pub HasNoMove : Automaton → ℕ → ℕ → Type 0
HasNoMove B q a = (t : ℕ) → Moves B q a t → ⊥

-- B goes from q by the letter a to s. Where it has no move it goes to no state, whose number is the
-- number of its states.
abbrev pub GoesTo : Automaton → ℕ → ℕ → ℕ → Type 0
GoesTo B q a s = Moves B q a s ⊎ ((s ≡ B.states) × HasNoMove B q a)

-- B goes from q on the word to s, maybe no state; the flag tells whether a state after the first is
-- accepting.
abbrev pub Goes : Automaton → ℕ → List ℕ → ℕ → Bool → Type 0
Goes B q [] s flag = (q ≡ s) × (flag ≡ false)
Goes B q (a ∷ w) s flag =
    (next : ℕ) × (later : Bool) × GoesTo B q a next × Goes B next w s later
    × (flag ≡ (is_accepting B next || later))

-- On the word A runs from p to r and B goes from q to s.
abbrev pub BothGo : Automaton → Automaton → ℕ → ℕ → List ℕ → ℕ → ℕ → Type 0
BothGo A B p q w r s = (left right : Bool) × Run A p w r left × Goes B q w s right

-- The word leads from the initial states to the pair.
abbrev pub LeadsTo : Automaton → Automaton → List ℕ → ℕ → ℕ → Type 0
LeadsTo A B w p q = BothGo A B A.initial B.initial w p q

-- The pair is reached.
abbrev pub IsReachedPair : Automaton → Automaton → ℕ → ℕ → Type 0
IsReachedPair A B p q = (w : List ℕ) × LeadsTo A B w p q

-- The word leads from the pair back to it, past an accepting state of A and none of B.
abbrev pub IsBadCycle : Automaton → Automaton → ℕ → ℕ → List ℕ → Type 0
IsBadCycle A B p q v = Run A p v p true × Goes B q v q false

-- The state reaches an accepting state that lies on a cycle.
abbrev pub ReachesGoal : Automaton → ℕ → Type 0
ReachesGoal A p = (goal : ℕ) × Reaches A p goal × IsGoal A Buchi goal

-- Each move leads to a state that reaches an accepting state on a cycle. An automaton that is
-- trimmed is so.
abbrev pub MovesReachGoals : Automaton → Type 0
MovesReachGoals A = (p a q : ℕ) → Moves A p a q → ReachesGoal A q

-- On the word A runs from p to r and B goes from q to s past no accepting state.
abbrev pub IsQuietWay : Automaton → Automaton → ℕ → ℕ → List ℕ → ℕ → ℕ → Type 0
IsQuietWay A B p q w r s = (flag : Bool) × Run A p w r flag × Goes B q w s false

-- A moves from p by the letter a to r, and B goes from q to s, which does not accept.
abbrev pub IsQuietMove : Automaton → Automaton → ℕ → ℕ → ℕ → ℕ → ℕ → Type 0
IsQuietMove A B p q a r s = Moves A p a r × GoesTo B q a s × (is_accepting B s ≡ false)
