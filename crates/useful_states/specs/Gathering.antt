-- States that are gathered along moves.
use Rattle.std.specs.Prelude.{◌≡◌, ℕ, ◌<◌, ◌⊎◌, ◌↔◌, List, length, Contains}
use Rattle.auto_core.specs.Automaton.{Automaton, Moves}
use Rattle.auto_core.specs.Game.{BackwardMoves, Close}
use Rattle.strong_components.specs.Graph.{at}
use Rattle.strong_components.specs.Steps.{Begins}
use Rattle.useful_states.specs.declared.direction.Direction.{Direction}
use Rattle.useful_states.specs.declared.direction.Direction.TheVariants.{Forward, Backward}
use Rattle.useful_states.specs.declared.gathering.Gathered.{Gathered}

-- One move leads from p to q; backward, from q to p.
abbrev pub MovesAlong : Automaton → Direction → ℕ → ℕ → Type 0
MovesAlong A Forward p q = (a : ℕ) × Moves A p a q
MovesAlong A Backward p q = (a : ℕ) × BackwardMoves A p a q

-- From one of the states any number of moves lead to q.
abbrev pub IsReachedFrom : Automaton → Direction → List ℕ → ℕ → Type 0
IsReachedFrom A direction states q =
    (p : ℕ) × Contains states p × Close (MovesAlong A direction) p q

-- The list has just the members of the set, each once.
pub record ListsMembers (g : Gathered) : Type 0 where
  pub below : (i : ℕ) → i < length g.list.items → at g.list.items i < g.set.states
  pub sound : (i : ℕ) → i < length g.list.items → Contains g.set.members (at g.list.items i)
  pub full : (q : ℕ) → Contains g.set.members q
      → (i : ℕ) × (i < length g.list.items) × (at g.list.items i ≡ q)
  pub different : (i j : ℕ) → i < j → j < length g.list.items
      → at g.list.items i ≡ at g.list.items j → ⊥

-- Just the states of P have been added.
pub record HasGained (P : ℕ → Type 0) (old new : Gathered) : Type 0 where
  pub listed : ListsMembers new
  pub states : new.set.states ≡ old.set.states
  pub members : (q : ℕ) → Contains new.set.members q ↔ (Contains old.set.members q ⊎ P q)
  pub begins : Begins old.list.items new.list.items

-- Of so many states just those of P are there.
pub record HoldsJust (states : ℕ) (P : ℕ → Type 0) (g : Gathered) : Type 0 where
  pub listed : ListsMembers g
  pub size : g.set.states ≡ states
  pub members : (q : ℕ) → Contains g.set.members q ↔ P q
