-- How many supergraphs, and how many pairs of a state and a set, two automata have at most.
use Rattle.std.specs.Prelude.{ℕ, ◌*◌, ◌^◌, ◌<◌, ◌≤◌, List, length}
use Rattle.auto_core.specs.Automaton.{Automaton, IsAutomaton}
use Rattle.auto_core.specs.Graph.{WordArc, IsReal, arc_at, super_of}
use Rattle.auto_core.specs.Outcome.{AreListed, SameSupergraph}
use Rattle.auto_core.specs.Pairs.{IsReached, pair_of}
use Rattle.auto_core.specs.PairOutcome.{ArePairsListed, SamePair}
use Rattle.auto_core.specs.declared.parts.Origin.{Origin}

-- So many different supergraphs can there be for automata with a and b states: two states of the
-- first with a flag, and one of three values for each pair of states of the second.
abbrev pub supergraph_bound : ℕ → ℕ → ℕ
supergraph_bound a b = 2 * (a * a) * 3 ^ (b * b)

-- So many different pairs of a state and a set can there be for them: a state of the first, and a
-- set of states of the second.
abbrev pub pair_bound : ℕ → ℕ → ℕ
pair_bound a b = a * 2 ^ b

-- The arcs are those of runs, and their supergraphs are pairwise different.
pub record AreDifferentSupergraphs (A B : Automaton) (arcs : List WordArc) : Type 0 where
  pub real : (e : ℕ) → e < length arcs → IsReal A (arc_at A arcs e)
  pub differ : (i j : ℕ) → i < j → j < length arcs
      → SameSupergraph (super_of B (arc_at A arcs i)) (super_of B (arc_at A arcs j)) → ⊥

-- The arcs are those of runs from the initial state, and their pairs of a state and a set are
-- pairwise different.
pub record AreDifferentPairs (A B : Automaton) (arcs : List WordArc) : Type 0 where
  pub reached : (e : ℕ) → e < length arcs → IsReached A (arc_at A arcs e)
  pub differ : (i j : ℕ) → i < j → j < length arcs
      → SamePair (pair_of B (arc_at A arcs i)) (pair_of B (arc_at A arcs j)) → ⊥

-- For automata with at most a and b states, pairwise different supergraphs are no more than that
-- bound.
abbrev pub SupergraphsAreFew : Type 0
SupergraphsAreFew =
    (A B : Automaton) (a b : ℕ) (arcs : List WordArc) → IsAutomaton A → IsAutomaton B → A.states ≤ a
    → B.states ≤ b →
    AreDifferentSupergraphs A B arcs → length arcs ≤ supergraph_bound a b

-- For them, pairwise different pairs of a state and a set are no more than the bound on pairs.
abbrev pub PairsAreFew : Type 0
PairsAreFew =
    (A B : Automaton) (a b : ℕ) (arcs : List WordArc) → IsAutomaton A → IsAutomaton B → A.states ≤ a
    → B.states ≤ b →
    AreDifferentPairs A B arcs → length arcs ≤ pair_bound a b

-- So are the origins of a list of different supergraphs.
abbrev pub ListedSupergraphsAreFew : Type 0
ListedSupergraphsAreFew =
    (A B : Automaton) (a b count : ℕ) (origins : List Origin) → IsAutomaton A → IsAutomaton B
    → A.states ≤ a → B.states ≤ b →
    AreListed A B count origins → count ≤ supergraph_bound a b

-- So are the origins of a list of different pairs.
abbrev pub ListedPairsAreFew : Type 0
ListedPairsAreFew =
    (A B : Automaton) (a b count : ℕ) (origins : List Origin) → IsAutomaton A → IsAutomaton B
    → A.states ≤ a → B.states ≤ b →
    ArePairsListed A B count origins → count ≤ pair_bound a b

-- Neither bound falls where the numbers of states grow.
abbrev pub BoundsRise : Type 0
BoundsRise =
    (a b c d : ℕ) → a ≤ c → b ≤ d
    → (supergraph_bound a b ≤ supergraph_bound c d) × (pair_bound a b ≤ pair_bound c d)
