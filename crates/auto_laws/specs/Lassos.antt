-- The laws of the lasso test.
use Rattle.std.specs.Prelude.{ℕ, ◌↔◌, List}
use Rattle.auto_core.specs.Automaton.{Automaton, IsAutomaton}
use Rattle.auto_core.specs.Accept.{AcceptsLasso}
use Rattle.auto_core.specs.Game.{Close, Holds, StableForward}
use Rattle.auto_core.specs.Rows.{HasBit}
use Rattle.auto_core.specs.Reach.{HasArc, HasFlaggedCycle}
use Rattle.auto_core.specs.Graph.{IsGraph, graph_of, graph_of_values, graph_of_tables, Covers, LassoIn, ReachesLoop}

-- The test by the places of a walk is the one by reachability.
abbrev pub LassosAreReached : Type 0
LassosAreReached =
    (v w : ℕ → ℕ → ℕ) (i : ℕ)
    → LassoIn (graph_of_values v) (graph_of_values w) i
    ↔ ReachesLoop (graph_of_values v) (graph_of_values w) i

-- For tables: from the marks on what the first graph joins i to, a cycle of the second with an arc
-- of value 2 is reached.
abbrev pub LassosAreCycles : Type 0
LassosAreCycles = (first first_past second second_past marks : List ℕ) (n width i : ℕ) →
    IsGraph (graph_of_tables second second_past n width) →
    ((q : ℕ) → HasBit marks q ↔ HasArc first n width i q) →
    LassoIn (graph_of_tables first first_past n width) (graph_of_tables second second_past n width)
    i
    ↔ HasFlaggedCycle (HasArc second n width) (HasArc second_past n width) marks

-- The graphs of two words have a lasso from the initial state just where the automaton accepts the
-- lasso of the two words.
abbrev pub LassosAreAccepted : Type 0
LassosAreAccepted =
    (B : Automaton) (u v : List ℕ)
    → LassoIn (graph_of B u) (graph_of B v) B.initial ↔ AcceptsLasso B u v

-- A lasso goes from graphs to the words' graphs that they cover, by the closure of a list that is
-- stable forward at lookahead 1.
abbrev pub LassosReachWords : Type 0
LassosReachWords =
    (B : Automaton) (S : List (ℕ × ℕ)) → IsAutomaton B → StableForward B 1 S
    → (v w : ℕ → ℕ → ℕ) (x y : List ℕ) (i : ℕ) →
    Covers (Close (Holds S)) (graph_of_values v) (graph_of B x)
    → Covers (Close (Holds S)) (graph_of_values w) (graph_of B y) →
    LassoIn (graph_of_values v) (graph_of_values w) i → LassoIn (graph_of B x) (graph_of B y) i

-- And from words' graphs to any graphs that they cover.
abbrev pub LassosLeaveWords : Type 0
LassosLeaveWords =
    (B : Automaton) (S : List (ℕ × ℕ)) → IsAutomaton B → StableForward B 1 S
    → (x y : List ℕ) (v w : ℕ → ℕ → ℕ) (i : ℕ) →
    Covers (Close (Holds S)) (graph_of B x) (graph_of_values v)
    → Covers (Close (Holds S)) (graph_of B y) (graph_of_values w) →
    LassoIn (graph_of B x) (graph_of B y) i → LassoIn (graph_of_values v) (graph_of_values w) i

-- So graphs that cover words' graphs and are covered by them have a lasso from the initial state
-- just where the lasso of the words is accepted.
abbrev pub CoveredLassosAreAccepted : Type 0
CoveredLassosAreAccepted =
    (B : Automaton) (S : List (ℕ × ℕ)) → IsAutomaton B → StableForward B 1 S
    → (x y : List ℕ) (v w : ℕ → ℕ → ℕ) →
    Covers (Close (Holds S)) (graph_of_values v) (graph_of B x)
    → Covers (Close (Holds S)) (graph_of_values w) (graph_of B y) →
    Covers (Close (Holds S)) (graph_of B x) (graph_of_values v)
    → Covers (Close (Holds S)) (graph_of B y) (graph_of_values w) →
    LassoIn (graph_of_values v) (graph_of_values w) B.initial ↔ AcceptsLasso B x y
