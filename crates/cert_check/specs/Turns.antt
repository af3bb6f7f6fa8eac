-- The turns of a certificate, by the states that they are at and by their graphs, and what is
-- remembered of the tests of pairs.
use Rattle.std.specs.Prelude.{◌≡◌, ℕ, ◌<◌, ◌⊎◌, true, List, [], ◌∷◌, ◌++◌, length, Contains, Vec}
use Rattle.std.specs.declared.alloc.Global.{Global}
use Rattle.std.specs.BTreeSet.{BTreeSet}
use Rattle.auto_core.specs.Automaton.{Automaton}
use Rattle.auto_core.specs.Graph.{LassoIn}
use Rattle.graph_rows.specs.Block.{block_graph}
use Rattle.shared_graphs.specs.Graphs.{block_at}
use Rattle.shared_graphs.specs.Looping.{IsLoopRow}
use Rattle.evidence.specs.Tables.{numbers_at}
use Rattle.cert_value.specs.declared.types.YesBody.{YesBody}
use Rattle.cert_check.specs.Inclusion.{live_in}
use Rattle.cert_check.specs.Supers.{held_arc, held_number, Key, HasKey}
use Rattle.cert_check.specs.declared.elements.Supers.{Supers}
use Rattle.cert_check.specs.declared.pairs.Tests.{Tests}

-- The element is live and leads from its state back to it, past an accepting state.
pub record IsTurn (evidence : YesBody) (supers : Supers) (e : ℕ) : Type 0 where
  pub is : e < length evidence.elements
  pub live : live_in evidence e ≡ true
  pub returns : (held_arc supers e).from ≡ (held_arc supers e).to
  pub flagged : (held_arc supers e).accepting ≡ true

-- The graph with the number g is that of a turn at the state p, one of the first n elements.
pub record IsTurnAt (evidence : YesBody) (supers : Supers) (n p g : ℕ) : Type 0 where
  pub element : ℕ
  pub before : element < n
  pub turn : IsTurn evidence supers element
  pub state : (held_arc supers element).from ≡ p
  pub graph : held_number supers element ≡ g

-- The table lists for each of the states just the graphs of the turns at it, of the first n
-- elements.
pub record AreTurns (evidence : YesBody) (supers : Supers) (n states : ℕ)
    (turns : List (Vec ℕ Global)) : Type 0 where
  pub count : length turns ≡ states
  pub only : (p g : ℕ) → Contains (numbers_at turns p) g → IsTurnAt evidence supers n p g
  pub all : (p g : ℕ) → IsTurnAt evidence supers n p g → Contains (numbers_at turns p) g

-- The number was added to the list at the place.
pub record HasAddedAt (old new : List (Vec ℕ Global)) (place number : ℕ) : Type 0 where
  pub size : length new ≡ length old
  pub here : numbers_at new place ≡ numbers_at old place ++ number ∷ []
  pub others : (k : ℕ) → (k ≡ place → ⊥) → numbers_at new k ≡ numbers_at old k

-- Each key that was seen is that of a state and a graph that is listed at it.
abbrev pub AreListedAtStates : BTreeSet Key → List (Vec ℕ Global) → Type 0
AreListedAtStates seen turns =
    (key : Key) (p g : ℕ) → HasKey seen key → key ≡ p ∷ g ∷ [] → Contains (numbers_at turns p) g

-- The graph has a lasso with each of the others, from the second automaton's initial state.
abbrev pub HasLassos : Automaton → List (List ℕ) → ℕ → List ℕ → Type 0
HasLassos B graphs g others =
    (h : ℕ) → Contains others h
    → LassoIn (block_graph B.states (block_at graphs g))
    (block_graph B.states (block_at graphs h)) B.initial

-- The table has for each graph no row, or that of the states from which the graph has a loop.
abbrev pub AreLoops : ℕ → List (List ℕ) → List (Vec ℕ Global) → Type 0
AreLoops n graphs loops =
    (h : ℕ) → (numbers_at loops h ≡ [])
    ⊎ IsLoopRow n (block_graph n (block_at graphs h)) (numbers_at loops h)

-- What is remembered of tests is so: each key is that of a state and a graph that has a lasso with
-- each of those listed at the state. There is room for further tests.
pub record AreTests (B : Automaton) (graphs : List (List ℕ)) (turns : List (Vec ℕ Global))
    (tests : Tests) : Type 0 where
  pub passed : (key : Key) (p g : ℕ) → HasKey tests.passed key → key ≡ p ∷ g ∷ []
      → HasLassos B graphs g (numbers_at turns p)
  pub loops : AreLoops B.states graphs tests.loops.items
  pub size : length tests.loops.items ≡ length graphs
  pub room : tests.scratch ≡ B.states
