-- The laws of graphs and of subsuming.
use Rattle.std.specs.Prelude.{ℕ, Bool, List, [], ◌∷◌, ◌++◌}
use Rattle.auto_core.specs.Automaton.{Automaton}
use Rattle.auto_core.specs.Game.{Close, Holds, StableForward}
use Rattle.auto_core.specs.Graph.{SameGraph, graph_of, letter_graph, extended, graph_of_values, Supergraph, extension_of, Subsumes}
use Rattle.auto_core.specs.declared.parts.Trans.{Trans}

-- The graph of one letter is given by its moves.
abbrev pub GraphsOfLetters : Type 0
GraphsOfLetters = (B : Automaton) (a : ℕ) → SameGraph (graph_of B (a ∷ [])) (letter_graph B a)

-- The graph of a word with one letter more is the word's graph, extended by the letter.
abbrev pub GraphsExtend : Type 0
GraphsExtend =
    (B : Automaton) (w : List ℕ) (a : ℕ)
    → SameGraph (graph_of B (w ++ a ∷ [])) (extended B (graph_of B w) a)

-- An arc with any graph: the one that gives each pair of states the value that the function does.
abbrev pub valued : ℕ → ℕ → Bool → (ℕ → ℕ → ℕ) → Supergraph
valued p q flag value = record { from = p; to = q; flag = flag; graph = graph_of_values value }

-- Where one supergraph subsumes another, it does so after both are extended by the same transition.
abbrev pub IsKeptByExtension : Automaton → Automaton → (ℕ → ℕ → Type 0) → Type 0
IsKeptByExtension A B W = (p q r s : ℕ) (e f : Bool) (v w : ℕ → ℕ → ℕ) (t : Trans) →
    Subsumes W (valued p q e v) (valued r s f w) →
    Subsumes W (extension_of A B (valued p q e v) t) (extension_of A B (valued r s f w) t)

-- Subsuming by a list that is stable forward at lookahead 1 is kept by extension, and subsuming by
-- its closure too.
abbrev pub SubsumptionIsKept : Type 0
SubsumptionIsKept =
    (A B : Automaton) (S : List (ℕ × ℕ)) → StableForward B 1 S
    → IsKeptByExtension A B (Holds S) × IsKeptByExtension A B (Close (Holds S))

-- Subsuming by the closure of S is reflexive and transitive, and holds where S subsumes.
pub record IsOrderOver (S : List (ℕ × ℕ)) : Type 0 where
  pub reflexive : (p q : ℕ) (e : Bool) (v : ℕ → ℕ → ℕ)
      → Subsumes (Close (Holds S)) (valued p q e v) (valued p q e v)
  pub transitive : (p q r s m n : ℕ) (e f d : Bool) (v w x : ℕ → ℕ → ℕ) →
      Subsumes (Close (Holds S)) (valued p q e v) (valued r s f w) →
      Subsumes (Close (Holds S)) (valued r s f w) (valued m n d x) →
      Subsumes (Close (Holds S)) (valued p q e v) (valued m n d x)
  pub holds : (p q r s : ℕ) (e f : Bool) (v w : ℕ → ℕ → ℕ) →
      Subsumes (Holds S) (valued p q e v) (valued r s f w) →
      Subsumes (Close (Holds S)) (valued p q e v) (valued r s f w)

-- That is so for each list.
abbrev pub SubsumptionIsAnOrder : Type 0
SubsumptionIsAnOrder = (S : List (ℕ × ℕ)) → IsOrderOver S
