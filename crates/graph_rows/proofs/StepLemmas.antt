-- A row of a graph extended by a letter: first by the states that are reached past an accepting one, then by all.
use Rattle.std.proofs.Common.{ℕ, ◌↔◌, ◌⊎◌, inl, inr, List}
use Rattle.auto_core.specs.Automaton.{Automaton}
use Rattle.auto_core.specs.Rows.{HasBit}
use Rattle.auto_core.specs.Reach.{HasArc}
use Rattle.auto_core.specs.Graph.{IsGraph, SameGraph, extended, graph_of_tables, letter_graph}
use Rattle.graph_rows.specs.Added.{FollowsFrom}

module _
    (A : Automaton) (joined past letter_joined letter_past marked reached : List ℕ) (w a row : ℕ)
    (within : IsGraph (graph_of_tables joined past A.states w))
    (letter : SameGraph (graph_of_tables letter_joined letter_past A.states w) (letter_graph A a))
    (marks : (m : ℕ) → HasBit marked m ↔ HasArc past A.states w row m)
    (arcs : (m : ℕ) → HasBit reached m ↔ HasArc joined A.states w row m) where
  -- what the marked states lead to, and what all do
  abbrev ByMarks : ℕ → Type 0
  ByMarks q = FollowsFrom (HasBit marked) (HasArc letter_joined A.states w) q

  pub joined_by_marks :
      (q : ℕ)
      → (extended A (graph_of_tables joined past A.states w) a).joined row q ↔ (ByMarks q ⊎ FollowsFrom (HasBit reached) (HasArc letter_joined A.states w) q)
  joined_by_marks q = (
    λ (m, arc, move). inr (m, (arcs m).1 arc, (letter.joined m q).1 move),
    λ either. elim either [
      | inl (m, bit, arc) ↦ (m, within row m ((marks m).0 bit), (letter.joined m q).0 arc)
      | inr (m, bit, arc) ↦ (m, (arcs m).0 bit, (letter.joined m q).0 arc)
    ],
  )

  pub past_by_marks :
      (q : ℕ)
      → (extended A (graph_of_tables joined past A.states w) a).past row q ↔ (ByMarks q ⊎ FollowsFrom (HasBit reached) (HasArc letter_past A.states w) q)
  past_by_marks q = (
    λ (m, move, way). elim way [
      | inl cell ↦ inl (m, (marks m).1 cell, (letter.joined m q).1 move)
      | inr (arc, acc) ↦ inr (m, (arcs m).1 arc, (letter.past m q).1 (move, acc))
    ],
    λ either. elim either [
      | inl (m, bit, arc) ↦ (m, (letter.joined m q).0 arc, inl ((marks m).0 bit))
      | inr (m, bit, arc) ↦ let both = (letter.past m q).0 arc in (m, both.0, inr ((arcs m).0 bit, both.1))
    ],
  )

  -- where all states that are reached are marked
  module _ (all : (m : ℕ) → HasBit reached m → HasBit marked m) where
    pub joined_within : (q : ℕ) → ByMarks q ↔ (extended A (graph_of_tables joined past A.states w) a).joined row q
    joined_within q = (
      λ by. (joined_by_marks q).1 (inl by),
      λ (m, arc, move). (m, all m ((arcs m).1 arc), (letter.joined m q).1 move),
    )

    pub past_within : (q : ℕ) → ByMarks q ↔ (extended A (graph_of_tables joined past A.states w) a).past row q
    past_within q = (
      λ by. (past_by_marks q).1 (inl by),
      λ (m, move, way). elim way [
        | inl cell ↦ (m, (marks m).1 cell, (letter.joined m q).1 move)
        | inr (arc, acc) ↦ (m, all m ((arcs m).1 arc), (letter.joined m q).1 move)
      ],
    )
