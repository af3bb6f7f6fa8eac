-- What a closed set tells, and the arcs of origins.
use Rattle.std.specs.Prelude.{◌≡◌, ℕ, ◌<◌, Bool, List, [], ◌∷◌, ◌++◌, length, slice_index_or}
use Rattle.auto_core.specs.Automaton.{Automaton, IsAutomaton}
use Rattle.auto_core.specs.Accept.{Includes, SeparatesLasso}
use Rattle.auto_core.specs.Graph.{Fails, WordArc, IsReal, super_of, arc_at, arcs_of, arc_of, ArePlaced}
use Rattle.auto_core.specs.Closed.{ClosedSet}
use Rattle.auto_core.specs.declared.parts.Mode.TheVariants.{Buchi}
use Rattle.auto_core.specs.declared.parts.Origin.{Origin}
use Rattle.auto_core.specs.declared.parts.Origin.TheVariants.{Start}

-- If there is a closed set, B accepts each lasso that A accepts. The list S need be neither
-- reflexive nor transitive.
abbrev pub ClosedSetIncludes : Type 0
ClosedSetIncludes =
    (A B : Automaton) (S : List (ℕ × ℕ)) (arcs : List WordArc) (live : ℕ → Bool) → IsAutomaton B
    → ClosedSet A B S arcs live → Includes A B Buchi

-- A pair of real arcs whose supergraphs fail has words that are a lasso which A accepts and B does
-- not.
abbrev pub FailingPairsSeparate : Type 0
FailingPairsSeparate =
    (A B : Automaton) (x y : WordArc) → IsReal A x → IsReal A y
    → Fails A B (super_of B x) (super_of B y) → SeparatesLasso A B x.word y.word

-- Origins have one arc each. Where they are placed, each arc is that of its origin; one more origin
-- adds its arc at the end.
pub record HaveArcs (A : Automaton) (origins : List Origin) : Type 0 where
  pub count : length (arcs_of A origins) ≡ length origins
  pub each : ArePlaced A origins → (e : ℕ) → e < length origins
      → arc_at A (arcs_of A origins) e
      ≡ arc_of A (arcs_of A origins) (slice_index_or origins e Start)
  pub more : (origin : Origin)
      → arcs_of A (origins ++ origin ∷ [])
      ≡ arcs_of A origins ++ arc_of A (arcs_of A origins) origin ∷ []

-- That is so for all origins.
abbrev pub OriginsHaveArcs : Type 0
OriginsHaveArcs = (A : Automaton) (origins : List Origin) → HaveArcs A origins

-- Each arc of origins that are placed is that of a run, and its word is not empty.
abbrev pub PlacedArcsAreReal : Type 0
PlacedArcsAreReal =
    (A : Automaton) (origins : List Origin) → ArePlaced A origins → (e : ℕ) → e < length origins
    → IsReal A (arc_at A (arcs_of A origins) e)
