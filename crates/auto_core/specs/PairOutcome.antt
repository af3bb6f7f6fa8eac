-- The search on finite words, as one of the searches of `Outcome`: over pairs of a state of A and a
-- set of states of B.
use Rattle.std.specs.Prelude.{◌≡◌, ℕ, ◌<◌, ◌↔◌, List, [], ◌∷◌, length, map}
use Rattle.auto_core.specs.Automaton.{Automaton}
use Rattle.auto_core.specs.Game.{Holds}
use Rattle.auto_core.specs.Graph.{start_arc, arc_at, arcs_of}
use Rattle.auto_core.specs.Outcome.{Rules, Outcome, ComesOut, Entry, next_entry, steps_out}
use Rattle.auto_core.specs.Pairs.{StatePair, PairSubsumes, PairPasses, PairFails, pair_of, ArePairsPlaced}
use Rattle.auto_core.specs.declared.parts.Origin.{Origin}
use Rattle.auto_core.specs.declared.parts.Origin.TheVariants.{Start}

-- The pair of the element: the state that it leads to, and its whole word's set.
abbrev pub pair_entry : Automaton → Entry → StatePair
pair_entry B x = pair_of B x.arc

-- The first candidate: the initial state with the empty word.
abbrev pub start_entry : Automaton → Entry
start_entry A = record { origin = Start; arc = start_arc A }

-- The search for a closed set of pairs of A and B, ordered by S: it begins with the empty word,
-- extends an element by each transition out of its state, and tests each element by itself alone,
-- which is the pair of the element with itself.
abbrev pub pair_rules : Automaton → Automaton → List (ℕ × ℕ) → Rules Entry
pair_rules A B S = record {
  subsumes = λ x y. PairSubsumes (Holds S) (pair_entry B x) (pair_entry B y);
  passes = λ x y. x ≡ y → PairPasses A B (pair_entry B x);
  fails = λ x y. (x ≡ y) × PairFails A B (pair_entry B x);
  starts = start_entry A ∷ [];
  extensions = λ e x. map (next_entry A e x) (steps_out A x.arc.to);
}

-- The search over pairs with this limit ends so.
abbrev pub PairSearchEnds : Automaton → Automaton → List (ℕ × ℕ) → ℕ → Outcome Entry → Type 0
PairSearchEnds A B S limit o = ComesOut (pair_rules A B S) limit o

-- Both pairs have the same state and the same members.
pub record SamePair (x y : StatePair) : Type 0 where
  pub state : x.state ≡ y.state
  pub members : (q : ℕ) → x.set q ↔ y.set q

-- The pair of the origin at the place: the state that its transitions lead to, with the set of
-- their word.
abbrev pub pair_at : Automaton → Automaton → List Origin → ℕ → StatePair
pair_at A B origins e = pair_of B (arc_at A (arcs_of A origins) e)

-- The origins are so many, each is the empty word's or names a transition and an earlier one that
-- fit, and their pairs are pairwise different.
pub record ArePairsListed (A B : Automaton) (count : ℕ) (origins : List Origin) : Type 0 where
  pub size : length origins ≡ count
  pub placed : ArePairsPlaced A origins
  pub differ : (i j : ℕ) → i < j → j < length origins
      → SamePair (pair_at A B origins i) (pair_at A B origins j) → ⊥

-- No origin's pair is subsumed by that of an earlier one.
abbrev pub NoPairSubsumedBefore : Automaton → Automaton → List (ℕ × ℕ) → List Origin → Type 0
NoPairSubsumedBefore A B S origins =
    (i j : ℕ) → i < j → j < length origins
    → PairSubsumes (Holds S) (pair_at A B origins i) (pair_at A B origins j) → ⊥
