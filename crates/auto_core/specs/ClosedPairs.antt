-- A closed set of pairs of a state and a set, given by arcs with words.
use Rattle.std.specs.Prelude.{◌≡◌, ℕ, ◌<◌, Bool, List, length}
use Rattle.auto_core.specs.Automaton.{Automaton, trans_at}
use Rattle.auto_core.specs.Game.{Holds, StableForward}
use Rattle.auto_core.specs.Graph.{WordArc, start_arc, extended_arc, arc_at}
use Rattle.auto_core.specs.Closed.{IsLive}
use Rattle.auto_core.specs.Pairs.{PairSubsumes, PairPasses, pair_of, IsReached}

-- The pair of the arc with this number subsumes the one of x.
abbrev pub PairSubsumesAt : Automaton → Automaton → List (ℕ × ℕ) → List WordArc → ℕ → WordArc
    → Type 0
PairSubsumesAt A B S arcs e x = PairSubsumes (Holds S) (pair_of B (arc_at A arcs e)) (pair_of B x)

-- The pair of a live arc of the list subsumes the one of x.
abbrev pub IsPairSubsumed : Automaton → Automaton → List (ℕ × ℕ) → List WordArc → (ℕ → Bool)
    → WordArc → Type 0
IsPairSubsumed A B S arcs live x = (e : ℕ) × IsLive arcs live e × PairSubsumesAt A B S arcs e x

-- The pairs of the arcs, some of them live, are closed: S is stable forward at lookahead 1 on B,
-- each arc is reached in A, the pair of the empty word is subsumed by a live one, each extension of
-- a live one is too, and each live one passes.
pub record ClosedPairs (A B : Automaton) (S : List (ℕ × ℕ)) (arcs : List WordArc)
    (live : ℕ → Bool) : Type 0 where
  pub stable : StableForward B 1 S
  pub reached : (e : ℕ) → e < length arcs → IsReached A (arc_at A arcs e)
  pub start : IsPairSubsumed A B S arcs live (start_arc A)
  pub steps : (e t : ℕ) → IsLive arcs live e → t < length A.transitions
      → (trans_at A t).source ≡ (arc_at A arcs e).to →
      IsPairSubsumed A B S arcs live (extended_arc A (arc_at A arcs e) (trans_at A t))
  pub passes : (e : ℕ) → IsLive arcs live e → PairPasses A B (pair_of B (arc_at A arcs e))
