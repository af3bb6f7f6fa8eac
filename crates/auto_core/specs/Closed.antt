-- A closed set of supergraphs, given by arcs with words.
use Rattle.std.specs.Prelude.{◌≡◌, ℕ, ◌<◌, Bool, true, List, length}
use Rattle.auto_core.specs.Automaton.{Automaton, trans_at}
use Rattle.auto_core.specs.Game.{Holds, StableForward}
use Rattle.auto_core.specs.Graph.{Subsumes, Passes, WordArc, IsReal, super_of, base_arc, extended_arc, arc_at}

-- The number is that of an arc of the list, and one that is live.
abbrev pub IsLive : List WordArc → (ℕ → Bool) → ℕ → Type 0
IsLive arcs live e = (e < length arcs) × (live e ≡ true)

-- The supergraph of the arc with this number subsumes the one of x.
abbrev pub SubsumesAt : Automaton → Automaton → List (ℕ × ℕ) → List WordArc → ℕ → WordArc → Type 0
SubsumesAt A B S arcs e x = Subsumes (Holds S) (super_of B (arc_at A arcs e)) (super_of B x)

-- The supergraph of a live arc of the list subsumes the one of x.
abbrev pub IsSubsumed : Automaton → Automaton → List (ℕ × ℕ) → List WordArc → (ℕ → Bool) → WordArc
    → Type 0
IsSubsumed A B S arcs live x = (e : ℕ) × IsLive arcs live e × SubsumesAt A B S arcs e x

-- The supergraphs of the arcs, some of them live, are closed: S is stable forward at lookahead 1 on
-- B, each arc is one of A, each supergraph of one letter is subsumed by a live one, each extension
-- of a live one is too, and each pair of live ones passes: if it is tested, its graphs have a lasso
-- from B's initial state.
pub record ClosedSet (A B : Automaton) (S : List (ℕ × ℕ)) (arcs : List WordArc)
    (live : ℕ → Bool) : Type 0 where
  pub stable : StableForward B 1 S
  pub real : (e : ℕ) → e < length arcs → IsReal A (arc_at A arcs e)
  pub starts : (t : ℕ) → t < length A.transitions
      → IsSubsumed A B S arcs live (base_arc A (trans_at A t))
  pub steps : (e t : ℕ) → IsLive arcs live e → t < length A.transitions
      → (trans_at A t).source ≡ (arc_at A arcs e).to →
      IsSubsumed A B S arcs live (extended_arc A (arc_at A arcs e) (trans_at A t))
  pub passes : (e f : ℕ) → IsLive arcs live e → IsLive arcs live f
      → Passes A B (super_of B (arc_at A arcs e)) (super_of B (arc_at A arcs f))
