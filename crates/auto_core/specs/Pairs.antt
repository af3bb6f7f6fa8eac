-- Pairs of a state of one automaton and a set of states of another: what a finite word leads to in
-- both.
use Rattle.std.specs.Prelude.{◌≡◌, ℕ, ◌<◌, ◌↔◌, Bool, List, length, slice_index_or}
use Rattle.auto_core.specs.Automaton.{Automaton, Moves, IsAccepting, trans_at}
use Rattle.auto_core.specs.Run.{Run}
use Rattle.auto_core.specs.Graph.{WordArc, arc_at, arcs_of}
use Rattle.auto_core.specs.declared.parts.Trans.{Trans}
use Rattle.auto_core.specs.declared.parts.Origin.{Origin}
use Rattle.auto_core.specs.declared.parts.Origin.TheVariants.{Start, Base, Next}

-- A state of one automaton and a set of states of another.
pub record StatePair : Type 1 where
  pub state : ℕ
  pub set : ℕ → Type 0

-- The set of a word: the states that a run on it reaches from the initial state.
abbrev pub set_of : Automaton → List ℕ → ℕ → Type 0
set_of B w q = (flag : Bool) × Run B B.initial w q flag

-- The states that a move with the letter leads to from a member of the set.
abbrev pub set_after : Automaton → (ℕ → Type 0) → ℕ → ℕ → Type 0
set_after B set a q = (m : ℕ) × set m × Moves B m a q

-- The pair is one of the word: a run of A on the word leads from its initial state to the pair's
-- state, and the pair's set is that of the word in B.
pub record IsPairOf (A B : Automaton) (w : List ℕ) (x : StatePair) : Type 0 where
  pub flag : Bool
  pub run : Run A A.initial w x.state flag
  pub members : (q : ℕ) → x.set q ↔ set_of B w q

-- The pair extended by a transition of the first automaton out of its state: the state that it
-- leads to, and the states that moves with its letter lead to.
abbrev pub pair_after : Automaton → StatePair → Trans → StatePair
pair_after B x t = record { state = t.target; set = set_after B x.set t.label }

-- x subsumes y: the states are the same, and S relates each member of x's set to a member of y's.
pub record PairSubsumes (S : ℕ → ℕ → Type 0) (x y : StatePair) : Type 0 where
  pub state : x.state ≡ y.state
  pub members : (q : ℕ) → x.set q → (r : ℕ) × y.set r × S q r

-- The pair passes: if its state is accepting, some member of its set is.
abbrev pub PairPasses : Automaton → Automaton → StatePair → Type 0
PairPasses A B x = IsAccepting A x.state → (q : ℕ) × x.set q × IsAccepting B q

-- The pair fails: its state is accepting, and no member of its set is.
abbrev pub PairFails : Automaton → Automaton → StatePair → Type 0
PairFails A B x = IsAccepting A x.state × ((q : ℕ) → x.set q → IsAccepting B q → ⊥)

-- The pair of an arc: the state that it leads to, and its word's set.
abbrev pub pair_of : Automaton → WordArc → StatePair
pair_of B x = record { state = x.to; set = set_of B x.word }

-- A run on the arc's word leads from the initial state to its end.
pub record IsReached (A : Automaton) (x : WordArc) : Type 0 where
  pub starts : x.from ≡ A.initial
  pub run : Run A x.from x.word x.to x.flag

-- The origin of a pair may stand at the place e: it is the empty word's, or it names a transition,
-- and an arc before it that the transition goes on from.
abbrev pub IsPairPlacedAt : Automaton → List WordArc → ℕ → Origin → Type 0
IsPairPlacedAt A arcs e Start = Unit {0}
IsPairPlacedAt A arcs e (Base t) = ⊥
IsPairPlacedAt A arcs e (Next p t) =
    (p < e) × (t < length A.transitions) × ((trans_at A t).source ≡ (arc_at A arcs p).to)

-- Each of the origins may stand where it does.
abbrev pub ArePairsPlaced : Automaton → List Origin → Type 0
ArePairsPlaced A origins =
    (e : ℕ) → e < length origins
    → IsPairPlacedAt A (arcs_of A origins) e (slice_index_or origins e Start)
