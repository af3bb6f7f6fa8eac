-- Graphs of words, the order between them, arcs of one automaton with graphs of another, and the
-- lasso test.
use Rattle.std.specs.Prelude.{◌≡◌, ℕ, suc, ◌<◌, ◌≤◌, ◌⊎◌, ◌↔◌, Bool, true, false, ◌||◌, List, [], ◌∷◌, ◌++◌, length, slice_index_or}
use Rattle.auto_core.specs.Automaton.{Automaton, Moves, IsAccepting, is_accepting, trans_at}
use Rattle.auto_core.specs.Run.{Run}
use Rattle.auto_core.specs.Game.{Close}
use Rattle.auto_core.specs.Reach.{HasArc}
use Rattle.auto_core.specs.declared.parts.Trans.{Trans}
use Rattle.auto_core.specs.declared.parts.Origin.{Origin}
use Rattle.auto_core.specs.declared.parts.Origin.TheVariants.{Start, Base, Next}

-- A graph on states: the pairs that it joins, whose value is at least 1, and those that it joins
-- past an accepting state, whose value is 2. All others have the value 0.
pub record Graph : Type 1 where
  pub joined : ℕ → ℕ → Type 0
  pub past : ℕ → ℕ → Type 0

-- What is joined past an accepting state is joined.
abbrev pub IsGraph : Graph → Type 0
IsGraph g = (s t : ℕ) → g.past s t → g.joined s t

-- Both graphs give each pair the same value.
pub record SameGraph (g h : Graph) : Type 0 where
  pub joined : (s t : ℕ) → g.joined s t ↔ h.joined s t
  pub past : (s t : ℕ) → g.past s t ↔ h.past s t

-- The graph of a word: a run on it joins the states, past an accepting state where its flag says
-- so.
abbrev pub graph_of : Automaton → List ℕ → Graph
graph_of B w =
    record { joined = λ s t. (flag : Bool) × Run B s w t flag; past = λ s t. Run B s w t true }

-- The graph of one letter, by its moves: past an accepting state where the target is one.
abbrev pub letter_graph : Automaton → ℕ → Graph
letter_graph B a =
    record { joined = λ s t. Moves B s a t; past = λ s t. Moves B s a t × IsAccepting B t }

-- The graph extended by a letter: its arcs, each followed by a move with the letter.
abbrev pub extended : Automaton → Graph → ℕ → Graph
extended B g a = record {
  joined = λ s t. (m : ℕ) × g.joined s m × Moves B m a t;
  past = λ s t. (m : ℕ) × Moves B m a t × (g.past s m ⊎ (g.joined s m × IsAccepting B t));
}

-- The graph that two tables of bits hold between n states, whose rows have `width` words: the pairs
-- joined, and those joined past an accepting state.
abbrev pub graph_of_tables : List ℕ → List ℕ → ℕ → ℕ → Graph
graph_of_tables joined past n width =
    record { joined = HasArc joined n width; past = HasArc past n width }

-- The graph that gives each pair of states the value that the function does.
abbrev pub graph_of_values : (ℕ → ℕ → ℕ) → Graph
graph_of_values value = record { joined = λ s t. 1 ≤ value s t; past = λ s t. 2 ≤ value s t }

-- g covers h: each arc of g from s to t has in h an arc from s, of at least its value, to some
-- state that S relates t to.
pub record Covers (S : ℕ → ℕ → Type 0) (g h : Graph) : Type 0 where
  pub joined : (s t : ℕ) → g.joined s t → (u : ℕ) × h.joined s u × S t u
  pub past : (s t : ℕ) → g.past s t → (u : ℕ) × h.past s u × S t u

-- A supergraph: an arc of one automaton, with a flag that tells whether it passes an accepting
-- state, and a graph of another.
pub record Supergraph : Type 1 where
  pub from : ℕ
  pub to : ℕ
  pub flag : Bool
  pub graph : Graph

-- The supergraph of a transition of A: its one move, and the graph of its letter in B.
abbrev pub base_of : Automaton → Automaton → Trans → Supergraph
base_of A B t =
    record {
      from = t.source;
      to = t.target;
      flag = is_accepting A t.target;
      graph = graph_of B (t.label ∷ []);
    }

-- The supergraph extended by a transition of A out of its end.
abbrev pub extension_of : Automaton → Automaton → Supergraph → Trans → Supergraph
extension_of A B x t =
    record {
      from = x.from;
      to = t.target;
      flag = x.flag || is_accepting A t.target;
      graph = extended B x.graph t.label;
    }

-- x subsumes y: the arcs have the same ends, x is flagged where y is, and x's graph covers y's.
pub record Subsumes (S : ℕ → ℕ → Type 0) (x y : Supergraph) : Type 0 where
  pub from : x.from ≡ y.from
  pub to : x.to ≡ y.to
  pub flag : y.flag ≡ true → x.flag ≡ true
  pub covers : Covers S x.graph y.graph

-- A walk from i, first by an arc of g and then by arcs of h, that comes back to one of its states
-- past an arc of value 2: the states at the places j and l are the same, and the arc out of the
-- place `marked`, which is between them, has the value 2.
pub record LassoIn (g h : Graph) (i : ℕ) : Type 0 where
  pub state : ℕ → ℕ
  pub last : ℕ
  pub enters : g.joined i (state 0)
  pub walks : (k : ℕ) → k < last → h.joined (state k) (state (suc k))
  pub j : ℕ
  pub marked : ℕ
  pub l : ℕ
  pub after : j ≤ marked
  pub before : marked < l
  pub within : l ≤ last
  pub returns : state j ≡ state l
  pub flagged : h.past (state marked) (state (suc marked))

-- The same by reachability: from i an arc of g and then arcs of h lead to a state out of which an
-- arc of h of value 2 leads back to it, by any number of arcs of h.
pub record ReachesLoop (g h : Graph) (i : ℕ) : Type 0 where
  pub start : ℕ
  pub at : ℕ
  pub next : ℕ
  pub enters : g.joined i start
  pub reaches : Close h.joined start at
  pub leaves : h.past at next
  pub returns : Close h.joined next at

-- The pair is tested: x leads from A's initial state to some state, and y from there back to it
-- past an accepting state.
pub record IsTested (A : Automaton) (x y : Supergraph) : Type 0 where
  pub starts : x.from ≡ A.initial
  pub meets : x.to ≡ y.from
  pub returns : y.from ≡ y.to
  pub flagged : y.flag ≡ true

-- The pair passes: if it is tested, its graphs have a lasso from B's initial state.
abbrev pub Passes : Automaton → Automaton → Supergraph → Supergraph → Type 0
Passes A B x y = IsTested A x y → LassoIn x.graph y.graph B.initial

-- The pair fails: it is tested, and its graphs have no such lasso.
abbrev pub Fails : Automaton → Automaton → Supergraph → Supergraph → Type 0
Fails A B x y = IsTested A x y × (LassoIn x.graph y.graph B.initial → ⊥)

-- An arc of an automaton with a word that a run from the one end to the other reads; the flag is
-- that of the run.
pub record WordArc : Type 0 where
  pub from : ℕ
  pub to : ℕ
  pub flag : Bool
  pub word : List ℕ

-- A run on the word, which is not empty, leads from the one end to the other with this flag.
pub record IsReal (A : Automaton) (x : WordArc) : Type 0 where
  pub reads : 1 ≤ length x.word
  pub run : Run A x.from x.word x.to x.flag

-- The supergraph of the arc: its word's graph in B stands for the word.
abbrev pub super_of : Automaton → WordArc → Supergraph
super_of B x = record { from = x.from; to = x.to; flag = x.flag; graph = graph_of B x.word }

-- The initial state with the empty word.
abbrev pub start_arc : Automaton → WordArc
start_arc A = record { from = A.initial; to = A.initial; flag = false; word = [] }

-- The transition with its letter.
abbrev pub base_arc : Automaton → Trans → WordArc
base_arc A t =
    record { from = t.source; to = t.target; flag = is_accepting A t.target; word = t.label ∷ [] }

-- The arc and then the transition, with its letter after the word.
abbrev pub extended_arc : Automaton → WordArc → Trans → WordArc
extended_arc A x t =
    record {
      from = x.from;
      to = t.target;
      flag = x.flag || is_accepting A t.target;
      word = x.word ++ t.label ∷ [];
    }

-- The arc with this number; past the end there is none, and then it is that of the initial state.
abbrev pub arc_at : Automaton → List WordArc → ℕ → WordArc
arc_at A arcs e = slice_index_or arcs e (start_arc A)

-- The arc of an origin, after these arcs.
abbrev pub arc_of : Automaton → List WordArc → Origin → WordArc
arc_of A arcs Start = start_arc A
arc_of A arcs (Base t) = base_arc A (trans_at A t)
arc_of A arcs (Next p t) = extended_arc A (arc_at A arcs p) (trans_at A t)

-- These arcs, and then those of the origins, each by the arcs before it.
abbrev pub arcs_after : Automaton → List WordArc → List Origin → List WordArc
arcs_after A arcs [] = arcs
arcs_after A arcs (origin ∷ origins) = arcs_after A (arcs ++ arc_of A arcs origin ∷ []) origins

-- The arcs of the origins.
abbrev pub arcs_of : Automaton → List Origin → List WordArc
arcs_of A origins = arcs_after A [] origins

-- The origin may stand at the place e: it names a transition, and an arc before it that the
-- transition goes on from.
abbrev pub IsPlacedAt : Automaton → List WordArc → ℕ → Origin → Type 0
IsPlacedAt A arcs e Start = ⊥
IsPlacedAt A arcs e (Base t) = t < length A.transitions
IsPlacedAt A arcs e (Next p t) =
    (p < e) × (t < length A.transitions) × ((trans_at A t).source ≡ (arc_at A arcs p).to)

-- Each of the origins may stand where it does.
abbrev pub ArePlaced : Automaton → List Origin → Type 0
ArePlaced A origins =
    (e : ℕ) → e < length origins
    → IsPlacedAt A (arcs_of A origins) e (slice_index_or origins e Start)
