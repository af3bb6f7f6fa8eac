-- What the check holds of a certificate's elements: of each the arc, and its word's graph, in
-- finite mode its word's set.
use Rattle.std.specs.Prelude.{◌≡◌, ℕ, ◌+◌, ◌*◌, ◌/◌, ◌^◌, ◌<◌, ◌↔◌, Bool, true, false, List, [], ◌∷◌, ◌++◌, length, slice_index_or}
use Rattle.std.specs.BTreeSet.{BTreeSet, contains}
use Rattle.std.specs.Cmp.Lexicographic.{slice_cmp}
use Rattle.std.specs.Ordering.{nat_cmp}
use Rattle.auto_core.specs.Automaton.{Automaton}
use Rattle.auto_core.specs.Graph.{SameGraph, graph_of, WordArc, IsReal, arc_at}
use Rattle.auto_core.specs.Pairs.{set_of}
use Rattle.auto_core.specs.Rows.{HasBit}
use Rattle.auto_core.specs.declared.parts.Mode.{Mode}
use Rattle.auto_core.specs.declared.parts.Mode.TheVariants.{Buchi, Finite}
use Rattle.graph_rows.specs.Block.{width_of, block_graph, IsFormed}
use Rattle.set_rows.specs.Sets.{IsRow}
use Rattle.supergraph.specs.declared.arcs.Arc.{Arc}
use Rattle.supergraph.specs.Stands.{with_word}
use Rattle.shared_graphs.specs.declared.graphs.Graphs.{Graphs}
use Rattle.shared_graphs.specs.Memo.{AllTold}
use Rattle.shared_graphs.specs.GraphPairs.{FitsCovering}
use Rattle.shared_graphs.specs.Graphs.{block_at, AsTheyAre, HasGrown, IsStock}
use Rattle.cert_value.specs.declared.types.Element.{Element}
use Rattle.cert_value.specs.declared.types.YesBody.{YesBody}
use Rattle.log_check.specs.Blocks.{IsBlockRelation}
use Rattle.cert_check.specs.Inclusion.{element_arcs}
use Rattle.cert_check.specs.declared.blocks.Numbered.{Numbered}
use Rattle.cert_check.specs.declared.elements.Supers.{Supers}
use Rattle.cert_check.specs.declared.orders.Order.{Order}

-- The words of a block over n states: of two planes of rows for a graph, in finite mode of the one
-- row of a set.
abbrev pub block_len : Mode → ℕ → ℕ
block_len Buchi n = 2 * n * width_of n
block_len Finite n = (n + 63) / 64

-- No arc.
abbrev pub no_arc : Arc
no_arc = record { from = 0; to = 0; accepting = false }

-- The block is one over n states.
abbrev pub IsBlock : Mode → ℕ → List ℕ → Type 0
IsBlock Buchi n block = IsFormed n block
IsBlock Finite n block = IsRow n block

-- The blocks are those of graphs, in finite mode of sets, and what is remembered of graphs is so.
abbrev pub IsStockIn : Mode → Automaton → Graphs → Type 0
IsStockIn Buchi B graphs = IsStock B AsTheyAre graphs
IsStockIn Finite B graphs = graphs.graphs.words ≡ block_len Finite B.states

-- What is asked of an arc: a run has it, in finite mode only that it ends in a state.
abbrev pub IsArcIn : Mode → Automaton → WordArc → Type 0
IsArcIn Buchi A x = IsReal A x
IsArcIn Finite A x = x.to < A.states

-- The block has the graph of the word, in finite mode the word's set.
abbrev pub HasWord : Mode → Automaton → List ℕ → List ℕ → Type 0
HasWord Buchi B block w = SameGraph (block_graph B.states block) (graph_of B w)
HasWord Finite B block w = (q : ℕ) → HasBit block q ↔ set_of B w q

-- The arc is that of x, and the block has what its word leads to.
pub record StandFor (mode : Mode) (A B : Automaton) (held : Arc) (block : List ℕ)
    (x : WordArc) : Type 0 where
  pub real : IsArcIn mode A x
  pub arc : with_word held x.word ≡ x
  pub formed : IsBlock mode B.states block
  pub word : HasWord mode B block x.word

-- The graph with this number, in finite mode the set, stands with the arc for x. The graphs that
-- were there are there still.
pub record IsGraphNumbered (mode : Mode) (A B : Automaton) (old now : Graphs) (x : WordArc)
    (numbered : Numbered) : Type 0 where
  pub stock : IsStockIn mode B now
  pub grown : HasGrown old.graphs.items now.graphs.items
  pub within : numbered.number < length now.graphs.items
  pub stands : StandFor mode A B numbered.arc (block_at now.graphs.items numbered.number) x

-- The graph with the number k, in finite mode the set, is that of a word with this label behind it
-- where the one with the number n is the word's. The graphs that were there are there still.
pub record IsLonger (mode : Mode) (B : Automaton) (old now : Graphs) (n label k : ℕ) : Type 0 where
  pub stock : IsStockIn mode B now
  pub grown : HasGrown old.graphs.items now.graphs.items
  pub within : k < length now.graphs.items
  pub formed : IsBlock mode B.states (block_at now.graphs.items k)
  pub word : (w : List ℕ) → HasWord mode B (block_at old.graphs.items n) w
      → HasWord mode B (block_at now.graphs.items k) (w ++ label ∷ [])

-- The arc of the element with this number.
abbrev pub held_arc : Supers → ℕ → Arc
held_arc supers e = slice_index_or supers.arcs.items e no_arc

-- The number of its graph, in finite mode of its set.
abbrev pub held_number : Supers → ℕ → ℕ
held_number supers e = slice_index_or supers.numbers.items e 0

-- The arc and the number of the element with this number.
abbrev pub held : Supers → ℕ → Numbered
held supers e = record { arc = held_arc supers e; number = held_number supers e }

-- The block of the element with this number.
abbrev pub held_block : Supers → ℕ → List ℕ
held_block supers e = block_at supers.graphs.graphs.items (held_number supers e)

-- The arcs and blocks of the first n of the elements.
pub record AreSupers (mode : Mode) (A B : Automaton) (elements : List Element) (n : ℕ)
    (supers : Supers) : Type 0 where
  pub count : length supers.arcs.items ≡ n
  pub size : length supers.numbers.items ≡ n
  pub stock : IsStockIn mode B supers.graphs
  pub within : (e : ℕ) → e < n → held_number supers e < length supers.graphs.graphs.items
  pub each : (e : ℕ) → e < n
      → StandFor mode A B (held_arc supers e) (held_block supers e)
      (arc_at A (element_arcs A elements) e)

-- The word for a flag.
abbrev pub flag_word : Bool → ℕ
flag_word false = 0
flag_word true = 1

-- By what elements are compared: the first number of the graph, in finite mode of the set, and the
-- ends and the flag of the arc, in finite mode its end alone, with 0 in the other places.
abbrev pub key_of : Mode → Arc → ℕ → List ℕ
key_of Buchi arc first = first ∷ arc.from ∷ arc.to ∷ flag_word arc.accepting ∷ []
key_of Finite arc first = first ∷ 0 ∷ arc.to ∷ 0 ∷ []

-- The key of the element with this number.
abbrev pub key_at : Mode → Supers → List ℕ → ℕ → List ℕ
key_at mode supers firsts e =
    key_of mode (held_arc supers e) (slice_index_or firsts (held_number supers e) 0)

-- The words fit in 64 bits.
abbrev pub Fit : List ℕ → Type 0
Fit words = (k : ℕ) → slice_index_or words k 0 < 2 ^ 64

-- The words of a key.
abbrev pub Key : Type 0
Key = List ℕ

-- Whether the set has the key.
abbrev pub has_key : BTreeSet Key → Key → Bool
has_key keys key = contains (slice_cmp nat_cmp) keys key

abbrev pub HasKey : BTreeSet Key → Key → Type 0
HasKey keys key = has_key keys key ≡ true

-- The relation is the certificate's, and what is remembered of graphs that cover others by it is
-- so.
pub record IsEvidenceOrder (B : Automaton) (evidence : YesBody) (graphs : List (List ℕ))
    (order : Order) : Type 0 where
  pub relation : IsBlockRelation B.states evidence.order order.rel
  pub covers : AllTold (FitsCovering B.states order.rel.pairs graphs) order.covers.told.items
