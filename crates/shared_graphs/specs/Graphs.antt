-- The different graphs, as the search keeps them.
use Rattle.std.specs.Prelude.{◌≡◌, ℕ, zero, suc, ◌*◌, ◌<◌, ◌≤◌, List, [], ◌∷◌, ◌++◌, length, slice_index_or}
use Rattle.auto_core.specs.Automaton.{Automaton}
use Rattle.auto_core.specs.Game.{Holds}
use Rattle.auto_core.specs.Graph.{SameGraph, letter_graph, extended}
use Rattle.auto_core.specs.Graph as words
use Rattle.graph_rows.specs.Block.{IsFormed, block_graph, width_of}
use Rattle.supergraph.specs.Minimal.{CoverEachOther, IsMinimal}
use Rattle.shared_graphs.specs.declared.memo.Answer.{Answer}
use Rattle.shared_graphs.specs.declared.memo.Answer.TheVariants.{Number, Truth}
use Rattle.shared_graphs.specs.declared.graphs.Graphs.{Graphs}
use Rattle.shared_graphs.specs.Memo.{AllTold}

-- The block of the graph with this number, among these blocks; past the last there is none.
abbrev pub block_at : List (List ℕ) → ℕ → List ℕ
block_at graphs k = slice_index_or graphs k []

-- The graph with this number has this block.
pub record IsThere (graphs : List (List ℕ)) (block : List ℕ) (number : ℕ) : Type 0 where
  pub within : number < length graphs
  pub is : block_at graphs number ≡ block

-- The graphs that were there are there still.
pub record HasGrown (old now : List (List ℕ)) : Type 0 where
  pub size : length old ≤ length now
  pub same : (k : ℕ) → k < length old → block_at now k ≡ block_at old k

-- How graphs are kept: as they are, or minimised by an order.
pub data Keeping : Type 0 where
  AsTheyAre : Keeping
  MinimisedBy : List (ℕ × ℕ) → Keeping

-- The kept graph and the whole one cover each other, and no arc of the kept one is dominated. It
-- need not be a part of the whole one: the kept graph of a longer word is what is left of the
-- extension of a kept graph, where an arc may have a lesser value than in the graph of the word.
pub record IsMinimised (S : List (ℕ × ℕ)) (kept whole : words.Graph) : Type 0 where
  pub cover : CoverEachOther (Holds S) whole kept
  pub minimal : IsMinimal (Holds S) kept

-- The kept graph stands for the other one.
abbrev pub StandsFor : Keeping → words.Graph → words.Graph → Type 0
StandsFor AsTheyAre kept graph = SameGraph kept graph
StandsFor (MinimisedBy S) kept graph = IsMinimised S kept graph

-- The block has a graph that stands for this one.
pub record IsBlockOf (B : Automaton) (keeping : Keeping) (graph : words.Graph)
    (block : List ℕ) : Type 0 where
  pub formed : IsFormed B.states block
  pub stands : StandsFor keeping (block_graph B.states block) graph

-- The graph with this number stands for this one.
pub record IsGraphOf (B : Automaton) (keeping : Keeping) (graph : words.Graph)
    (graphs : List (List ℕ)) (number : ℕ) : Type 0 where
  pub within : number < length graphs
  pub block : IsBlockOf B keeping graph (block_at graphs number)

-- A graph with this block was added behind the others.
pub record HasAddedGraph (block : List ℕ) (old now : Graphs) (number : ℕ) : Type 0 where
  pub graphs : now.graphs.items ≡ old.graphs.items ++ block ∷ []
  pub number_is : number ≡ length old.graphs.items
  pub letters : now.letters ≡ old.letters
  pub steps : now.steps ≡ old.steps
  pub letter_block : now.letter_block ≡ old.letter_block

-- The graph with this block is there, and those that were there keep their numbers.
pub record HasNumber (block : List ℕ) (old now : Graphs) (number : ℕ) : Type 0 where
  pub there : IsThere now.graphs.items block number
  pub grown : HasGrown old.graphs.items now.graphs.items
  pub letters : now.letters ≡ old.letters
  pub steps : now.steps ≡ old.steps
  pub letter_block : now.letter_block ≡ old.letter_block

-- Under 0 the graphs of letters are remembered as they are, under 1 as all graphs are kept.
abbrev pub kept_under : Keeping → ℕ → Keeping
kept_under keeping zero = AsTheyAre
kept_under keeping (suc n) = keeping

-- The number is that of the letter's graph, or of the graph extended by the letter.
abbrev pub FitsLetter : Automaton → Keeping → List (List ℕ) → ℕ → ℕ → Answer → Type 0
FitsLetter B keeping graphs under label (Number k) =
    IsGraphOf B (kept_under keeping under) (letter_graph B label) graphs k
FitsLetter B keeping graphs under label (Truth is) = Unit {0}

abbrev pub FitsStep : Automaton → Keeping → List (List ℕ) → ℕ → ℕ → Answer → Type 0
FitsStep B keeping graphs from label (Number k) =
    (from < length graphs)
    × IsGraphOf B keeping (extended B (block_graph B.states (block_at graphs from)) label)
    graphs k
FitsStep B keeping graphs from label (Truth is) = Unit {0}

-- The blocks are those of graphs of the automaton's states, with room for the block of a letter,
-- and what is remembered of graphs, which are kept so, is so.
pub record IsStock (B : Automaton) (keeping : Keeping) (g : Graphs) : Type 0 where
  pub some : 1 ≤ B.states
  pub size : g.graphs.words ≡ 2 * B.states * width_of B.states
  pub letter_block : length g.letter_block.items ≡ g.graphs.words
  pub letters : AllTold (FitsLetter B keeping g.graphs.items) g.letters.told.items
  pub steps : AllTold (FitsStep B keeping g.graphs.items) g.steps.told.items
