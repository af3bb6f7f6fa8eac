-- Graphs that are there stay as others come, and what is remembered of them stays so.
use Rattle.std.specs.declared.alloc.Global.{Global}
use Rattle.std.proofs.Common.{Vec, ◌≡◌, ℕ, zero, suc, ◌*◌, ◌<◌, ◌≤◌, ◌↔◌, List, [], ◌∷◌, ◌++◌, length, slice_index_or, Option, refl, sym, ap, ◌∙◌, subst, inl, inr, arith, length-append}
use Rattle.std.specs.Prelude.{IsTrue}
use Rattle.auto_core.specs.Game.{Holds}
use Rattle.std.proofs.lemmas.Bool.{cases_lt}
use Rattle.std.proofs.lemmas.List.{get_or_append_left, get_or_past}
use lib.Seq.{get_or-append_seam}
use Rattle.auto_core.specs.Automaton.{Automaton}
use Rattle.auto_core.specs.Graph as words
use Rattle.graph_rows.specs.declared.prints.Print.{Print}
use Rattle.graph_rows.specs.Prints.{IsPrint}
use Rattle.graph_rows.specs.Block.{IsFormed, block_graph, width_of}
use Rattle.shared_graphs.specs.declared.memo.Answer.{Answer}
use Rattle.shared_graphs.specs.declared.memo.Answer.TheVariants.{Number, Truth}
use Rattle.shared_graphs.specs.declared.memo.Noted.{Noted}
use Rattle.shared_graphs.specs.declared.memo.Memo.{Memo}
use Rattle.shared_graphs.specs.declared.graphs.Graphs.{Graphs}
use Rattle.shared_graphs.specs.declared.coverings.Coverings.{Coverings}
use Rattle.shared_graphs.specs.declared.graph_pairs.GraphPairs.{GraphPairs}
use Rattle.shared_graphs.specs.Memo.{AllTold, NothingTold, HasAnswer, TellsNothingNew, HasNoted}
use Rattle.shared_graphs.specs.GraphBlocks.{SamePool}
use Rattle.auto_laws.proofs.GraphLemmas.{covers_between, same_refl}
use Rattle.shared_graphs.specs.Graphs.{block_at, AsTheyAre, IsBlockOf, IsMinimised, IsStock, IsThere, HasGrown, IsGraphOf, HasAddedGraph, HasNumber, FitsLetter, FitsStep, Keeping, MinimisedBy, StandsFor, kept_under}
use Rattle.shared_graphs.specs.GraphPairs.{FitsCovering, ArePrints, AreCoverings, AreGraphPairs}
use Rattle.shared_graphs.specs.declared.glimpses.Glimpse.{Glimpse}
use Rattle.shared_graphs.specs.Glimpses.{AreGlimpses, IsGlimpse}

-- What is found fits, and what is noted too.
pub told_found : (fits : ℕ → ℕ → Answer → Type 0) (told : List (Option Noted)) (first second : ℕ) (answer : Answer) → AllTold fits told → HasAnswer told first second answer → fits first second answer
told_found fits told first second answer all has =
    subst (λ a. fits first second a) has.answer_is
    (subst (λ k. fits first k has.here.answer) has.second_is
    (subst (λ k. fits k has.here.second has.here.answer) has.first_is (all has.place has.here has.is)))

pub told_more : (fits : ℕ → ℕ → Answer → Type 0) (old now : List (Option Noted)) (first second : ℕ) (answer : Answer) → AllTold fits old → fits first second answer → HasNoted first second answer old now → AllTold fits now
told_more fits old now first second answer all fit noted k t is = elim (noted k t is) [
  | inl was ↦ all k t was
  | inr new ↦
      subst (λ a. fits t.first t.second a) (sym new.2)
      (subst (λ m. fits t.first m answer) (sym new.1) (subst (λ m. fits m second answer) (sym new.0) fit))
]

pub told_none : (fits : ℕ → ℕ → Answer → Type 0) (told : List (Option Noted)) → NothingTold told → AllTold fits told
told_none fits told none k t is = absurd (none k t is)

told_as : (fits other : ℕ → ℕ → Answer → Type 0) (told : List (Option Noted)) → ((x y : ℕ) (a : Answer) → fits x y a → other x y a) → AllTold fits told → AllTold other told
told_as fits other told goes all k t is = goes t.first t.second t.answer (all k t is)

pub told_still : (fits : ℕ → ℕ → Answer → Type 0) (old now : List (Option Noted)) → TellsNothingNew old now → AllTold fits old → AllTold fits now
told_still fits old now none all k t is =
    let (j, was, was_is, first, second, answer) = none k t is in
    subst (λ a. fits t.first t.second a) (sym answer)
    (subst (λ m. fits t.first m was.answer) (sym second) (subst (λ m. fits m was.second was.answer) (sym first) (all j was was_is)))

-- One more graph.
pub grown_none : (graphs : List (List ℕ)) → HasGrown graphs graphs
grown_none graphs = record { size = omega arith; same = λ k lt. refl }

pub grown_more : (old mid now : List (List ℕ)) → HasGrown old mid → HasGrown mid now → HasGrown old now
grown_more old mid now first second =
    let one = first.size in
    let two = second.size in
    record { size = omega arith; same = λ k lt. second.same k (omega arith) ∙ first.same k lt }

pub grown_by : (old now : List (List ℕ)) (block : List ℕ) → now ≡ old ++ block ∷ [] → HasGrown old now
grown_by old now block more =
    let total = ap length more in
    let count = length-append old (block ∷ []) in
    record { size = omega arith; same = λ k lt. ap (λ l. slice_index_or l k []) more ∙ get_or_append_left old (block ∷ []) [] k lt }

pub has_number : (block : List ℕ) (old now : Graphs) (number : ℕ) → HasAddedGraph block old now number → HasNumber block old now number
has_number block old now number added =
    let more = length-append old.graphs.items (block ∷ []) in
    let total = ap length added.graphs in
    let count = added.number_is in
    record {
      there = record {
        within = omega arith;
        is = ap (λ l. slice_index_or l number []) added.graphs ∙ ap (λ k. slice_index_or (old.graphs.items ++ block ∷ []) k []) count ∙ get_or-append_seam old.graphs.items block [] [];
      };
      grown = grown_by old.graphs.items now.graphs.items block added.graphs;
      letters = added.letters;
      steps = added.steps;
      letter_block = added.letter_block;
    }

pub was_number : (block : List ℕ) (g : Graphs) (number : ℕ) → IsThere g.graphs.items block number → HasNumber block g g number
was_number block g number there = record { there = there; grown = grown_none g.graphs.items; letters = refl; steps = refl; letter_block = refl }

-- A graph that is there stays.
module _ (old now : List (List ℕ)) (grown : HasGrown old now) where
  pub graph_stays : (B : Automaton) (keeping : Keeping) (graph : words.Graph) (k : ℕ) → IsGraphOf B keeping graph old k → IsGraphOf B keeping graph now k
  graph_stays B keeping graph k is =
      let size = grown.size in
      let within = is.within in
      record {
        within = omega arith;
        block = record {
          formed = subst (IsFormed B.states) (sym (grown.same k within)) is.block.formed;
          stands = subst (λ l. StandsFor keeping (block_graph B.states l) graph) (sym (grown.same k within)) is.block.stands;
        };
      }

  letter_stays : (B : Automaton) (keeping : Keeping) (under label : ℕ) (a : Answer) → FitsLetter B keeping old under label a → FitsLetter B keeping now under label a
  letter_stays B keeping under label (Number k) is = graph_stays B (kept_under keeping under) (words.letter_graph B label) k is
  letter_stays B keeping under label (Truth so) is = tt

  step_stays : (B : Automaton) (keeping : Keeping) (from label : ℕ) (a : Answer) → FitsStep B keeping old from label a → FitsStep B keeping now from label a
  step_stays B keeping from label (Number k) is =
      let size = grown.size in
      let within = is.0 in (
        omega arith,
        graph_stays B keeping (words.extended B (block_graph B.states (block_at now from)) label) k
            (subst (λ l. IsGraphOf B keeping (words.extended B (block_graph B.states l) label) old k) (sym (grown.same from within)) is.1),
      )
  step_stays B keeping from label (Truth so) is = tt

  covering_stays : (n : ℕ) (S : List (ℕ × ℕ)) (g h : ℕ) (a : Answer) → FitsCovering n S old g h a → FitsCovering n S now g h a
  covering_stays n S g h (Number k) is = tt
  covering_stays n S g h (Truth so) is =
      let size = grown.size in
      let first = is.0 in
      let second = is.1 in (
        omega arith,
        omega arith,
        subst (λ l. IsTrue so ↔ words.Covers (Holds S) (block_graph n l) (block_graph n (block_at now h))) (sym (grown.same g first))
            (subst (λ l. IsTrue so ↔ words.Covers (Holds S) (block_graph n (block_at old g)) (block_graph n l)) (sym (grown.same h second)) is.2),
      )

  pub letters_stay : (B : Automaton) (keeping : Keeping) (told : List (Option Noted)) → AllTold (FitsLetter B keeping old) told → AllTold (FitsLetter B keeping now) told
  letters_stay B keeping told = told_as (FitsLetter B keeping old) (FitsLetter B keeping now) told (letter_stays B keeping)

  pub steps_stay : (B : Automaton) (keeping : Keeping) (told : List (Option Noted)) → AllTold (FitsStep B keeping old) told → AllTold (FitsStep B keeping now) told
  steps_stay B keeping told = told_as (FitsStep B keeping old) (FitsStep B keeping now) told (step_stays B keeping)

  pub coverings_stay : (n : ℕ) (S : List (ℕ × ℕ)) (told : List (Option Noted)) → AllTold (FitsCovering n S old) told → AllTold (FitsCovering n S now) told
  coverings_stay n S told = told_as (FitsCovering n S old) (FitsCovering n S now) told (covering_stays n S)

  prints_stay : (n : ℕ) (S : List (ℕ × ℕ)) (prints : List Print) → ArePrints n S old prints → ArePrints n S now prints
  prints_stay n S prints are k print is =
      let size = grown.size in
      let within = (are k print is).0 in
      (omega arith, subst (λ l. IsPrint n (Holds S) l print) (sym (grown.same k within)) (are k print is).1)

  pub all_coverings_stay : (n : ℕ) (S : List (ℕ × ℕ)) (c : Coverings) → AreCoverings n S old c → AreCoverings n S now c
  all_coverings_stay n S c are = record { prints = prints_stay n S c.prints.items are.prints; told = coverings_stay n S c.memo.told.items are.told }

  glimpses_stay : (B : Automaton) (glimpses : List Glimpse) → AreGlimpses B old glimpses → AreGlimpses B now glimpses
  glimpses_stay B glimpses are k x is =
      let size = grown.size in
      let within = (are k x is).0 in
      (omega arith, subst (λ l. IsGlimpse B (block_graph B.states l) x) (sym (grown.same k within)) (are k x is).1)

  pub pairs_stay : (B : Automaton) (S : List (ℕ × ℕ)) (answers : GraphPairs) → AreGraphPairs B S old answers → AreGraphPairs B S now answers
  pairs_stay B S answers are = record {
    covers = all_coverings_stay B.states S answers.covers are.covers;
    lassos = record { glimpses = glimpses_stay B answers.glimpses.items are.lassos.glimpses; room = are.lassos.room };
  }

-- What is remembered stays so as the fresh block is written, and as it gets a number.
pub stock_written : (B : Automaton) (keeping : Keeping) (old now : Graphs) → IsStock B keeping old → SamePool old.graphs now.graphs → now.graphs.items ≡ old.graphs.items → now.letters ≡ old.letters → now.steps ≡ old.steps
    → length now.letter_block.items ≡ old.graphs.words → IsStock B keeping now
stock_written B keeping old now stock pool items letters steps letter_block = record {
  some = stock.some;
  size = pool.0 ∙ stock.size;
  letter_block = letter_block ∙ sym pool.0;
  letters = subst (λ l. AllTold (FitsLetter B keeping l) now.letters.told.items) (sym items)
      (subst (λ (m : Memo). AllTold (FitsLetter B keeping old.graphs.items) m.told.items) (sym letters) stock.letters);
  steps = subst (λ l. AllTold (FitsStep B keeping l) now.steps.told.items) (sym items)
      (subst (λ (m : Memo). AllTold (FitsStep B keeping old.graphs.items) m.told.items) (sym steps) stock.steps);
}

pub stock_numbered : (B : Automaton) (keeping : Keeping) (old now : Graphs) (block : List ℕ) (k : ℕ) → IsStock B keeping old → SamePool old.graphs now.graphs → HasNumber block old now k → IsStock B keeping now
stock_numbered B keeping old now block k stock pool has = record {
  some = stock.some;
  size = pool.0 ∙ stock.size;
  letter_block = ap (λ (v : Vec ℕ Global). length v.items) has.letter_block ∙ stock.letter_block ∙ sym pool.0;
  letters = subst (λ (m : Memo). AllTold (FitsLetter B keeping now.graphs.items) m.told.items) (sym has.letters) (letters_stay old.graphs.items now.graphs.items has.grown B keeping old.letters.told.items stock.letters);
  steps = subst (λ (m : Memo). AllTold (FitsStep B keeping now.graphs.items) m.told.items) (sym has.steps) (steps_stay old.graphs.items now.graphs.items has.grown B keeping old.steps.told.items stock.steps);
}

-- The graph with the number is the one whose block got it.
pub graph_numbered : (B : Automaton) (keeping : Keeping) (graph : words.Graph) (block : List ℕ) (old now : Graphs) (k : ℕ) → HasNumber block old now k → IsBlockOf B keeping graph block
    → IsGraphOf B keeping graph now.graphs.items k
graph_numbered B keeping graph block old now k has is = record { within = has.there.within; block = subst (IsBlockOf B keeping graph) (sym has.there.is) is }

-- One more extension is remembered, of a graph that was there, once its own number was given and the table has no other ones.
pub step_more : (B : Automaton) (keeping : Keeping) (now : Graphs) (from label k : ℕ) (steps noted : List (Option Noted)) → IsStock B keeping now → from < length now.graphs.items
    → IsGraphOf B keeping (words.extended B (block_graph B.states (block_at now.graphs.items from)) label) now.graphs.items k → TellsNothingNew now.steps.told.items steps → HasNoted from label (Number k) steps noted
    → AllTold (FitsStep B keeping now.graphs.items) noted
step_more B keeping now from label k steps noted stock within is none has =
    told_more (FitsStep B keeping now.graphs.items) steps noted from label (Number k) (told_still (FitsStep B keeping now.graphs.items) now.steps.told.items steps none stock.steps) (within, is) has

-- A block whose graph is minimised stands for the same graph as before.
pub block_minimised : (B : Automaton) (S : List (ℕ × ℕ)) (n : ℕ) (graph : words.Graph) (old now : List ℕ) → n ≡ B.states → IsBlockOf B AsTheyAre graph old → IsFormed n now
    → IsMinimised S (block_graph n now) (block_graph n old) → IsBlockOf B (MinimisedBy S) graph now
block_minimised B S n graph old now size is formed least =
    let before : words.Graph = block_graph B.states old in
    let after : words.Graph = block_graph B.states now in
    let same : IsMinimised S after before = subst (λ k. IsMinimised S (block_graph k now) (block_graph k old)) size least in
    record {
      formed = subst (λ k. IsFormed k now) size formed;
      stands = record {
        cover = record {
          forth = covers_between (Holds S) before after graph after is.stands (same_refl after) same.cover.forth;
          back = covers_between (Holds S) after before after graph (same_refl after) is.stands same.cover.back;
        };
        minimal = same.minimal;
      };
    }

-- A formed block is that of a graph that is there.
pub formed_there : (n : ℕ) (graphs : List (List ℕ)) (k : ℕ) → 1 ≤ n → IsFormed n (block_at graphs k) → k < length graphs
formed_there n graphs k some formed = elim (cases_lt k (length graphs)) [
  | inl within ↦ within
  | inr past ↦
      let none : block_at graphs k ≡ [] = get_or_past graphs k [] (omega arith) in
      let len : 2 * n * width_of n ≡ 0 = sym formed.len ∙ ap length none in
      let width : 1 ≤ width_of n = omega arith in
      absurd (positive (2 * n) (width_of n) (omega arith) width len)
]
  where
    positive : (a b : ℕ) → 1 ≤ a → 1 ≤ b → a * b ≡ 0 → ⊥
    positive zero b one two e = omega arith
    positive (suc a) zero one two e = omega arith
    positive (suc a) (suc b) one two e = omega arith
