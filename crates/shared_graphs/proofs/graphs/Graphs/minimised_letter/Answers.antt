use Rattle.std.proofs.Common.{ℕ, List, ◌≡◌, ◌∙◌, refl, sym, subst}
use Rattle.auto_core.specs.Automaton.{Automaton}
use Rattle.auto_core.specs.Graph.{letter_graph}
use Rattle.bit_rel.specs.Relation.{IsPreorder}
use Rattle.graph_rows.specs.Block.{IsFormed}
use Rattle.shared_graphs.specs.GraphBlocks.{Blocks}
use Rattle.shared_graphs.specs.Memo.{HasAnswer}
use Rattle.shared_graphs.specs.Graphs.{FitsLetter, HasGrown, IsBlockOf, IsGraphOf, IsStock, MinimisedBy}
use Rattle.shared_graphs.specs.declared.memo.Answer.TheVariants.{Number}
use Rattle.shared_graphs.specs.declared.graphs.Graphs.{Graphs}
use Rattle.shared_graphs.proofs.GraphsLemmas.{block_minimised, stock_written, told_found}
use Rattle.shared_graphs.proofs.graphs.Graphs.minimised_letter.Goals as goal
use Rattle.shared_graphs.proofs.graphs.Graphs.minimised_letter.Goals.{After-minimise, In_ok-number}

pub returns-in-Some-Number-clause-is : goal.returns-in-Some-Number-clause-is
returns-in-Some-Number-clause-is c =
    told_found (FitsLetter c.args.second.now (MinimisedBy c.args.order.now.pairs) c.args.self.now.graphs.items) c.args.self.now.letters.told.items 1 c.args.label (Number c.in-Some-Number.number) c.requires.stock.letters
    (subst (HasAnswer c.args.self.now.letters.told.items 1 c.args.label) c.in-Some-Number.field-0-is c.in-Some-Number.ensures)

pub minimise-requires-clause-order : goal.minimise-requires-clause-order
minimise-requires-clause-order c = subst (λ n. IsPreorder n c.args.order.now.pairs) (sym c.requires.size) c.requires.order

pub minimise-requires-clause-formed : goal.minimise-requires-clause-formed
minimise-requires-clause-formed c = subst (λ n. IsFormed n c.write_letter.new.self.fresh) (sym c.requires.size) c.write_letter.ensures.fresh.formed

-- The graphs with the minimised graph in the fresh block.
abbrev least : (c : goal.After-minimise) → Graphs
least c =
    let old : Graphs = c.args.self.now in record { graphs = c.minimise.new.self; links = old.links; latest = old.latest; letters = old.letters; steps = old.steps; letter_block = old.letter_block }

items : (c : goal.After-minimise) → c.minimise.new.self.items ≡ c.args.self.now.graphs.items
items c = c.minimise.ensures.items ∙ c.write_letter.ensures.items

block : (c : goal.After-minimise) → IsBlockOf c.args.second.now (MinimisedBy c.args.order.now.pairs) (letter_graph c.args.second.now c.args.label) c.minimise.new.self.fresh
block c =
    block_minimised c.args.second.now c.args.order.now.pairs c.args.order.now.size (letter_graph c.args.second.now c.args.label) c.write_letter.new.self.fresh c.minimise.new.self.fresh c.requires.size
    c.write_letter.ensures.fresh c.minimise.ensures.formed c.minimise.ensures.minimised

-- What is remembered once the graph has its number.
numbered : (c : goal.In_ok-number) → IsStock c.args.second.now (MinimisedBy c.args.order.now.pairs) c.take_letter.new.self
numbered c =
    let B : Automaton = c.args.second.now in
    let S : List (ℕ × ℕ) = c.args.order.now.pairs in
    let written = c.write_letter.ensures in
    let least_pool = c.minimise.ensures.pool in
    let path = (goal.at.In_ok-number c).After-minimise in
    c.in_ok-number.ensures.stock B (MinimisedBy S)
    (stock_written B (MinimisedBy S) c.args.self.now (least path) c.requires.stock (least_pool.0 ∙ written.pool.0, least_pool.1 ∙ written.pool.1, least_pool.2 ∙ written.pool.2) (items path) refl refl c.requires.stock.letter_block) (block path)

pub note_own-requires-clause-stock : goal.note_own-requires-clause-stock
note_own-requires-clause-stock c = (MinimisedBy c.args.order.now.pairs, numbered (goal.at.note_own-requires-clause-stock c).In_ok-number)

pub note_own-requires-clause-within : goal.note_own-requires-clause-within
note_own-requires-clause-within c =
    (c.in_ok-number.ensures.is c.args.second.now (MinimisedBy c.args.order.now.pairs) (block (goal.at.note_own-requires-clause-within c).After-minimise)).within

pub returns-clause-is : goal.returns-clause-is
returns-clause-is c =
    let B : Automaton = c.args.second.now in
    let S : List (ℕ × ℕ) = c.args.order.now.pairs in
    subst (λ (b : Blocks). IsGraphOf B (MinimisedBy S) (letter_graph B c.args.label) b.items c.in_ok-number.number) (sym c.note_own.ensures.graphs)
    (c.in_ok-number.ensures.is B (MinimisedBy S) (block (goal.at.returns-clause-is c).After-minimise))

pub returns-clause-grown : goal.returns-clause-grown
returns-clause-grown c =
    subst (λ (b : Blocks). HasGrown c.args.self.now.graphs.items b.items) (sym c.note_own.ensures.graphs)
    (subst (λ (l : List (List ℕ)). HasGrown l c.take_letter.new.self.graphs.items) (items (goal.at.returns-clause-grown c).After-minimise) c.in_ok-number.ensures.grown)

pub returns-clause-stock : goal.returns-clause-stock
returns-clause-stock c = c.note_own.ensures.stock (MinimisedBy c.args.order.now.pairs) (numbered (goal.at.returns-clause-stock c).In_ok-number)
