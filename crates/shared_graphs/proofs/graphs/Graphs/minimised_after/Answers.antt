use Rattle.std.proofs.Common.{ℕ, List, ◌≡◌, ◌∙◌, sym, subst}
use Rattle.auto_core.specs.Automaton.{Automaton}
use Rattle.auto_core.specs.Graph.{extended}
use Rattle.bit_rel.specs.Relation.{IsPreorder}
use Rattle.graph_rows.specs.Block.{IsFormed, block_graph}
use Rattle.shared_graphs.specs.Memo.{HasAnswer}
use Rattle.shared_graphs.specs.Graphs.{FitsStep, IsBlockOf, MinimisedBy, block_at}
use Rattle.shared_graphs.specs.declared.memo.Answer.TheVariants.{Number}
use Rattle.shared_graphs.specs.declared.graphs.Graphs.{Graphs}
use Rattle.shared_graphs.proofs.GraphsLemmas.{block_minimised, stock_written, told_found}
use Rattle.shared_graphs.proofs.TakenLemmas.{taken_grown, taken_is, taken_stock}
use Rattle.shared_graphs.proofs.graphs.Graphs.minimised_after.Goals as goal
use Rattle.shared_graphs.proofs.graphs.Graphs.minimised_after.Goals.{After-minimise}

pub returns-in-Some-Number-clause-is : goal.returns-in-Some-Number-clause-is
returns-in-Some-Number-clause-is c =
    (told_found (FitsStep c.args.second.now (MinimisedBy c.args.order.now.pairs) c.args.self.now.graphs.items) c.args.self.now.steps.told.items c.args.from c.args.label (Number c.in-Some-Number.number) c.requires.stock.steps
    (subst (HasAnswer c.args.self.now.steps.told.items c.args.from c.args.label) c.in-Some-Number.field-0-is c.in-Some-Number.ensures)).1

pub minimise-requires-clause-order : goal.minimise-requires-clause-order
minimise-requires-clause-order c = subst (λ n. IsPreorder n c.args.order.now.pairs) (sym c.requires.size) c.requires.order

pub minimise-requires-clause-formed : goal.minimise-requires-clause-formed
minimise-requires-clause-formed c = subst (λ n. IsFormed n c.write_extended.new.self.graphs.fresh) (sym c.requires.size) c.write_extended.ensures.fresh.formed

-- The graphs with the minimised graph in the fresh block.
abbrev least : (c : goal.After-minimise) → Graphs
least c =
    let mid : Graphs = c.write_extended.new.self in record { graphs = c.minimise.new.self; links = mid.links; latest = mid.latest; letters = mid.letters; steps = mid.steps; letter_block = mid.letter_block }

items : (c : goal.After-minimise) → c.minimise.new.self.items ≡ c.args.self.now.graphs.items
items c = c.minimise.ensures.items ∙ c.write_extended.ensures.items

block : (c : goal.After-minimise) → IsBlockOf c.args.second.now (MinimisedBy c.args.order.now.pairs) (extended c.args.second.now (block_graph c.args.second.now.states (block_at c.args.self.now.graphs.items c.args.from)) c.args.label) c.minimise.new.self.fresh
block c =
    let B : Automaton = c.args.second.now in
    block_minimised B c.args.order.now.pairs c.args.order.now.size (extended B (block_graph B.states (block_at c.args.self.now.graphs.items c.args.from)) c.args.label) c.write_extended.new.self.graphs.fresh c.minimise.new.self.fresh
    c.requires.size c.write_extended.ensures.fresh c.minimise.ensures.formed c.minimise.ensures.minimised

pub returns-clause-is : goal.returns-clause-is
returns-clause-is c =
    let path = (goal.at.returns-clause-is c).After-minimise in
    taken_is c.take_step.result c.args.second.now (MinimisedBy c.args.order.now.pairs) c.args.from c.args.label c.args.self.now (least path) c.take_step.new.self (items path) (block path) c.take_step.ensures.is

pub returns-clause-grown : goal.returns-clause-grown
returns-clause-grown c =
    taken_grown c.take_step.result c.args.self.now.graphs.items c.minimise.new.self.items c.take_step.new.self.graphs.items (items (goal.at.returns-clause-grown c).After-minimise) c.take_step.ensures.grown

pub returns-clause-stock : goal.returns-clause-stock
returns-clause-stock c =
    let B : Automaton = c.args.second.now in
    let S : List (ℕ × ℕ) = c.args.order.now.pairs in
    let path = (goal.at.returns-clause-stock c).After-minimise in
    let written = c.write_extended.ensures in
    let least_pool = c.minimise.ensures.pool in
    taken_stock c.take_step.result B (MinimisedBy S) c.args.from c.args.label c.args.self.now (least path) c.take_step.new.self (items path) (block path)
    (stock_written B (MinimisedBy S) c.args.self.now (least path) c.requires.stock (least_pool.0 ∙ written.pool.0, least_pool.1 ∙ written.pool.1, least_pool.2 ∙ written.pool.2) (items path) written.letters written.steps written.letter_block) c.requires.formed c.take_step.ensures.stock
