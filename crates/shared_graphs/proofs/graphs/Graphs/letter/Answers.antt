use Rattle.std.proofs.Common.{ℕ, List, refl, subst}
use Rattle.std.proofs.lemmas.Result.{IfOk-weaker}
use Rattle.auto_core.specs.Automaton.{Automaton}
use Rattle.auto_core.specs.Graph.{letter_graph}
use Rattle.shared_graphs.specs.Memo.{HasAnswer}
use Rattle.shared_graphs.specs.Graphs.{AsTheyAre, FitsLetter, HasGrown, IsBlockOf, IsGraphOf, IsStock, Keeping, kept_under}
use Rattle.shared_graphs.specs.declared.memo.Answer.TheVariants.{Number}
use Rattle.shared_graphs.specs.declared.graphs.Graphs.{Graphs}
use Rattle.shared_graphs.proofs.GraphsLemmas.{stock_written, told_found}
use Rattle.shared_graphs.proofs.graphs.Graphs.letter.Goals as goal
use Rattle.shared_graphs.proofs.graphs.Graphs.letter.Goals.{After-write_letter}

pub returns-in-Some-Number-clause-is : goal.returns-in-Some-Number-clause-is
returns-in-Some-Number-clause-is c =
    told_found (FitsLetter c.args.second.now AsTheyAre c.args.self.now.graphs.items) c.args.self.now.letters.told.items 0 c.args.label (Number c.in-Some-Number.number) c.requires.letters
    (subst (HasAnswer c.args.self.now.letters.told.items 0 c.args.label) c.in-Some-Number.field-0-is c.in-Some-Number.ensures)

-- The graphs with the letter's graph in the fresh block.
abbrev written : (c : goal.After-write_letter) → Graphs
written c =
    let old : Graphs = c.args.self.now in record { graphs = c.write_letter.new.self; links = old.links; latest = old.latest; letters = old.letters; steps = old.steps; letter_block = old.letter_block }

pub returns-clause-is : goal.returns-clause-is
returns-clause-is c =
    let now : Graphs = c.take_letter.new.self in
    let mid : Graphs = written (goal.at.returns-clause-is c).After-write_letter in
    let a : ℕ = c.args.label in
    IfOk-weaker c.take_letter.result (λ k. (B : Automaton) (keeping : Keeping) → IsBlockOf B keeping (letter_graph B a) mid.graphs.fresh → IsGraphOf B keeping (letter_graph B a) now.graphs.items k)
    (IsGraphOf c.args.second.now AsTheyAre (letter_graph c.args.second.now a) now.graphs.items) (λ k f. f c.args.second.now AsTheyAre c.write_letter.ensures.fresh) c.take_letter.ensures.is

pub returns-clause-grown : goal.returns-clause-grown
returns-clause-grown c =
    let now : Graphs = c.take_letter.new.self in
    IfOk-weaker c.take_letter.result (λ _. HasGrown c.write_letter.new.self.items now.graphs.items) (λ _. HasGrown c.args.self.now.graphs.items now.graphs.items)
    (λ _ grown. subst (λ (l : List (List ℕ)). HasGrown l now.graphs.items) c.write_letter.ensures.items grown) c.take_letter.ensures.grown

pub returns-clause-stock : goal.returns-clause-stock
returns-clause-stock c =
    let now : Graphs = c.take_letter.new.self in
    let mid : Graphs = written (goal.at.returns-clause-stock c).After-write_letter in
    IfOk-weaker c.take_letter.result
    (λ _. (B : Automaton) (keeping : Keeping) → IsStock B keeping mid → IsBlockOf B (kept_under keeping 0) (letter_graph B c.args.label) mid.graphs.fresh → IsStock B keeping now)
    (λ _. IsStock c.args.second.now AsTheyAre now)
    (λ _ f. f c.args.second.now AsTheyAre
    (stock_written c.args.second.now AsTheyAre c.args.self.now mid c.requires c.write_letter.ensures.pool c.write_letter.ensures.items refl refl c.requires.letter_block) c.write_letter.ensures.fresh) c.take_letter.ensures.stock
