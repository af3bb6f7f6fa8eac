use Rattle.std.proofs.Common.{rules, ◌≡◌, ◌∙◌, sym, subst}
use Rattle.auto_core.specs.Automaton.{Automaton}
use Rattle.auto_core.specs.Graph.{letter_graph}
use Rattle.shared_graphs.specs.Memo.{HasAnswer}
use Rattle.shared_graphs.specs.Graphs.{AsTheyAre, FitsLetter, IsBlockOf}
use Rattle.shared_graphs.specs.declared.memo.Answer.TheVariants.{Number}
use Rattle.shared_graphs.proofs.GraphsLemmas.{told_found}
use Rattle.shared_graphs.proofs.graphs.Graphs.write_letter_block.Goals as goal

pub returns-in-Some-Number-clause-letter_block : goal.returns-in-Some-Number-clause-letter_block
returns-in-Some-Number-clause-letter_block c =
    let B : Automaton = c.args.second.now in
    let fits = told_found (FitsLetter B c.requires.0 c.args.self.now.graphs.items) c.args.self.now.letters.told.items 0 c.args.label (Number c.in-Some-Number.number) c.requires.1.letters
    (subst (HasAnswer c.args.self.now.letters.told.items 0 c.args.label) c.in-Some-Number.field-0-is c.in-Some-Number.ensures)
    in
    let copied : c.copy_from_slice.new.self.items ≡ c.block.result.now = search rules in
    subst (IsBlockOf B AsTheyAre (letter_graph B c.args.label)) (sym (copied ∙ c.block.ensures)) fits.block
