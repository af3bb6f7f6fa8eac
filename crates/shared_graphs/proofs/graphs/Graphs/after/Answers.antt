use Rattle.std.proofs.Common.{subst}
use Rattle.shared_graphs.specs.Memo.{HasAnswer}
use Rattle.shared_graphs.specs.Graphs.{AsTheyAre, FitsStep}
use Rattle.shared_graphs.specs.declared.memo.Answer.TheVariants.{Number}
use Rattle.shared_graphs.proofs.GraphsLemmas.{stock_written, told_found}
use Rattle.shared_graphs.proofs.TakenLemmas.{taken_grown, taken_is, taken_stock}
use Rattle.shared_graphs.proofs.graphs.Graphs.after.Goals as goal

pub returns-in-Some-Number-clause-is : goal.returns-in-Some-Number-clause-is
returns-in-Some-Number-clause-is c =
    (told_found (FitsStep c.args.second.now AsTheyAre c.args.self.now.graphs.items) c.args.self.now.steps.told.items c.args.from c.args.label (Number c.in-Some-Number.number) c.requires.stock.steps
    (subst (HasAnswer c.args.self.now.steps.told.items c.args.from c.args.label) c.in-Some-Number.field-0-is c.in-Some-Number.ensures)).1

pub returns-clause-is : goal.returns-clause-is
returns-clause-is c =
    taken_is c.take_step.result c.args.second.now AsTheyAre c.args.from c.args.label c.args.self.now c.write_extended.new.self c.take_step.new.self c.write_extended.ensures.items c.write_extended.ensures.fresh c.take_step.ensures.is

pub returns-clause-grown : goal.returns-clause-grown
returns-clause-grown c = taken_grown c.take_step.result c.args.self.now.graphs.items c.write_extended.new.self.graphs.items c.take_step.new.self.graphs.items c.write_extended.ensures.items c.take_step.ensures.grown

pub returns-clause-stock : goal.returns-clause-stock
returns-clause-stock c =
    let written = c.write_extended.ensures in
    taken_stock c.take_step.result c.args.second.now AsTheyAre c.args.from c.args.label c.args.self.now c.write_extended.new.self c.take_step.new.self written.items written.fresh
    (stock_written c.args.second.now AsTheyAre c.args.self.now c.write_extended.new.self c.requires.stock written.pool written.items written.letters written.steps written.letter_block) c.requires.formed c.take_step.ensures.stock
