use Rattle.std.proofs.Common.{ℕ, IfSome, sym, subst}
use Rattle.shelf_io.specs.Seen.{ShelfSeen}
use Rattle.auto_core.specs.declared.parts.Mode.TheVariants.{Buchi}
use Rattle.rabit_frame.specs.Ending.{BeforeAndAfter}
use Rattle.rabit_cli.specs.Include.{usual_terms, LeavesDecided}
use Rattle.rabit_cli.specs.Batch.{AnswersQuestion, IsQuestionStatus, ShelfFaults, unsaid}
use Rattle.rabit_cli.proofs.BatchLemmas.{question_status, answers_question, leaves_question, shelf_faults, shows_question}
use Rattle.rabit_cli.proofs.batching.answer_one.Goals as goal

pub returns-clause-asked : goal.returns-clause-asked
returns-clause-asked g c =
    let old : ShelfSeen = g.H.Shelf.seen c.args.shelf.now in
    let new : ShelfSeen = g.H.Shelf.seen c.carry_out_unsaid.new.shelf in
    let (e, ends, is) = c.carry_out_unsaid.ensures.ends in
    record { end = e; ends = ends; has = sym is; calls = c.carry_out_unsaid.ensures.calls; faults = subst (λ n. ShelfFaults n old new) (sym is) (shelf_faults c.args.question.now old new e ends) }

pub returns-clause-status : goal.returns-clause-status
returns-clause-status g c =
    let (e, ends, is) = c.carry_out_unsaid.ensures.ends in
    subst IsQuestionStatus (sym is) (question_status c.args.question.now e ends.may)

pub returns-clause-shows : goal.returns-clause-shows
returns-clause-shows g c =
    let (e, ends, is) = c.carry_out_unsaid.ensures.ends in
    shows_question c.args.question.now c.carry_out_unsaid.result (g.H.Shelf.seen c.args.shelf.now) (g.H.Shelf.seen c.carry_out_unsaid.new.shelf) e ends (sym is)

pub returns-clause-exact : goal.returns-clause-exact
returns-clause-exact g c =
    let old : ShelfSeen = g.H.Shelf.seen c.args.shelf.now in
    let new : ShelfSeen = g.H.Shelf.seen c.carry_out_unsaid.new.shelf in
    let (e, ends, is) = c.carry_out_unsaid.ensures.ends in
    let P : ℕ → Type 0 = λ n. IfSome old.files (AnswersQuestion c.args.question.now n old new) in
    subst P (sym is) (answers_question c.args.question.now old new e ends)

pub returns-clause-files : goal.returns-clause-files
returns-clause-files g c =
    let q = c.args.question.now in
    let old : ShelfSeen = g.H.Shelf.seen c.args.shelf.now in
    let new : ShelfSeen = g.H.Shelf.seen c.carry_out_unsaid.new.shelf in
    let (e, ends, is) = c.carry_out_unsaid.ensures.ends in
    let P : ℕ → Type 0 = λ n. BeforeAndAfter old.files new.files (LeavesDecided q.first q.second q.cert (usual_terms Buchi) (unsaid n old new)) in
    subst P (sym is) (leaves_question q old new e ends)
