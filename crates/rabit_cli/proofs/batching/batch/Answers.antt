use Rattle.std.proofs.Common.{◌≡◌, List, IfSome, inl, inr, subst, rules}
use Rattle.shelf_io.specs.Seen.{ShelfSeen}
use Rattle.equal_batch.specs.declared.questions.Question.{Question}
use Rattle.rabit_frame.specs.declared.parts.Ending.TheVariants as ending
use Rattle.rabit_frame.specs.declared.parts.Value.{Value}
use Rattle.rabit_frame.specs.declared.parts.Value.TheVariants as value
use Rattle.rabit_frame.specs.Reading.{FileReads, IsOfKind}
use Rattle.rabit_frame.proofs.SeenLemmas.{read_files, read_begins, read_puts, read_put_faults}
use Rattle.rabit_frame.proofs.EndLemmas.{ends_refused, begun_refused}
use Rattle.rabit_cli.proofs.BatchLemmas.{batch_unread, batch_asked}
use Rattle.rabit_cli.proofs.batching.batch.Goals as goal

pub returns-in-Ok-Questions : goal.returns-in-Ok-Questions
returns-in-Ok-Questions g c =
    let old : ShelfSeen = g.H.Shelf.seen c.args.shelf.now in
    let new : ShelfSeen = g.H.Shelf.seen c.read_alone.new.shelf in
    let e = c.read_alone.ensures in
    let none : new.read_faults ≡ old.read_faults = search rules in
    batch_unread c.args.list.now c.list_slot.result old new (g.K.Sink.seen c.args.out.now) (g.K.Sink.seen c.say.new.out) c.say.result ending.OutOfMemory c.list_slot.ensures
    (ends_refused _ old new none (read_files _ old new e.only_read) (read_put_faults _ old new e.only_read)) c.say.ensures.said c.say.ensures.given_once e.counts_missing (read_puts _ old new e.only_read)
    (begun_refused _ old new (inr (inl (read_begins _ old new e.only_read))))

pub returns : goal.returns
returns g c =
    let old : ShelfSeen = g.H.Shelf.seen c.args.shelf.now in
    let new : ShelfSeen = g.H.Shelf.seen c.read_alone.new.shelf in
    let e = c.read_alone.ensures in
    batch_unread c.args.list.now c.list_slot.result old new (g.K.Sink.seen c.args.out.now) (g.K.Sink.seen c.say-in-Err.new.out) c.say-in-Err.result c.in-Err.ending c.list_slot.ensures
    c.in-Err.ensures.ends c.say-in-Err.ensures.said c.say-in-Err.ensures.given_once e.counts_missing (read_puts _ old new e.only_read) c.in-Err.ensures.begun

pub returns-in-Ok-with_capacity : goal.returns-in-Ok-with_capacity
returns-in-Ok-with_capacity g c =
    let old : ShelfSeen = g.H.Shelf.seen c.args.shelf.now in
    let mid : ShelfSeen = g.H.Shelf.seen c.read_alone.new.shelf in
    let new : ShelfSeen = g.H.Shelf.seen c.carry_each.new.shelf in
    let questions : List Question = c.as_slice.result.now in
    let is : c.in-Ok-Questions.field-0 ≡ value.Questions questions = search rules in
    batch_asked c.args.list.now c.list_slot.result old mid new (g.K.Sink.seen c.args.out.now) (g.K.Sink.seen c.carry_each.new.out) c.carry_each.result questions c.list_slot.ensures
    (subst (IsOfKind c.list_slot.result.kind) is c.in-Ok-Questions.ensures.kind) (subst (λ (v : Value). IfSome old.files (λ files. FileReads files c.list_slot.result v)) is c.in-Ok-Questions.ensures.read)
    c.read_alone.ensures.counts_missing c.read_alone.ensures.only_read c.in-Ok-Questions.ensures.faults_stay c.carry_each.ensures
