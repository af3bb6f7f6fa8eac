use Rattle.std.proofs.Common.{Global, Option, map}
use Rattle.std.specs.String.{string_bytes}
use Rattle.shelf_io.specs.Seen.{Call, call}
use Rattle.rabit_frame.specs.Request.{Request}
use Rattle.rabit_frame.specs.Carrying.{IsCarriedOut, TellsFaults, MakesCalls, SaysUsage}
use Rattle.rabit_words.specs.Question.{Question, question_of}
use Rattle.rabit_words.proofs.RangeLemmas.{question_is_proper}
use Rattle.rabit_frame.specs.Printed.{usage_text}
use Rattle.rabit_cli.specs.Batch.{IsBatch}
use Rattle.rabit_cli.specs.Commands.{IfSingle, IfBatch, Shows, LeavesFiles}
use Rattle.rabit_cli.specs.Complete.{AnswersWhatReads}
use Rattle.rabit_cli.proofs.CommandLemmas.{one_meaning, of_batch, shows, usage, usage_of_batch, leaves, batches, if_single}
use Rattle.rabit_cli.proofs.CompleteLemmas.{answers_what_reads}
use Rattle.rabit_cli.proofs.top.run.Goals as goal

pub carry_out-requires-clause-one : goal.carry_out-requires-clause-one
carry_out-requires-clause-one g c = let words = map (string_bytes {Z = Global}) c.args.words.now in one_meaning (question_of words) (question_is_proper words)

pub returns-clause-carried : goal.returns-clause-carried
returns-clause-carried g c =
    let words = map (string_bytes {Z = Global}) c.args.words.now in
    let seen : Call = call (g.H.Shelf.seen c.args.shelf.now) (g.H.Shelf.seen c.carry_out.new.shelf) (g.K.Sink.seen c.args.out.now) (g.K.Sink.seen c.carry_out.new.out) c.carry_out.result in
    if_single (question_of words) (λ (q : Request). IsCarriedOut q seen) c.carry_out.ensures.carried

pub returns-clause-faults : goal.returns-clause-faults
returns-clause-faults g c =
    let words = map (string_bytes {Z = Global}) c.args.words.now in
    let seen : Call = call (g.H.Shelf.seen c.args.shelf.now) (g.H.Shelf.seen c.carry_out.new.shelf) (g.K.Sink.seen c.args.out.now) (g.K.Sink.seen c.carry_out.new.out) c.carry_out.result in
    if_single (question_of words) (λ (q : Request). TellsFaults q seen) c.carry_out.ensures.faults

pub returns-clause-calls : goal.returns-clause-calls
returns-clause-calls g c =
    let words = map (string_bytes {Z = Global}) c.args.words.now in
    let seen : Call = call (g.H.Shelf.seen c.args.shelf.now) (g.H.Shelf.seen c.carry_out.new.shelf) (g.K.Sink.seen c.args.out.now) (g.K.Sink.seen c.carry_out.new.out) c.carry_out.result in
    if_single (question_of words) (λ (q : Request). MakesCalls q seen) c.carry_out.ensures.calls

pub returns-clause-usage : goal.returns-clause-usage
returns-clause-usage g c =
    let words = map (string_bytes {Z = Global}) c.args.words.now in
    let seen : Call = call (g.H.Shelf.seen c.args.shelf.now) (g.H.Shelf.seen c.carry_out.new.shelf) (g.K.Sink.seen c.args.out.now) (g.K.Sink.seen c.carry_out.new.out) c.carry_out.result in
    usage seen (question_of words) c.carry_out.ensures.carried

pub returns-clause-shows : goal.returns-clause-shows
returns-clause-shows g c =
    let words = map (string_bytes {Z = Global}) c.args.words.now in
    let seen : Call = call (g.H.Shelf.seen c.args.shelf.now) (g.H.Shelf.seen c.carry_out.new.shelf) (g.K.Sink.seen c.args.out.now) (g.K.Sink.seen c.carry_out.new.out) c.carry_out.result in
    shows seen (question_of words) (question_is_proper words) c.carry_out.ensures.carried

pub returns-clause-complete : goal.returns-clause-complete
returns-clause-complete g c =
    let words = map (string_bytes {Z = Global}) c.args.words.now in
    let seen : Call = call (g.H.Shelf.seen c.args.shelf.now) (g.H.Shelf.seen c.carry_out.new.shelf) (g.K.Sink.seen c.args.out.now) (g.K.Sink.seen c.carry_out.new.out) c.carry_out.result in
    answers_what_reads seen (question_of words) c.carry_out.ensures.carried

pub returns-clause-leaves : goal.returns-clause-leaves
returns-clause-leaves g c =
    let words = map (string_bytes {Z = Global}) c.args.words.now in
    let seen : Call = call (g.H.Shelf.seen c.args.shelf.now) (g.H.Shelf.seen c.carry_out.new.shelf) (g.K.Sink.seen c.args.out.now) (g.K.Sink.seen c.carry_out.new.out) c.carry_out.result in
    leaves seen (question_of words) (question_is_proper words) c.carry_out.ensures.carried

pub returns-clause-batch : goal.returns-clause-batch
returns-clause-batch g c =
    let words = map (string_bytes {Z = Global}) c.args.words.now in
    let seen : Call = call (g.H.Shelf.seen c.args.shelf.now) (g.H.Shelf.seen c.carry_out.new.shelf) (g.K.Sink.seen c.args.out.now) (g.K.Sink.seen c.carry_out.new.out) c.carry_out.result in
    batches seen (question_of words) c.carry_out.ensures.carried c.carry_out.ensures.calls

pub returns-in-Some-clause-carried : goal.returns-in-Some-clause-carried
returns-in-Some-clause-carried g c =
    let seen : Call = call (g.H.Shelf.seen c.args.shelf.now) (g.H.Shelf.seen c.batch.new.shelf) (g.K.Sink.seen c.args.out.now) (g.K.Sink.seen c.batch.new.out) c.batch.result in
    let P : Option Question → Type 0 = λ asked. IfSingle asked (λ (q : Request). IsCarriedOut q seen) in
    of_batch c.question.result (map (string_bytes {Z = Global}) c.args.words.now) c.in-Some.list.now c.in-Some.ensures c.question.ensures.asked P tt

pub returns-in-Some-clause-faults : goal.returns-in-Some-clause-faults
returns-in-Some-clause-faults g c =
    let seen : Call = call (g.H.Shelf.seen c.args.shelf.now) (g.H.Shelf.seen c.batch.new.shelf) (g.K.Sink.seen c.args.out.now) (g.K.Sink.seen c.batch.new.out) c.batch.result in
    let P : Option Question → Type 0 = λ asked. IfSingle asked (λ (q : Request). TellsFaults q seen) in
    of_batch c.question.result (map (string_bytes {Z = Global}) c.args.words.now) c.in-Some.list.now c.in-Some.ensures c.question.ensures.asked P tt

pub returns-in-Some-clause-calls : goal.returns-in-Some-clause-calls
returns-in-Some-clause-calls g c =
    let seen : Call = call (g.H.Shelf.seen c.args.shelf.now) (g.H.Shelf.seen c.batch.new.shelf) (g.K.Sink.seen c.args.out.now) (g.K.Sink.seen c.batch.new.out) c.batch.result in
    let P : Option Question → Type 0 = λ asked. IfSingle asked (λ (q : Request). MakesCalls q seen) in
    of_batch c.question.result (map (string_bytes {Z = Global}) c.args.words.now) c.in-Some.list.now c.in-Some.ensures c.question.ensures.asked P tt

pub returns-in-Some-clause-usage : goal.returns-in-Some-clause-usage
returns-in-Some-clause-usage g c =
    let seen : Call = call (g.H.Shelf.seen c.args.shelf.now) (g.H.Shelf.seen c.batch.new.shelf) (g.K.Sink.seen c.args.out.now) (g.K.Sink.seen c.batch.new.out) c.batch.result in
    let P : Option Question → Type 0 = λ asked. SaysUsage usage_text asked seen in
    of_batch c.question.result (map (string_bytes {Z = Global}) c.args.words.now) c.in-Some.list.now c.in-Some.ensures c.question.ensures.asked P (usage_of_batch seen c.in-Some.list.now c.batch.ensures)

pub returns-in-Some-clause-shows : goal.returns-in-Some-clause-shows
returns-in-Some-clause-shows g c =
    let seen : Call = call (g.H.Shelf.seen c.args.shelf.now) (g.H.Shelf.seen c.batch.new.shelf) (g.K.Sink.seen c.args.out.now) (g.K.Sink.seen c.batch.new.out) c.batch.result in
    let P : Option Question → Type 0 = λ asked. Shows asked seen in
    of_batch c.question.result (map (string_bytes {Z = Global}) c.args.words.now) c.in-Some.list.now c.in-Some.ensures c.question.ensures.asked P tt

pub returns-in-Some-clause-complete : goal.returns-in-Some-clause-complete
returns-in-Some-clause-complete g c =
    let seen : Call = call (g.H.Shelf.seen c.args.shelf.now) (g.H.Shelf.seen c.batch.new.shelf) (g.K.Sink.seen c.args.out.now) (g.K.Sink.seen c.batch.new.out) c.batch.result in
    let P : Option Question → Type 0 = λ asked. AnswersWhatReads asked seen in
    of_batch c.question.result (map (string_bytes {Z = Global}) c.args.words.now) c.in-Some.list.now c.in-Some.ensures c.question.ensures.asked P tt

pub returns-in-Some-clause-leaves : goal.returns-in-Some-clause-leaves
returns-in-Some-clause-leaves g c =
    let seen : Call = call (g.H.Shelf.seen c.args.shelf.now) (g.H.Shelf.seen c.batch.new.shelf) (g.K.Sink.seen c.args.out.now) (g.K.Sink.seen c.batch.new.out) c.batch.result in
    let P : Option Question → Type 0 = λ asked. LeavesFiles asked seen in
    of_batch c.question.result (map (string_bytes {Z = Global}) c.args.words.now) c.in-Some.list.now c.in-Some.ensures c.question.ensures.asked P tt

pub returns-in-Some-clause-batch : goal.returns-in-Some-clause-batch
returns-in-Some-clause-batch g c =
    let seen : Call = call (g.H.Shelf.seen c.args.shelf.now) (g.H.Shelf.seen c.batch.new.shelf) (g.K.Sink.seen c.args.out.now) (g.K.Sink.seen c.batch.new.out) c.batch.result in
    let P : Option Question → Type 0 = λ asked. IfBatch asked (λ list. IsBatch list seen) in
    of_batch c.question.result (map (string_bytes {Z = Global}) c.args.words.now) c.in-Some.list.now c.in-Some.ensures c.question.ensures.asked P c.batch.ensures
