use Rattle.std.proofs.Common.{◌≡◌, ◌∙◌, ◌-◌, ℕ, List, ◌∷◌, length, take, drop, refl, sym, ap, subst, arith}
use Rattle.std.proofs.lemmas.List.{nil_from_length}
use Rattle.std.specs.Io.KnownBytes.{append_known}
use Rattle.shelf_io.specs.Seen.{ShelfSeen, SinkSeen, call}
use Rattle.equal_batch.specs.declared.questions.Question.{Question}
use Rattle.rabit_frame.proofs.TurnLemmas.{split_at_first}
use Rattle.rabit_cli.specs.Batch.{question_line, IsCarriedEach}
use Rattle.rabit_cli.proofs.BatchLemmas.{each_none, each_more, each_refused}
use Rattle.rabit_cli.proofs.batching.+carry_each.Goals as goal

pub returns-in-empty : goal.returns-in-empty
returns-in-empty g t c =
    let few = c.in-empty.len_below in
    let none = nil_from_length c.args.questions.now (omega arith) in
    let shelf : ShelfSeen = g.H.Shelf.seen c.args.shelf.now in
    let sink : SinkSeen = g.K.Sink.seen c.args.out.now in
    subst (λ (qs : List Question). IsCarriedEach c.args.number qs (call shelf shelf sink sink 0)) (sym none) (each_none c.args.number shelf sink)

pub returns-in-Ok : goal.returns-in-Ok
returns-in-Ok g t c =
    let qs : List Question = c.args.questions.now in
    let q : Question = c.first-item.result in
    let rest : List Question = take (length qs - 1) (drop 1 qs) in
    let split : qs ≡ q ∷ rest = split_at_first qs q q refl c.first-item.is c.in-len1-up.len_at_least in
    let number = c.args.number in
    let status = c.answer_one-status.result in
    let old : ShelfSeen = g.H.Shelf.seen c.args.shelf.now in
    let between : ShelfSeen = g.H.Shelf.seen c.answer_one-status.new.shelf in
    let new : ShelfSeen = g.H.Shelf.seen c.carry_each.new.shelf in
    let sink : SinkSeen = g.K.Sink.seen c.args.out.now in
    let sink1 : SinkSeen = g.K.Sink.seen c.give.new.self in
    let sink2 : SinkSeen = g.K.Sink.seen c.carry_each.new.out in
    let sends : sink1.sent ≡ append_known sink.sent (question_line number status) =
    c.in-Ok.ensures.gives.sends ∙ ap (append_known sink.sent) (c.as_slice.ensures.value ∙ c.set_line.ensures.line) in
    let P : List Question → Type 0 = λ xs. IsCarriedEach number xs (call old new sink sink2 c.carry_each.result) in
    subst P (sym split)
    (each_more q status number old between c.answer_one-status.ensures.asked rest c.carry_each.result new sink sink1 sink2 sends c.in-Ok.ensures.gives.cause.done c.in-Ok.ensures.gives.once c.carry_each.ensures)

pub returns-in-Err : goal.returns-in-Err
returns-in-Err g t c =
    let qs : List Question = c.args.questions.now in
    let q : Question = c.first-item.result in
    let rest : List Question = take (length qs - 1) (drop 1 qs) in
    let split : qs ≡ q ∷ rest = split_at_first qs q q refl c.first-item.is c.in-len1-up.len_at_least in
    let number = c.args.number in
    let status = c.answer_one-status.result in
    let old : ShelfSeen = g.H.Shelf.seen c.args.shelf.now in
    let between : ShelfSeen = g.H.Shelf.seen c.answer_one-status.new.shelf in
    let sink : SinkSeen = g.K.Sink.seen c.args.out.now in
    let sink' : SinkSeen = g.K.Sink.seen c.give.new.self in
    let (n, front) = c.in-Err.ensures.gives.sends in
    let sends : sink'.sent ≡ append_known sink.sent (take n (question_line number status)) =
    front ∙ ap (λ (b : List ℕ). append_known sink.sent (take n b)) (c.as_slice.ensures.value ∙ c.set_line.ensures.line) in
    let P : List Question → Type 0 = λ xs. IsCarriedEach number xs (call old between sink sink' 7) in
    subst P (sym split) (each_refused q status number old between c.answer_one-status.ensures.asked rest sink sink' n sends c.in-Err.ensures.gives.cause.refused c.in-Err.ensures.gives.once)
