use Rattle.std.proofs.Common.{◌≤◌, ◌<◌, ◌+◌, length, sym, ◌∙◌, subst, arith}
use Rattle.equal_batch.proofs.ListLemmas.{Underway, Underway-more}
use Rattle.equal_batch.proofs.questions.read_lines.Goals as goal

pub loop-rest-preserved : goal.loop-rest-preserved
loop-rest-preserved c =
    let bytes = c.args.bytes.now in
    let rest = c.loop-rest.rest.now in
    let number = c.loop-rest.number in
    let first = c.first_line.ensures in
    let some : 0 < length rest = omega (arith, first.shorter) in
    let early : number ≤ 1000 = omega (arith, c.if-number-gt-MOST_LINES.false) in
    let question = c.in_ok-question_of-in-Some.field-0 in
    subst (Underway bytes c.first_line.result.1.now (number + 1)) (sym c.in_ok-push-in-Some.ensures.ok)
    (Underway-more bytes rest c.first_line.result.0.now c.first_line.result.1.now number c.loop-rest.questions c.loop-rest.invariant some first.lines
    question (c.in_ok-question_of-in-Some.ensures ∙ sym c.in-Some.ensures.1) c.in-Some.ensures.0 early first.whole)
