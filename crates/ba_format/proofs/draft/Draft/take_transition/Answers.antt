use Rattle.std.proofs.Common.{arith}
use Rattle.std.proofs.lemmas.Result.{err_from_is_err_and}
use Rattle.ba_format.proofs.TakeLemmas.{source_not_taken, transition_not_taken, transition_taken}
use Rattle.ba_format.proofs.draft.Draft.take_transition.Goals as goal

pub returns-in_err-source : goal.returns-in_err-source
returns-in_err-source c = λ entries s f.
    let p = err_from_is_err_and c.from_residual.result c.from_residual.ensures.1 in
    let not_taken = source_not_taken c.args.limits.now entries c.args.label.now c.args.source.now c.args.target.now c.args.self.now s f c.in_default.not-States c.in_err-source.field-0.0 c.in_err-source.ensures in
    rw (p.1, p.2) not_taken

pub returns-then-branch-limits : goal.returns-then-branch-limits
returns-then-branch-limits c = λ entries s f.
    transition_not_taken c.args.limits.now entries c.args.label.now c.args.source.now c.args.target.now c.args.self.now s f c.in_default.not-States
    c.number.new.texts c.in_ok-source.source c.in_ok-source.ensures c.number-2.new.texts c.in_ok-target.target c.in_ok-target.ensures
    c.number-3.new.texts c.in_ok-label.label c.in_ok-label.ensures c.note_transition.new.self c.in_ok-note_transition.ensures.noted (omega (arith, c.in_ok-note_transition.ensures.count))

pub returns : goal.returns
returns c = λ entries s f.
    transition_taken c.args.limits.now entries c.args.label.now c.args.source.now c.args.target.now c.args.self.now s f c.in_default.not-States
    c.number.new.texts c.in_ok-source.source c.in_ok-source.ensures c.number-2.new.texts c.in_ok-target.target c.in_ok-target.ensures
    c.number-3.new.texts c.in_ok-label.label c.in_ok-label.ensures c.note_transition.new.self c.in_ok-note_transition.ensures.noted (omega (arith, c.in_ok-note_transition.ensures.count))
