use Rattle.std.proofs.Common.{arith}
use Rattle.look_round.proofs.AnsweringLemmas.{left_others}
use Rattle.look_round.proofs.answer_rows.leave_others.Goals as goal

pub returns : goal.returns
returns c =
    left_others c.args.row.now c.args.rest.now c.loop-j.rest c.loop-j.auto.rest c.requires
    (λ k k_in. c.loop-j.invariant.0 k (omega arith))
