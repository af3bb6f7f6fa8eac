use Rattle.std.proofs.Common.{◌≡◌, ◌∙◌, true, false, ◌+◌, ◌≤◌, length, take, sym, arith}
use Rattle.ba_format.specs.Joining.{joined_labels}
use Rattle.ba_format.proofs.JoinLemmas.{absent, joined-step}
use Rattle.ba_format.proofs.joining.add_new.Goals as goal
use Rattle.ba_format.proofs.joining.add_new.Goals.{then-not-has+in_ok-add, else-not-has}

pub add-requires-clause-new : goal.add-requires-clause-new
add-requires-clause-new c = absent c.loop-at.joined c.get-text.result.now (sym c.if-not-has.ensures)

pub loop-at-preserved : goal.loop-at-preserved
loop-at-preserved c =
    elim c.if-not-has.branch as (λ _. (c.if-not-has.joined ≡ joined_labels c.args.joined.now (take (c.loop-at.at + 1) c.args.texts.now)) × (length c.if-not-has.joined ≤ length c.args.joined.now + (c.loop-at.at + 1))) [
      | then-not-has+in_ok-add w ↦ joined-step c.args.joined.now c.args.texts.now c.loop-at.joined c.if-not-has.joined c.loop-at.at false c.get-text.result.now c.count-at-end.ensures.different (omega arith) c.get-text.ensures (sym w.if-not-has.ensures) c.loop-at.invariant.0 c.loop-at.invariant.1 (w.joined-is ∙ w.in_ok-add.ensures.ok)
      | else-not-has w ↦ joined-step c.args.joined.now c.args.texts.now c.loop-at.joined c.if-not-has.joined c.loop-at.at true c.get-text.result.now c.count-at-end.ensures.different (omega arith) c.get-text.ensures (sym w.if-not-has.ensures) c.loop-at.invariant.0 c.loop-at.invariant.1 w.joined-is
    ]
