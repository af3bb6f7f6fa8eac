use Rattle.std.proofs.Common.{◌≡◌, ◌+◌, ℕ, List, length, subst, sym, arith}
use Rattle.std.proofs.lemmas.Bool.{iff_false}
use Rattle.look_round.proofs.ReplyLemmas.{HasRepliesUpto, no_replies, reply_added, reply_passed, replies_done}
use Rattle.look_round.proofs.replies.mark_replies.Goals as goal
use Rattle.look_round.proofs.replies.mark_replies.Goals.{then-is_reply, else-is_reply}

pub loop-at-init : goal.loop-at-init
loop-at-init g c = no_replies (g.S.Side.list c.args.side.now c.args.automaton.now c.args.from) (g.S.Side.matches c.args.side.now c.args.automaton.now) c.args.step.label c.args.step.to c.args.table.now c.args.width c.args.row

pub loop-at-preserved : goal.loop-at-preserved
loop-at-preserved g c =
    let moves = g.S.Side.list c.args.side.now c.args.automaton.now c.args.from in
    let ok = g.S.Side.matches c.args.side.now c.args.automaton.now in
    let a = c.args.step.label in
    let p = c.args.step.to in
    let old = c.args.table.now in
    let now = c.loop-at.table in
    let n = c.loop-at.at in
    let m = c.nth-reply.result in
    let P : List ℕ → Type 0 = λ t. HasRepliesUpto moves ok a p old t c.args.width c.args.row (n + 1) in
    let room = c.requires.room in
    elim c.if-is_reply.branch [
      | then-is_reply w ↦
          let yes = c.is_reply.ensures.0 w.if-is_reply.true in
          let target = c.nth-reply.ensures.in_range in
          subst P (sym w.table-is)
          (reply_added moves ok a p old now w.set_cell.new.table c.args.width c.args.row n c.loop-at.invariant m c.nth-reply.ensures.item yes.0 yes.1 (omega arith) w.set_cell.ensures.here w.set_cell.ensures.others)
      | else-is_reply w ↦
          subst P (sym w.table-is)
          (reply_passed moves ok a p old now c.args.width c.args.row n c.loop-at.invariant m c.nth-reply.ensures.item (iff_false c.is_reply.ensures w.if-is_reply.false))
    ]

pub returns-clause-here : goal.returns-clause-here
returns-clause-here g c =
    let A = c.args.automaton.now in
    let s = c.args.side.now in
    let count : c.loop-at.at ≡ length (g.S.Side.list s A c.args.from) = omega (arith, c.moves-at-end.ensures) in
    replies_done (g.S.Side.list s A c.args.from) (g.S.Side.goes s A c.args.from) (g.S.Side.matches s A) c.args.step.label c.args.step.to
    c.args.table.now c.loop-at.table c.args.width c.args.row c.loop-at.at (g.met.S.Side.lists s A c.args.from) c.loop-at.invariant count

pub returns-clause-others : goal.returns-clause-others
returns-clause-others g c = c.loop-at.invariant.others
