use Rattle.std.proofs.Common.{◌≡◌, ◌+◌, ◌*◌, ◌/◌, ◌<◌, ◌≤◌, ◌↔◌, ℕ, sym, ◌∙◌, arith}
use Rattle.auto_core.specs.Rows.{bit_of, cell_of}
use Rattle.auto_core.specs.Game.{Holds}
use Rattle.look_round.specs.Replies.{IsInRow, HasReply, HasReplyFrom}
use Rattle.look_round.proofs.KnownLemmas.{in_row, place_replies, known_kept}
use Rattle.look_round.proofs.StepLemmas.{reply_same}
use Rattle.look_round.proofs.round.step_into.Given.{Over}
use Rattle.look_round.proofs.round.step_into.Goals as goal
use Rattle.look_round.proofs.round.step_into.Goals.{After-meets}

-- The row after `number` has the replies.
stepped :
    (g : Over) (c : After-meets g) (r : ℕ)
    → HasReply c.write_row.new.table c.args.automaton.now.states c.args.width (c.args.number + 1) r
    ↔ HasReplyFrom (g.S.Side.goes c.args.side.now c.args.automaton.now) (g.S.Side.matches c.args.side.now c.args.automaton.now) c.args.step.label c.args.step.to
    (HasReply c.args.sets.now c.args.automaton.now.states c.args.width c.args.number) r
stepped g c r =
    let A = c.args.automaton.now in
    let s = c.args.side.now in
    let M = g.S.Side.goes s A in
    let ok = g.S.Side.matches s A in
    let n = A.states in
    let w = c.args.width in
    let known = c.find-place.new.self in
    let width = c.requires.width in
    let room : n ≤ w * 64 = omega arith in
    let e = c.find-place.ensures in
    let same : known.width ≡ w = e.kept.width ∙ c.requires.known.width ∙ sym width in
    let known_room : n ≤ known.width * 64 = omega arith in
    let from = in_row c.args.sets.now c.row_at-row.result.now n w c.args.number room (λ q near. sym (c.row_at-row.ensures.bits q near)) in
    let there = place_replies M ok (Holds c.args.rel.now.pairs) n known c.find-place.result c.args.left c.args.step.label c.args.step.to c.row_at-row.result.now known_room e.here e.replies r in (
      λ h.
          let lt = h.0 in
          let near : r < w * 64 = omega arith in
          let known_near : r < known.width * 64 = omega arith in
          let f = there.0 (h.0, sym (c.replies_at.ensures.bits r known_near) ∙ (sym (c.write_row.ensures.here r near) ∙ h.1)) in
          (f.0, (from f.0).1 f.1, f.2),
      λ h.
          let f = there.1 (h.0, (from h.0).0 h.1, h.2) in
          let lt = f.0 in
          let near : r < w * 64 = omega arith in
          let known_near : r < known.width * 64 = omega arith in
          (f.0, c.write_row.ensures.here r near ∙ (c.replies_at.ensures.bits r known_near ∙ f.1)),
    )

pub returns-clause-next : goal.returns-clause-next
returns-clause-next g c = stepped g (goal.at.returns-clause-next g c).After-meets

pub returns-clause-told : goal.returns-clause-told
returns-clause-told g c =
    let next = stepped g (goal.at.returns-clause-told g c).After-meets in
    let n = c.args.automaton.now.states in
    let width = c.requires.width in
    let equal = c.requires.equal in (
      λ h.
          let (r, bit, reply) = c.meets.ensures.0 h in
          let related = (c.row.ensures.bits r).0 bit in
          let lt = (c.row.ensures.valid.in_range c.args.step.to r related).1 in
          let r_in : r < n = omega arith in
          let near : r < c.args.width * 64 = omega arith in
          (r, (next r).0 (r_in, sym (c.row_at.ensures.bits r near) ∙ reply), related),
      λ (r, reply, related).
          let there = (next r).1 reply in
          let lt = there.0 in
          let near : r < c.args.width * 64 = omega arith in
          c.meets.ensures.1 (r, (c.row.ensures.bits r).1 related, c.row_at.ensures.bits r near ∙ there.1),
    )

pub returns-clause-known : goal.returns-clause-known
returns-clause-known g c =
    let A = c.args.automaton.now in
    let s = c.args.side.now in
    known_kept (g.S.Side.goes s A) (g.S.Side.matches s A) (Holds c.args.rel.now.pairs) A.states c.args.known.now c.find-place.new.self c.find-place.ensures.kept c.find-place.ensures.replies c.requires.known
