use Rattle.std.proofs.Common.{◌≡◌, ℕ, ◌+◌, ◌*◌, false, List, length, subst, ◌∙◌, sym, arith}
use Rattle.std.proofs.lemmas.Bool.{false≢true}
use Rattle.auto_core.specs.Rows.{cell_of}
use Rattle.auto_core.specs.Game.{Holds}
use Rattle.look_round.specs.Answering.{IsAnsweredAtOnce}
use Rattle.look_round.proofs.AnsweringLemmas.{HasClearedUpto, arrival_cleared, arrival_left, all_cleared}
use Rattle.look_round.proofs.answer_rows.clear_arrivals.Goals as goal
use Rattle.look_round.proofs.answer_rows.clear_arrivals.Goals.{then-m-labels+then-not-has_reply, else-m-labels, else-m-labels-via-then-m-labels+else-not-has_reply, else-m-labels-via-else-m-labels}

pub loop-at-preserved : goal.loop-at-preserved
loop-at-preserved g c =
    let M = g.S.Side.goes c.args.side.now c.args.automaton.now in
    let ok = g.S.Side.matches c.args.side.now c.args.automaton.now in
    let W : ℕ → ℕ → Type 0 = Holds c.args.rel.now.pairs in
    let P : ℕ → ℕ → Type 0 = λ a q. IsAnsweredAtOnce M ok W a c.args.t q in
    let moves = g.S.Side.arriving c.args.side.now c.args.automaton.now c.args.r in
    let l = c.args.labels in
    let w = c.args.width in
    let t = c.args.t in
    let old = c.args.table.now in
    let now = c.loop-at.table in
    let n = c.loop-at.at in
    let m = c.nth_arrival-m.result in
    let T : List ℕ → Type 0 = λ table. HasClearedUpto moves P old table l w t (n + 1) in
    let width = c.requires.width in
    let to_in = c.nth_arrival-m.ensures.in_range in
    elim c.if-m-labels.branch [
      | then-m-labels+then-not-has_reply b ↦
          let is = b.place_in_row-place.ensures.is in
          subst T (sym b.table-is)
          (arrival_cleared moves P old now b.clear_cell.new.table l w t n m c.loop-at.invariant c.nth_arrival-m.ensures.item b.if-m-labels.true (omega arith)
          (λ (r, go, match, held). false≢true (sym b.if-not-has_reply.true ∙ b.has_reply.ensures.1 (r, (go, match), (b.row.ensures.bits r).1 held)))
          (subst (λ x. cell_of b.clear_cell.new.table (l * w) t x ≡ false) is b.clear_cell.ensures.here)
          (λ s x x_in apart. b.clear_cell.ensures.others s x x_in (λ same. apart ((same.0, same.1 ∙ is)))))
      | else-m-labels b ↦
          subst T (sym b.table-is)
          (elim b.else-m-labels.branch [
            | else-m-labels-via-then-m-labels+else-not-has_reply x ↦
                arrival_left moves P old now l w t n m c.loop-at.invariant c.nth_arrival-m.ensures.item
                (λ _. let (r, reply, bit) = x.has_reply.ensures.0 x.if-not-has_reply.false in (r, reply.0, reply.1, (x.row.ensures.bits r).0 bit))
            | else-m-labels-via-else-m-labels x ↦
                let none = x.if-m-labels.false in
                arrival_left moves P old now l w t n m c.loop-at.invariant c.nth_arrival-m.ensures.item (λ lt. absurd (omega arith))
          ])
    ]

pub returns-clause-here : goal.returns-clause-here
returns-clause-here g c =
    let A = c.args.automaton.now in
    let s = c.args.side.now in
    let moves = g.S.Side.arriving s A c.args.r in
    let count : c.loop-at.at ≡ length moves = omega (arith, c.arrivals-at-end.ensures) in
    all_cleared moves (λ q a. g.S.Side.goes s A q a c.args.r) (λ a q. IsAnsweredAtOnce (g.S.Side.goes s A) (g.S.Side.matches s A) (Holds c.args.rel.now.pairs) a c.args.t q) c.args.table.now
    c.loop-at.table c.args.labels c.args.width c.args.t c.loop-at.at (λ a q. g.met.S.Side.arrives s A q a c.args.r) count c.loop-at.invariant
