use Rattle.std.proofs.Common.{◌≡◌, ℕ, ◌+◌, ◌*◌, true, List, length, subst, sym, ◌∙◌, arith}
use Rattle.auto_core.specs.Rows.{cell_of}
use Rattle.look_round.proofs.AnsweringLemmas.{HasArrivalsUpto, arrival_marked, arrival_passed, all_arrived}
use Rattle.look_round.proofs.answer_rows.mark_arrivals.Goals as goal
use Rattle.look_round.proofs.answer_rows.mark_arrivals.Goals.{then-m-labels, else-m-labels}

pub loop-at-preserved : goal.loop-at-preserved
loop-at-preserved g c =
    let moves = g.S.Side.arriving c.args.side.now c.args.automaton.now c.args.r in
    let l = c.args.labels in
    let w = c.args.width in
    let t = c.args.t in
    let old = c.args.table.now in
    let now = c.loop-at.table in
    let n = c.loop-at.at in
    let m = c.nth_arrival-m.result in
    let P : List ℕ → Type 0 = λ table. HasArrivalsUpto moves old table l w t (n + 1) in
    let width = c.requires.width in
    elim c.if-m-labels.branch [
      | then-m-labels b ↦
          let to_in = c.nth_arrival-m.ensures.in_range in
          let is = b.place_in_row-place.ensures.is in
          subst P (sym b.table-is)
          (arrival_marked moves old now b.set_cell.new.table l w t n m c.loop-at.invariant c.nth_arrival-m.ensures.item b.if-m-labels.true (omega arith)
          (subst (λ x. cell_of b.set_cell.new.table (l * w) t x ≡ true) is b.set_cell.ensures.here)
          (λ s x x_in apart. b.set_cell.ensures.others s x x_in (λ same. apart ((same.0, same.1 ∙ is)))))
      | else-m-labels b ↦
          let none = b.if-m-labels.false in
          subst P (sym b.table-is) (arrival_passed moves old now l w t n m c.loop-at.invariant c.nth_arrival-m.ensures.item (λ lt. absurd (omega arith)))
    ]

pub returns-clause-here : goal.returns-clause-here
returns-clause-here g c =
    let A = c.args.automaton.now in
    let s = c.args.side.now in
    let moves = g.S.Side.arriving s A c.args.r in
    let count : c.loop-at.at ≡ length moves = omega (arith, c.arrivals-at-end.ensures) in
    all_arrived moves (λ q a. g.S.Side.goes s A q a c.args.r) c.args.table.now c.loop-at.table c.args.labels c.args.width c.args.t c.loop-at.at
    (λ a q. g.met.S.Side.arrives s A q a c.args.r) count c.loop-at.invariant
