use Rattle.std.proofs.Common.{◌≡◌, ℕ, ◌+◌, List, sym, ◌∙◌, subst, arith}
use Rattle.std.proofs.lemmas.Bool.{iff_false, false≢true}
use Rattle.bit_rows.proofs.MarkLemmas.{MarksUpto, marks_more, marks_passed}
use Rattle.look_round.proofs.kinds.match_row.Goals as goal
use Rattle.look_round.proofs.kinds.match_row.Goals.{then-matched, else-matched}

pub loop-q-init : goal.loop-q-init
loop-q-init g c = λ k. (λ h. absurd (false≢true (sym (c.clear_row.ensures k) ∙ h)), λ is. let lt = is.0 in absurd (omega arith))

pub loop-q-preserved : goal.loop-q-preserved
loop-q-preserved g c =
    let ok : ℕ → Type 0 = λ q. g.S.Side.matches c.args.side.now c.args.automaton.now c.args.p q in
    let now = c.loop-q.row in
    let q = c.loop-q.q in
    let P : List ℕ → Type 0 = λ row. MarksUpto ok row (q + 1) in
    elim c.if-matched.branch [
      | then-matched w ↦ subst P (sym w.row-is) (marks_more ok now w.set_bit.new.row q c.loop-q.invariant (c.matched.ensures.0 w.if-matched.true) w.set_bit.ensures.here w.set_bit.ensures.others)
      | else-matched w ↦ subst P (sym w.row-is) (marks_passed ok now q c.loop-q.invariant (iff_false c.matched.ensures w.if-matched.false))
    ]

pub returns : goal.returns
returns g c =
    let ok : ℕ → Type 0 = λ q. g.S.Side.matches c.args.side.now c.args.automaton.now c.args.p q in
    let all : c.loop-q.q ≡ c.args.automaton.now.states = omega (arith, c.loop-q-test.false, c.loop-q.auto.q-end, c.states-q-end.ensures.count) in
    let P : ℕ → Type 0 = λ n. MarksUpto ok c.loop-q.row n in
    subst P all c.loop-q.invariant
