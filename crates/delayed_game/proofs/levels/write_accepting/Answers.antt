use Rattle.std.proofs.Common.{◌≡◌, ℕ, ◌+◌, ◌<◌, List, sym, ◌∙◌, subst, arith}
use Rattle.std.proofs.lemmas.Bool.{iff_false, false≢true}
use Rattle.std.proofs.lemmas.List.Elements.{All-contains}
use Rattle.auto_core.specs.Automaton.{IsAccepting}
use Rattle.bit_rows.proofs.MarkLemmas.{MarksUpto, marks_more, marks_passed}
use Rattle.delayed_game.proofs.levels.write_accepting.Goals as goal
use Rattle.delayed_game.proofs.levels.write_accepting.Goals.{then-accepting, else-accepting}

pub loop-q-init : goal.loop-q-init
loop-q-init c = λ k. (λ h. absurd (false≢true (sym (c.clear_row.ensures k) ∙ h)), λ is. let lt = is.0 in absurd (omega arith))

pub loop-q-preserved : goal.loop-q-preserved
loop-q-preserved c =
    let A = c.args.automaton.now in
    let ok : ℕ → Type 0 = λ q. IsAccepting A q in
    let now = c.loop-q.row in
    let q = c.loop-q.q in
    let P : List ℕ → Type 0 = λ row. MarksUpto ok row (q + 1) in
    elim c.if-accepting.branch [
      | then-accepting w ↦ subst P (sym w.row-is) (marks_more ok now w.set_bit.new.row q c.loop-q.invariant (c.accepting.ensures.told.0 w.if-accepting.true) w.set_bit.ensures.here w.set_bit.ensures.others)
      | else-accepting w ↦ subst P (sym w.row-is) (marks_passed ok now q c.loop-q.invariant (iff_false c.accepting.ensures.told w.if-accepting.false))
    ]

pub returns-clause-bits : goal.returns-clause-bits
returns-clause-bits c =
    let A = c.args.automaton.now in
    let all : c.loop-q.q ≡ A.states = omega (arith, c.loop-q-test.false, c.loop-q.auto.q-end, c.states-q-end.ensures.count) in
    λ k. (
      λ bit. ((c.loop-q.invariant k).0 bit).1,
      λ is. (c.loop-q.invariant k).1 (subst (λ n. k < n) (sym all) (All-contains (λ q. q < A.states) A.accepting k c.states-q-end.ensures.valid.accepting_in_range is), is),
    )
