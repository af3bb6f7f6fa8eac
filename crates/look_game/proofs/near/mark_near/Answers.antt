use Rattle.std.proofs.Common.{ℕ, ◌≡◌, ◌+◌, List, sym, subst, arith}
use Rattle.look_game.specs.Near.{MarksNear}
use Rattle.look_game.proofs.NearLemmas.{next_near}
use Rattle.look_game.proofs.near.mark_near.Goals as goal

pub loop-step-preserved : goal.loop-step-preserved
loop-step-preserved g c =
    let A = c.args.automaton.now in
    let s = c.args.side.now in
    let M = g.S.Side.goes s A in
    let i = c.loop-step._step in
    let marks = c.args.marks.now in
    let copied : c.copy_from_slice.new.self ≡ c.step_near.new.next = c.copy_from_slice.ensures.after in
    let P : List ℕ → Type 0 = λ row. MarksNear M A.states (i + 1) marks row in
    subst P (sym copied)
    (next_near M A.states i (i + 1) marks c.loop-step.near c.step_near.new.next (omega arith) (λ p a q go. g.met.S.Side.stays s A c.requires.valid p a q go) c.loop-step.invariant c.step_near.ensures)

pub returns : goal.returns
returns g c =
    let A = c.args.automaton.now in
    let all : c.loop-step._step ≡ c.args.look = omega (arith, c.loop-step-test.false, c.loop-step.auto._step-end) in
    let P : ℕ → Type 0 = λ i. MarksNear (g.S.Side.goes c.args.side.now A) A.states i c.args.marks.now c.loop-step.near in
    subst P all c.loop-step.invariant
