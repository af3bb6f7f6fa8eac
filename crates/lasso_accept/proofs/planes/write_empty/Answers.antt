use Rattle.std.proofs.Common.{◌≡◌, ℕ, ◌<◌, ◌*◌, arith, subst, rules}
use Rattle.lasso_accept.proofs.PlaneLemmas.{IsDiagonal, diagonal_none, diagonal_more, planes_empty}
use Rattle.lasso_accept.proofs.planes.write_empty.Goals as goal

pub loop-state-init : goal.loop-state-init
loop-state-init c = diagonal_none c.args.width c.clear_row.new.row c.clear_row.ensures

pub loop-state-preserved : goal.loop-state-preserved
loop-state-preserved c =
    let near : c.loop-state.state < c.args.width * 64 = omega arith in
    diagonal_more c.args.width c.loop-state.state c.loop-state.any c.set_cell.new.table near c.loop-state.invariant c.set_cell.ensures.here c.set_cell.ensures.others

pub returns : goal.returns
returns c =
    let P : ℕ → Type 0 = λ k. IsDiagonal c.args.width k c.loop-state.any in
    let over : c.loop-state.state ≡ c.args.automaton.now.states = omega arith in
    planes_empty c.args.automaton.now c.args.width c.loop-state.any c.clear_row-2.new.row c.requires.room (search rules) (search rules)
    (subst P over c.loop-state.invariant) c.clear_row-2.ensures
