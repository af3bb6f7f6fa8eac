use Rattle.std.proofs.Common.{◌≡◌, ℕ, arith, subst, rules}
use Rattle.lasso_accept.proofs.PlaneLemmas.{HasPrepended, prepended_none, prepended_more, planes_prepended}
use Rattle.lasso_accept.proofs.planes.prepend.Goals as goal

pub loop-state-init : goal.loop-state-init
loop-state-init c =
    let A = c.args.automaton.now in
    let any = c.args.any.now in (
      prepended_none A c.args.label c.args.width any any c.clear_row.new.row c.clear_row.ensures,
      prepended_none A c.args.label c.args.width any c.args.flagged.now c.clear_row-2.new.row c.clear_row-2.ensures,
    )

pub loop-state-preserved : goal.loop-state-preserved
loop-state-preserved c =
    let A = c.args.automaton.now in
    let any = c.args.any.now in (
      prepended_more A c.args.label c.args.width c.loop-state.state any any c.loop-state.new_any c.gather.new.new_any c.loop-state.invariant.0 c.gather.ensures.any_here c.gather.ensures.any_others,
      prepended_more A c.args.label c.args.width c.loop-state.state any c.args.flagged.now c.loop-state.new_flagged c.gather.new.new_flagged
          c.loop-state.invariant.1 c.gather.ensures.flagged_here c.gather.ensures.flagged_others,
    )

pub returns : goal.returns
returns c = λ w planes.
    let A = c.args.automaton.now in
    let any = c.args.any.now in
    let flagged = c.args.flagged.now in
    let over : c.loop-state.state ≡ A.states = omega arith in
    let P : ℕ → Type 0 = λ k. HasPrepended A c.args.label c.args.width k any any c.loop-state.new_any in
    let Q : ℕ → Type 0 = λ k. HasPrepended A c.args.label c.args.width k any flagged c.loop-state.new_flagged in
    planes_prepended A c.states-state-end.ensures.valid c.args.label c.args.width w any flagged c.loop-state.new_any c.loop-state.new_flagged planes
    (search rules) (search rules) (subst P over c.loop-state.invariant.0) (subst Q over c.loop-state.invariant.1)
