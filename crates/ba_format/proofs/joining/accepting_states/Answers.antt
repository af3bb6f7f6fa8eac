use Rattle.std.proofs.Common.{refl, true≢false, subst, sym, ◌+◌, arith}
use Rattle.ba_format.proofs.JoinLemmas.{Gathered, Gathered-yes, Gathered-no, Gathered-end}
use Rattle.ba_format.proofs.joining.accepting_states.Goals as goal
use Rattle.ba_format.proofs.joining.accepting_states.Goals.{then-accepting+in_ok-push, else-accepting}

pub loop-state-preserved : goal.loop-state-preserved
loop-state-preserved c =
    elim c.if-accepting.branch as (λ _. Gathered c.args.auto.now.accepting c.if-accepting.states.items (c.loop-state.state + 1)) [
      | then-accepting+in_ok-push w ↦
          subst (λ v. Gathered c.args.auto.now.accepting v.items (c.loop-state.state + 1)) (sym w.states-is) (
          subst (λ l. Gathered c.args.auto.now.accepting l (c.loop-state.state + 1)) (sym w.in_ok-push.ensures.items) (
          Gathered-yes _ _ c.loop-state.state c.accepting.ensures.valid.accepting_in_order (w.if-accepting.ensures.told.0 refl) c.loop-state.invariant
          )
          )
      | else-accepting w ↦
          subst (λ v. Gathered c.args.auto.now.accepting v.items (c.loop-state.state + 1)) (sym w.states-is) (
          Gathered-no _ _ c.loop-state.state (λ h. true≢false (sym (w.if-accepting.ensures.told.1 h))) c.loop-state.invariant
          )
    ]

pub returns : goal.returns
returns c = Gathered-end c.args.auto.now.accepting c.loop-state.states.items c.loop-state.state c.args.auto.now.states c.states-state-end.ensures.valid.accepting_in_range (omega arith) c.loop-state.invariant
