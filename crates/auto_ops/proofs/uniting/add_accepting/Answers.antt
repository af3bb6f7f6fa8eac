use Rattle.std.proofs.Common.{◌≡◌, ◌+◌, ◌++◌, ℕ, true, false, sym, ap, ◌∙◌}
use Rattle.auto_ops.specs.UnionParts.{accepting_of_one}
use Rattle.auto_ops.proofs.UnionLemmas.{more_accepting}
use Rattle.auto_ops.proofs.uniting.add_accepting.Goals as goal
use Rattle.auto_ops.proofs.uniting.add_accepting.Goals.{then-accepting+in_ok-push, else-accepting}

pub loop-state-preserved : goal.loop-state-preserved
loop-state-preserved c =
    let A = c.args.automaton.now in
    let n : ℕ = c.loop-state.state in
    let front = c.args.made.now.items in
    let made = c.loop-state.made.items in
    elim c.if-accepting.branch as (λ _. c.if-accepting.made.items ≡ front ++ accepting_of_one A c.args.offset (n + 1)) [
      | then-accepting+in_ok-push w ↦
          more_accepting A c.args.offset n front made c.if-accepting.made.items true (sym w.if-accepting.true ∙ c.accepting.ensures.test) c.loop-state.invariant
          (ap (λ v. v.items) w.made-is ∙ w.in_ok-push.ensures.items)
      | else-accepting w ↦
          more_accepting A c.args.offset n front made c.if-accepting.made.items false (sym w.if-accepting.false ∙ c.accepting.ensures.test) c.loop-state.invariant
          (ap (λ v. v.items) w.made-is)
    ]
