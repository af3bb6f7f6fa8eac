use Rattle.std.proofs.Common.{◌≡◌, ℕ, ◌+◌, true, false, filter, sym, ap, ◌∙◌, arith}
use Rattle.std.specs.List.{range_with_len}
use Rattle.drawing.specs.Drawn.{accepts_first}
use Rattle.drawing.proofs.DrawLemmas.{filter_more}
use Rattle.drawing.proofs.automata.first_accepting.Goals as goal
use Rattle.drawing.proofs.automata.first_accepting.Goals.{then-accepts_first+in_ok-push, else-accepts_first}

pub loop-state-preserved : goal.loop-state-preserved
loop-state-preserved c =
    let d = c.args.drill in
    let n : ℕ = c.loop-state.state in
    let made = c.loop-state.accepting.items in
    elim c.if-accepts_first.branch as (λ _. c.if-accepts_first.accepting.items ≡ filter (accepts_first d) (range_with_len 0 (n + 1))) [
      | then-accepts_first+in_ok-push w ↦
          filter_more (accepts_first d) n made c.if-accepts_first.accepting.items true (sym w.if-accepts_first.true ∙ c.accepts_first.ensures) c.loop-state.invariant
          (ap (λ v. v.items) w.accepting-is ∙ w.in_ok-push.ensures.items)
      | else-accepts_first w ↦
          filter_more (accepts_first d) n made c.if-accepts_first.accepting.items false (sym w.if-accepts_first.false ∙ c.accepts_first.ensures) c.loop-state.invariant
          (ap (λ v. v.items) w.accepting-is)
    ]

pub returns : goal.returns
returns c =
    let end : c.loop-state.state ≡ c.args.drill.states = omega (arith, c.loop-state-test.false, c.loop-state.auto.state-end) in
    c.loop-state.invariant ∙ ap (λ k. filter (accepts_first c.args.drill) (range_with_len 0 k)) end
