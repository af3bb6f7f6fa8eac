use Rattle.std.proofs.Common.{◌≡◌, ℕ, ◌+◌, true, false, filter, sym, ap, ◌∙◌, arith}
use Rattle.std.specs.List.{range_with_len}
use Rattle.drawing.specs.Drawn.{accepts_second}
use Rattle.drawing.proofs.DrawLemmas.{filter_more}
use Rattle.drawing.proofs.automata.second_accepting.Goals as goal
use Rattle.drawing.proofs.automata.second_accepting.Goals.{then-accepts_second+in_ok-push, else-accepts_second}

pub loop-state-preserved : goal.loop-state-preserved
loop-state-preserved c =
    let d = c.args.drill in
    let n : ℕ = c.loop-state.state in
    let made = c.loop-state.accepting.items in
    elim c.if-accepts_second.branch as (λ _. c.if-accepts_second.accepting.items ≡ filter (accepts_second d) (range_with_len 0 (n + 1))) [
      | then-accepts_second+in_ok-push w ↦
          filter_more (accepts_second d) n made c.if-accepts_second.accepting.items true (sym w.if-accepts_second.true ∙ c.accepts_second.ensures) c.loop-state.invariant
          (ap (λ v. v.items) w.accepting-is ∙ w.in_ok-push.ensures.items)
      | else-accepts_second w ↦
          filter_more (accepts_second d) n made c.if-accepts_second.accepting.items false (sym w.if-accepts_second.false ∙ c.accepts_second.ensures) c.loop-state.invariant
          (ap (λ v. v.items) w.accepting-is)
    ]

pub returns : goal.returns
returns c =
    let end : c.loop-state.state ≡ c.args.drill.states = omega (arith, c.loop-state-test.false, c.loop-state.auto.state-end) in
    c.loop-state.invariant ∙ ap (λ k. filter (accepts_second c.args.drill) (range_with_len 0 k)) end
