use Rattle.std.proofs.Common.{◌≡◌, ℕ, ◌+◌, ◌%◌, [], ◌∷◌, ◌++◌, map, sym, ap, ◌∙◌, arith, zero-add}
use Rattle.std.specs.List.{range_with_len}
use Rattle.std.proofs.lemmas.List.FromFn.{map-range_with_len_more}
use Rattle.auto_core.specs.Automaton.{trans}
use Rattle.drawing.specs.Drawn.{ring_at}
use Rattle.drawing.proofs.automata.ring.Goals as goal

pub loop-state-preserved : goal.loop-state-preserved
loop-state-preserved c =
    let d = c.args.drill in
    let n : ℕ = c.loop-state.state in
    c.in_ok-push.ensures.items ∙ ap (λ w. c.loop-state.steps.items ++ trans n (w % d.labels) ((n + 1) % d.states) ∷ []) c.draw.ensures
    ∙ ap (λ l. l ++ ring_at d n ∷ []) c.loop-state.invariant ∙ sym (map-range_with_len_more (ring_at d) 0 n n (zero-add n))

pub returns : goal.returns
returns c =
    let end : c.loop-state.state ≡ c.args.drill.states = omega (arith, c.loop-state-test.false, c.loop-state.auto.state-end) in
    c.loop-state.invariant ∙ ap (λ k. map (ring_at c.args.drill) (range_with_len 0 k)) end
