use Rattle.std.proofs.Common.{◌≡◌, ℕ, ◌+◌, ◌/◌, [], ◌∷◌, ◌++◌, true, false, map, fold, sym, ap, ◌∙◌, arith}
use Rattle.std.specs.List.{range_with_len, list_any}
use Rattle.ba_format.specs.Sight.{noted}
use Rattle.ba_format.specs.Faults.{same_trans}
use Rattle.drawing.specs.Drawn.{ring, extra_at}
use Rattle.drawing.proofs.DrawLemmas.{fold_more}
use Rattle.drawing.proofs.automata.ring_and_more.Goals as goal
use Rattle.drawing.proofs.automata.ring_and_more.Goals.{then-not-has+in_ok-push, else-not-has}

pub loop-at-preserved : goal.loop-at-preserved
loop-at-preserved c =
    let d = c.args.drill in
    let n : ℕ = c.loop-at.at in
    let made = c.loop-at.steps.items in
    let has : c.has.result ≡ list_any (same_trans (extra_at d n)) made =
    c.has.ensures ∙ ap (λ t. list_any (same_trans t) c.deref.result.now) c.extra-step.ensures ∙ ap (list_any (same_trans (extra_at d n))) c.deref.ensures.value in
    elim c.if-not-has.branch as (λ _. c.if-not-has.steps.items ≡ fold (noted same_trans) (ring d) (map (extra_at d) (range_with_len 0 (n + 1)))) [
      | then-not-has+in_ok-push w ↦
          fold_more same_trans (ring d) (extra_at d) n made c.if-not-has.steps.items false c.loop-at.invariant (sym w.if-not-has.true ∙ has)
          (ap (λ v. v.items) w.steps-is ∙ w.in_ok-push.ensures.items ∙ ap (λ t. made ++ t ∷ []) c.extra-step.ensures)
      | else-not-has w ↦
          fold_more same_trans (ring d) (extra_at d) n made c.if-not-has.steps.items true c.loop-at.invariant (sym w.if-not-has.false ∙ has)
          (ap (λ v. v.items) w.steps-is)
    ]

pub returns : goal.returns
returns c =
    let end : c.loop-at.at ≡ c.args.drill.states / 8 = omega (arith, c.loop-at-test.false, c.loop-at.auto.at-end) in
    c.loop-at.invariant ∙ ap (λ k. fold (noted same_trans) (ring c.args.drill) (map (extra_at c.args.drill) (range_with_len 0 k))) end
