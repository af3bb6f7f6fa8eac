use Rattle.std.proofs.Common.{◌≡◌, ◌+◌, ◌-◌, suc, subst, get_or, arith}
use Rattle.ba_format.proofs.LineLemmas.{Searched, Searched-more, Searched-end}
use Rattle.ba_format.proofs.lines.split_at_arrow.Goals as goal
use Rattle.ba_format.proofs.lines.split_at_arrow.Goals.{else-text-at-eq45-via-then-text-at-eq45+else-text-at-eq62, else-text-at-eq45-via-else-text-at-eq45}

pub loop-at-preserved : goal.loop-at-preserved
loop-at-preserved c =
    let text = c.args.text.now in
    let at = c.loop-at.at in
    let here : suc (at - 1) ≡ at + 1 - 1 = omega arith in
    let there : suc (at - 1) ≡ at = omega arith in
    let none = elim c.else-text-at-eq45.branch as (λ _. get_or text (at - 1) 0 ≡ 45 → get_or text (suc (at - 1)) 0 ≡ 62 → ⊥) [
      | else-text-at-eq45-via-then-text-at-eq45+else-text-at-eq62 w ↦ λ _ b. w.if-text-at-eq62.false (subst (λ n. get_or text n 0 ≡ 62) there b)
      | else-text-at-eq45-via-else-text-at-eq45 w ↦ λ a _. w.if-text-at-eq45.false a
    ] in
    subst (Searched text) here (Searched-more text (at - 1) (omega arith) none c.loop-at.invariant)

pub returns : goal.returns
returns c = Searched-end c.args.text.now (c.loop-at.at - 1) (omega arith) c.loop-at.invariant
