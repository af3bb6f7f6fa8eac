use Rattle.std.proofs.Common.{◌≡◌, ◌∙◌, ap, sym, ◌++◌, ◌∷◌, [], ◌+◌, arith}
use Rattle.std.specs.List.{range_with_len}
use Rattle.ba_format.proofs.NamedLemmas.{range-push}
use Rattle.ba_format.proofs.draft.chosen_or_all.Goals as goal

pub loop-state-preserved : goal.loop-state-preserved
loop-state-preserved c =
    let n = c.loop-state.state in
    let e : 0 + n ≡ n = omega arith in
    c.in_ok-push.ensures.items ∙ ap (λ l. l ++ n ∷ []) c.loop-state.invariant ∙ sym (range-push 0 n ∙ ap (λ k. range_with_len 0 n ++ k ∷ []) e)
