use Rattle.std.proofs.Common.{◌≡◌, ℕ, [], ◌∷◌, ◌++◌, sym, ap, ◌∙◌, arith, zero-add}
use Rattle.std.proofs.lemmas.List.FromFn.{map-range_with_len_more}
use Rattle.auto_core.specs.Automaton.{trans}
use Rattle.rabit_cli.specs.Universal.{loops}
use Rattle.rabit_cli.proofs.universality.loops.Goals as goal

pub loop-label-preserved : goal.loop-label-preserved
loop-label-preserved c =
    let n : ℕ = c.loop-label.label in
    c.in_ok-push.ensures.ok ∙ ap (λ l. l ++ trans 0 n 0 ∷ []) c.loop-label.invariant ∙ sym (map-range_with_len_more (λ a. trans 0 a 0) 0 n n (zero-add n))

pub returns : goal.returns
returns c =
    let end : c.loop-label.label ≡ c.args.labels = omega (arith, c.loop-label-test.false, c.loop-label.auto.label-end) in
    c.loop-label.invariant ∙ ap loops end
