use Rattle.std.proofs.Common.{ℕ, ◌<◌, sym, subst, arith}
use Rattle.product_search.specs.Found.{step_at}
use Rattle.product_search.specs.Words.{IsSpelledBack}
use Rattle.product_search.proofs.WordLemmas.{spelled_on}
use Rattle.product_search.proofs.cycles.letters_back.Goals as goal

pub loop-at-preserved : goal.loop-at-preserved
loop-at-preserved c =
    let (within, spelled) = c.loop-at.invariant in
    let steps = c.args.steps.now in
    let at : ℕ = c.loop-at.at in
    let some : 0 < at = omega (arith, c.loop-at-test.true) in
    let before = c.requires.falling at some within in (
      omega (arith, before, within),
      subst (λ l. IsSpelledBack steps c.args.number l (step_at steps at).from) (sym c.in_ok-push.ensures.items) (spelled_on steps c.args.number c.loop-at.letters.items at spelled some),
    )
