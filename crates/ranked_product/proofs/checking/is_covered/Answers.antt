use Rattle.std.proofs.Common.{◌≡◌, ℕ, subst}
use Rattle.std.proofs.lemmas.Bool.{false≢true}
use Rattle.product_laws.specs.Ranked.{HasPair}
use Rattle.ranked_product.proofs.checking.is_covered.Goals as goal

pub returns-in-Some : goal.returns-in-Some
returns-in-Some c =
    let target : ℕ = c.in-Some.target in (
      (λ yes. (target, c.in-Some.ensures.some, c.has_pair.ensures.0 yes)),
      λ (s, move, there).
          let same : s ≡ target = c.requires.deterministic c.args.right c.args.step.label s target move c.in-Some.ensures.some in
          c.has_pair.ensures.1 (subst (λ n. HasPair c.args.pairs.now c.args.step.target n) same there),
    )

pub returns-in-None : goal.returns-in-None
returns-in-None c = ((λ yes. absurd (false≢true yes)), λ (s, move, there). absurd (c.in-None.ensures.none s move))
