use Rattle.std.proofs.Common.{◌≡◌, ℕ, refl, sym, subst}
use Rattle.product_laws.specs.Ranked.{HasRank, RankGoesOn}
use Rattle.ranked_product.proofs.checking.goes_on.Goals as goal

pub returns-in-Some-rank_of : goal.returns-in-Some-rank_of
returns-in-Some-rank_of c =
    let A = c.args.first.now in
    let B = c.args.second.now in
    let x = c.args.pair in
    let target : ℕ = c.in-Some.target in
    let after : ℕ = c.in-Some-rank_of.after in (
      (λ yes s rank move there.
          let same : s ≡ target = c.requires.deterministic x.right c.args.step.label s target move c.in-Some.ensures.some in
          let here : HasRank c.args.pairs.now c.args.step.target target rank = subst (λ n. HasRank c.args.pairs.now c.args.step.target n rank) same there in
          let equal : rank ≡ after = c.in-Some-rank_of.ensures.only rank here in
          subst (λ n. RankGoesOn A B x.rank c.args.step.target n rank) (sym same)
          (subst (λ n. RankGoesOn A B x.rank c.args.step.target target n) (sym equal) (c.is_after.ensures.0 yes))),
      λ all. c.is_after.ensures.1 (all target after c.in-Some.ensures.some c.in-Some-rank_of.ensures.some),
    )

pub returns-in-None-rank_of : goal.returns-in-None-rank_of
returns-in-None-rank_of c =
    let target : ℕ = c.in-Some.target in (
      (λ yes s rank move there.
          let same : s ≡ target = c.requires.deterministic c.args.pair.right c.args.step.label s target move c.in-Some.ensures.some in
          absurd (c.in-None-rank_of.ensures.none (rank, subst (λ n. HasRank c.args.pairs.now c.args.step.target n rank) same there))),
      λ all. refl,
    )

pub returns-in-None : goal.returns-in-None
returns-in-None c = ((λ yes s rank move there. absurd (c.in-None.ensures.none s move)), λ all. refl)
