use Rattle.std.proofs.Common.{inl, inr, refl, sym, subst, arith}
use Rattle.std.proofs.lemmas.Bool.{cases_eq, iff_false}
use Rattle.product_laws.specs.Ascending.{pair_at}
use Rattle.ranked_product.specs.Rules.{KeepsRules}
use Rattle.ranked_product.proofs.CheckLemmas.{product_by_places}
use Rattle.ranked_product.proofs.checking.check.Goals as goal

pub returns-then-not-has_initial_pair-clause-broken : goal.returns-then-not-has_initial_pair-clause-broken
returns-then-not-has_initial_pair-clause-broken c =
    inr (inl (refl, refl, c.is_deterministic.ensures.0 c.if-not-is_deterministic.false, iff_false c.has_initial_pair.ensures c.if-not-has_initial_pair.true))

pub broken_rule-requires-clause-deterministic : goal.broken_rule-requires-clause-deterministic
broken_rule-requires-clause-deterministic c = c.is_deterministic.ensures.0 c.if-not-is_deterministic.false

pub returns-in-Some-clause-broken : goal.returns-in-Some-clause-broken
returns-in-Some-clause-broken c = inr (inr (
  c.is_deterministic.ensures.0 c.if-not-is_deterministic.false,
  c.has_initial_pair.ensures.0 c.if-not-has_initial_pair.false,
  (
    c.loop-at.at,
    refl,
    record {
      within = c.loop-at-test.true;
      before = c.loop-at.invariant;
      here = c.in-Some.ensures.broken;
    },
  ),
))

pub loop-at-preserved : goal.loop-at-preserved
loop-at-preserved c = λ i lt. elim (cases_eq i c.loop-at.at) [
  | inl e ↦ subst (λ n. KeepsRules c.args.first.now c.args.second.now c.args.pairs.now (pair_at c.args.pairs.now n)) (sym e) c.in-None.ensures.kept
  | inr apart ↦ c.loop-at.invariant i (omega arith)
]

pub returns-clause-kept : goal.returns-clause-kept
returns-clause-kept c =
    product_by_places c.args.first.now c.args.second.now c.args.pairs.now
    (c.is_deterministic.ensures.0 c.if-not-is_deterministic.false)
    (c.has_initial_pair.ensures.0 c.if-not-has_initial_pair.false)
    (λ i lt. c.loop-at.invariant i (omega (arith, c.loop-at-test.false)))
