use Rattle.std.proofs.Common.{◌≡◌, ◌<◌, length, refl, ◌∙◌, subst, arith}
use Rattle.auto_core.specs.Game.{Holds}
use Rattle.auto_core.proofs.PathLemmas.{none_in_nil}
use Rattle.delayed_sim.proofs.RightLemmas.{triple_range}
use Rattle.delayed_sim.proofs.RelateLemmas.{triples_more, pairs_of_triples}
use Rattle.delayed_sim.proofs.relating.relate_triples.Goals as goal

pub loop-at-init : goal.loop-at-init
loop-at-init c = (
  refl,
  λ p q. (
    λ held. absurd (none_in_nil (p, q) (subst (λ ps. Holds ps p q) c.requires.none held)),
    λ from. let lt = from.1 in absurd (omega arith),
  ),
)

pub loop-at-preserved : goal.loop-at-preserved
loop-at-preserved c = (
  c.set.ensures.pairs.size ∙ c.loop-at.invariant.0,
  triples_more c.args.delayed.now c.loop-at.related c.set.new.self c.loop-at.at c.left.result c.right.result c.loop-at.invariant.1 c.left.ensures.state c.right.ensures.state c.set.ensures.pairs,
)

pub returns-clause-pairs : goal.returns-clause-pairs
returns-clause-pairs c = λ p q.
    let all : c.loop-at.at ≡ c.count-at-end.result = omega (arith, c.loop-at-test.false, c.loop-at.auto.at-end) in
    let from = c.loop-at.invariant.1 p q in
    let is = pairs_of_triples c.args.delayed.now p q c.loop-at.at c.requires.valid c.requires.alone (all ∙ c.count-at-end.ensures.count) in
    (λ held. is.0 (from.0 held), λ h. from.1 (is.1 h))

pub set-requires-clause-left : goal.set-requires-clause-left
set-requires-clause-left c =
    let inside : c.loop-at.at < length c.args.delayed.now.triples = omega (arith, c.loop-at-test.true, c.count-at-end.ensures.count) in
    let range = triple_range c.args.delayed.now c.requires.valid c.loop-at.at inside in
    omega (arith, range.1, c.left.ensures.state, c.loop-at.invariant.0, c.requires.equal)

pub set-requires-clause-right : goal.set-requires-clause-right
set-requires-clause-right c =
    let inside : c.loop-at.at < length c.args.delayed.now.triples = omega (arith, c.loop-at-test.true, c.count-at-end.ensures.count) in
    let range = triple_range c.args.delayed.now c.requires.valid c.loop-at.at inside in
    omega (arith, range.2, c.right.ensures.state, c.loop-at.invariant.0, c.requires.equal)
