use Rattle.std.proofs.Common.{◌≡◌, ℕ, ◌<◌, ◌↔◌, [], sym, ap, ◌∙◌, subst, arith}
use Rattle.auto_core.specs.Game.{Holds}
use Rattle.auto_core.specs.Delayed.{AreStateRelated}
use Rattle.auto_core.proofs.PathLemmas.{none_in_nil}
use Rattle.bit_rel.specs.Relation.{Relation}
use Rattle.delayed_sim.specs.Rankings.{Ranking}
use Rattle.delayed_sim.specs.Related.{HoldsEach}
use Rattle.delayed_sim.proofs.RelateLemmas.{rows_more, each_related}
use Rattle.delayed_sim.proofs.relating.relation_of.Goals as goal

pub loop-p-init : goal.loop-p-init
loop-p-init c = (
  ap (λ (r : Relation). r.size) c.in_ok-related.ensures ∙ c.states.ensures.count,
  λ r s. (
    λ held. absurd (none_in_nil (r, s) (subst (λ (t : Relation). Holds t.pairs r s) c.in_ok-related.ensures held)),
    λ is. let lt = is.0 in absurd (omega arith),
  ),
)

pub loop-p-preserved : goal.loop-p-preserved
loop-p-preserved c =
    let D = c.args.delayed.now in
    let was = c.loop-p.invariant in (
      c.relate_row.ensures.size ∙ was.0,
      rows_more c.loop-p.related c.relate_row.new.related c.loop-p.p D.states (λ r s. HoldsEach D [] r s) was.1 c.relate_row.ensures.pairs,
    )

pub returns-clause-pairs : goal.returns-clause-pairs
returns-clause-pairs c = λ p q.
    let D = c.args.delayed.now in
    let h = c.loop-p.invariant.1 p q in (
      λ held.
          let is = h.0 held in
          let lt = is.0 in
          let all : c.loop-p.p ≡ D.states = omega (arith, c.loop-p-test.false, c.loop-p.auto.p-end, c.states-p-end.ensures.count) in
          (omega arith, is.1, (each_related D p q).0 is.2),
      λ is.
          let lt = is.0 in
          h.1 (omega (arith, c.loop-p-test.false, c.loop-p.auto.p-end, c.states-p-end.ensures.count), is.1, (each_related D p q).1 is.2),
    )

pub returns-then-letters-eq1-clause-pairs : goal.returns-then-letters-eq1-clause-pairs
returns-then-letters-eq1-clause-pairs c =
    let D : Ranking = c.args.delayed.now in
    let one : D.letters ≡ 1 = omega (arith, c.if-letters-eq1.true, c.letters.ensures.count) in
    subst (λ (n : ℕ). (p q : ℕ) → Holds c.relate_triples.new.related.pairs p q ↔ ((p < D.states) × (q < D.states) × AreStateRelated D.labels n D.triples p q)) (sym one) c.relate_triples.ensures.pairs
