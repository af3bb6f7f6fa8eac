use Rattle.std.proofs.Common.{inl, inr, sym, ap, ◌∙◌, subst, arith}
use Rattle.std.proofs.lemmas.Bool.{cases_eq}
use Rattle.auto_core.proofs.PathLemmas.{none_in_nil}
use Rattle.bit_rel.specs.Relation.{Relation, IsRelation}
use Rattle.delayed_sim.proofs.game.all_pairs.Goals as goal

pub loop-p-init : goal.loop-p-init
loop-p-init c = (
  ap (λ (r : Relation). r.size) c.in_ok-rel.ensures,
  subst (λ r. IsRelation r) (sym c.in_ok-rel.ensures) (record { in_range = λ p q h. absurd (none_in_nil (p, q) h); in_order = tt }),
  λ r q lt. absurd (omega arith),
)

pub loop-p-preserved : goal.loop-p-preserved
loop-p-preserved c =
    let was = c.loop-p.invariant in (
      c.fill_row.ensures.size ∙ was.0,
      c.fill_row.ensures.valid,
      λ r q lt q_in. (c.fill_row.ensures.pairs r q).1 (elim (cases_eq r c.loop-p.p) [
        | inl e ↦ inr (e, omega (arith, q_in, was.0))
        | inr apart ↦ inl (was.2 r q (omega arith) q_in)
      ]),
    )

pub returns-clause-pairs : goal.returns-clause-pairs
returns-clause-pairs c = λ p q p_in q_in. c.loop-p.invariant.2 p q (omega (arith, p_in, c.loop-p-test.false)) q_in
