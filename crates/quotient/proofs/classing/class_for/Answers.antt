use Rattle.std.proofs.Common.{ℕ, ◌∙◌, inl, inr, refl, sym, subst, arith}
use Rattle.std.proofs.lemmas.Bool.{cases_eq, cases_lt, false≢true}
use Rattle.auto_core.specs.Game.{Holds}
use Rattle.quotient.proofs.classing.class_for.Goals as goal

pub loop-before-preserved : goal.loop-before-preserved
loop-before-preserved c =
    let S = c.args.rel.now.pairs in
    let q : ℕ = c.args.state in
    let next = c.in-Some.ensures.found in (
      omega arith,
      λ p p_in r s. elim (cases_eq p c.in-Some.before) [
        | inl e ↦ false≢true (c.if-both_ways.ensures.told.1 (subst (λ x. Holds S x q) e r, subst (λ x. Holds S q x) e s))
        | inr apart ↦ elim (cases_lt p c.loop-before.at) [
          | inl lt ↦ c.loop-before.invariant.1 p lt r s
          | inr from ↦ false≢true (sym (next.none_between p from (omega arith)) ∙ (c.row.ensures.bits p).1 s)
        ]
      ],
    )

pub returns-then-before-state : goal.returns-then-before-state
returns-then-before-state c =
    let next = c.in-Some.ensures.found in
    inr (
      (λ p p_in r s. elim (cases_lt p c.loop-before.at) [
        | inl lt ↦ c.loop-before.invariant.1 p lt r s
        | inr from ↦ false≢true (sym (next.none_between p from (omega (arith, c.if-before-state.true))) ∙ (c.row.ensures.bits p).1 s)
      ]),
      refl,
    )

pub returns : goal.returns
returns c = inr (
  (λ p p_in r s. elim (cases_lt p c.loop-before.at) [
    | inl lt ↦ c.loop-before.invariant.1 p lt r s
    | inr from ↦ false≢true (sym (c.in_default.ensures.none p from) ∙ (c.row.ensures.bits p).1 s)
  ]),
  refl,
)
