use Rattle.std.proofs.Common.{ℕ, inl, inr, sym, ◌∙◌, subst, refl, arith}
use Rattle.std.proofs.lemmas.Bool.{cases_eq, cases_lt, false≢true}
use Rattle.auto_core.specs.Reach.{HasArc}
use Rattle.bit_rows.proofs.LoopLemmas.{row_arc}
use Rattle.bit_rows.proofs.components.has_arc_within.Goals as goal

pub returns-then-meets : goal.returns-then-meets
returns-then-meets c =
    let place : ℕ = c.in-Some.place in
    let here = c.in-Some.ensures.found.here in
    let lt = c.requires.below place here in
    let (q, arc, has) = c.meets.ensures.0 c.if-meets.true in
    (λ told. (place, q, here, (row_arc c.args.flagged.now c.args.count c.args.width place c.requires.flagged lt c.row_at.result.now c.row_at.ensures.bits c.row_at.ensures.outside q).0 arc, has), λ h. refl)

pub loop-place-preserved : goal.loop-place-preserved
loop-place-preserved c = λ p q below p_in arc q_in.
    let place : ℕ = c.in-Some.place in
    let next = c.in-Some.ensures.found in
    let lt = c.requires.below place next.here in
    elim (cases_lt p c.loop-place.from) [
      | inl low ↦ c.loop-place.invariant p q low p_in arc q_in
      | inr high ↦ elim (cases_eq p place) [
        | inl e ↦
            let here : HasArc c.args.flagged.now c.args.count c.args.width place q = subst (λ x. HasArc c.args.flagged.now c.args.count c.args.width x q) e arc in
            let bit = (row_arc c.args.flagged.now c.args.count c.args.width place c.requires.flagged lt c.row_at.result.now c.row_at.ensures.bits c.row_at.ensures.outside q).1 here in
            false≢true (sym c.if-meets.false ∙ c.meets.ensures.1 (q, bit, q_in))
        | inr apart ↦ false≢true (sym (next.none_between p high (omega (arith, below))) ∙ p_in)
      ]
    ]
