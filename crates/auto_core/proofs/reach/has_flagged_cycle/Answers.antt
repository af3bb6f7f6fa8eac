use Rattle.std.proofs.Common.{ℕ, ◌<◌, sym, arith, subst, ◌∙◌, inl, inr}
use Rattle.std.proofs.lemmas.Bool.{cases_eq, false≢true}
use Rattle.auto_core.specs.Reach.{HasArc, ReturnsTo}
use Rattle.auto_core.proofs.reach.has_flagged_cycle.Goals as goal

pub loop-at-preserved : goal.loop-at-preserved
loop-at-preserved c = λ x x_in marked back.
    let any = HasArc c.args.any.now c.args.count c.args.width in
    let flagged = HasArc c.args.flagged.now c.args.count c.args.width in
    elim (cases_eq x c.loop-at.at) [
      | inl e ↦
          let P : ℕ → Type 0 = λ y. ReturnsTo any flagged y in
          false≢true (sym c.if-returns_to.false ∙ c.returns_to.ensures.1 (subst P e back))
      | inr n ↦ c.loop-at.invariant x (omega arith) marked back
    ]

pub returns-clause-told : goal.returns-clause-told
returns-clause-told c = (
  λ h. absurd (false≢true h),
  λ cycle.
      let marked = c.reach.ensures.reached.all cycle.start cycle.at cycle.marked cycle.enters in
      let leaves = cycle.leaves in
      let at_in : cycle.at < c.loop-at.at = omega (arith, leaves.0) in
      absurd (c.loop-at.invariant cycle.at at_in marked (cycle.next, cycle.leaves, cycle.returns)),
)
