use Rattle.std.proofs.Common.{inl, inr, refl, sym, subst, arith}
use Rattle.std.proofs.lemmas.Bool.{cases_eq}
use Rattle.state_map.specs.Faults.{HasImage}
use Rattle.state_map.proofs.checking.first_no_move.Goals as goal

pub loop-number-preserved : goal.loop-number-preserved
loop-number-preserved c = λ t lt. elim (cases_eq t c.loop-number.number) [
  | inl e ↦ subst (λ x. HasImage c.args.first.now c.args.small.now c.args.map.now x) (sym e) (c.if-not-has_image.ensures.0 refl)
  | inr apart ↦ c.loop-number.invariant t (omega arith)
]
