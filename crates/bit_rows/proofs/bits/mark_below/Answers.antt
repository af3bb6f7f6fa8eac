use Rattle.std.proofs.Common.{inl, inr, sym, ◌∙◌, subst, arith}
use Rattle.std.proofs.lemmas.Bool.{cases_eq}
use Rattle.auto_core.specs.Rows.{HasBit}
use Rattle.bit_rows.proofs.bits.mark_below.Goals as goal

pub loop-i-init : goal.loop-i-init
loop-i-init c = λ k. (λ h. inr h, λ either. elim either [ inl lt ↦ absurd (omega arith) | inr h ↦ h ])

pub loop-i-preserved : goal.loop-i-preserved
loop-i-preserved c = λ k. (
  λ h. elim (cases_eq k c.loop-i.i) [
    | inl e ↦ inl (omega arith)
    | inr apart ↦ elim ((c.loop-i.invariant k).0 (sym (c.set_bit.ensures.others k apart) ∙ h)) [ inl lt ↦ inl (omega arith) | inr was ↦ inr was ]
  ],
  λ either. elim (cases_eq k c.loop-i.i) [
    | inl e ↦ subst (λ x. HasBit c.set_bit.new.row x) (sym e) c.set_bit.ensures.here
    | inr apart ↦ c.set_bit.ensures.others k apart ∙ (c.loop-i.invariant k).1 (elim either [ inl lt ↦ inl (omega arith) | inr was ↦ inr was ])
  ],
)
