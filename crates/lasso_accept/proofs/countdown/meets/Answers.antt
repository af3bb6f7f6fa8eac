use Rattle.std.proofs.Common.{ℕ, inl, inr, sym, ◌∙◌, subst, arith, refl}
use Rattle.std.proofs.lemmas.Bool.{cases_eq, false≢true}
use Rattle.std.proofs.lemmas.Nat.{row_fits}
use Rattle.auto_core.specs.Rows.{HasBit, HasCell}
use Rattle.lasso_accept.proofs.countdown.meets.Goals as goal

pub has_both-requires : goal.has_both-requires
has_both-requires c =
    let room = c.requires.room in
    record {
      marks_len = c.requires.marks_len;
      at_in = omega (arith, row_fits c.args.at c.args.width c.args.count c.args.width (c.requires.at_in) (omega arith), c.requires.len);
      column = omega arith;
    }

pub loop-place-preserved : goal.loop-place-preserved
loop-place-preserved c = λ p p_in in_marks in_table.
    elim (cases_eq p c.loop-place.place) [
      | inl e ↦
          let P : ℕ → Type 0 = λ x. HasBit c.args.marks.now x in
          let Q : ℕ → Type 0 = λ x. HasCell c.args.table.now c.args.width c.args.at x in
          false≢true (sym c.if-has_both.false ∙ c.has_both.ensures.1 (subst P e in_marks, subst Q e in_table))
      | inr n ↦ c.loop-place.invariant p (omega arith) in_marks in_table
    ]

pub returns-then-has_both : goal.returns-then-has_both
returns-then-has_both c =
    let both = c.has_both.ensures.0 c.if-has_both.true in
    (λ h. (c.loop-place.place, omega arith, both.0, both.1), λ found. refl)

pub returns : goal.returns
returns c = (
  λ h. absurd (false≢true h),
  λ (p, p_in, in_marks, in_table). absurd (c.loop-place.invariant p (omega arith) in_marks in_table),
)
