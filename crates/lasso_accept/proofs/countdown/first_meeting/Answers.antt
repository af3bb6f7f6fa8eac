use Rattle.std.proofs.Common.{ℕ, inl, inr, sym, ◌∙◌, subst, arith}
use Rattle.std.proofs.lemmas.Bool.{cases_eq, false≢true}
use Rattle.auto_core.specs.Rows.{HasCell}
use Rattle.lasso_accept.proofs.countdown.first_meeting.Goals as goal

pub loop-at-preserved : goal.loop-at-preserved
loop-at-preserved c = λ k p k_in p_in in_marks in_table.
    elim (cases_eq k c.loop-at.at) [
      | inl e ↦
          let Q : ℕ → Type 0 = λ x. HasCell c.args.table.now c.args.width x p in
          false≢true (sym c.if-meets.false ∙ c.meets.ensures.1 (p, p_in, in_marks, subst Q e in_table))
      | inr n ↦ c.loop-at.invariant k p (omega arith) p_in in_marks in_table
    ]

pub returns-then-meets-clause-found : goal.returns-then-meets-clause-found
returns-then-meets-clause-found c = (omega arith, c.meets.ensures.0 c.if-meets.true)

pub returns-clause-none : goal.returns-clause-none
returns-clause-none c = λ k p k_in p_in in_marks in_table. c.loop-at.invariant k p (omega arith) p_in in_marks in_table
