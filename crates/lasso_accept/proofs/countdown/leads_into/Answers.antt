use Rattle.std.proofs.Common.{ℕ, inl, inr, sym, ◌∙◌, subst, arith, refl}
use Rattle.std.proofs.lemmas.Bool.{cases_eq, false≢true}
use Rattle.std.proofs.lemmas.Nat.{row_fits}
use Rattle.auto_core.specs.Rows.{HasCell}
use Rattle.lasso_accept.proofs.countdown.leads_into.Goals as goal

pub both_have-requires : goal.both_have-requires
both_have-requires c =
    let table = c.requires.any in
    let room = table.room in
    record {
      place_in = omega (arith, row_fits c.args.place c.args.width c.args.count c.args.width (c.requires.place_in) (omega arith), table.len);
      at_in = omega (arith, row_fits c.args.at c.args.width c.args.count c.args.width (c.requires.at_in) (omega arith), c.requires.len);
      column = omega arith;
    }

pub loop-q-preserved : goal.loop-q-preserved
loop-q-preserved c = λ r r_in in_any in_table.
    elim (cases_eq r c.loop-q.q) [
      | inl e ↦
          let P : ℕ → Type 0 = λ x. HasCell c.args.any.now c.args.width c.args.place x in
          let Q : ℕ → Type 0 = λ x. HasCell c.args.table.now c.args.width c.args.at x in
          false≢true (sym c.if-both_have.false ∙ c.both_have.ensures.1 (subst P e in_any, subst Q e in_table))
      | inr n ↦ c.loop-q.invariant r (omega arith) in_any in_table
    ]

pub returns-then-both_have : goal.returns-then-both_have
returns-then-both_have c =
    let both = c.both_have.ensures.0 c.if-both_have.true in
    (λ h. (c.loop-q.q, (c.requires.place_in, omega arith, both.0), both.1), λ found. refl)

pub returns : goal.returns
returns c = (
  λ h. absurd (false≢true h),
  λ (q, arc, cell). absurd (c.loop-q.invariant q (omega (arith, arc.1)) arc.2 cell),
)
