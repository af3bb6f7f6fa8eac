use Rattle.std.proofs.Common.{◌≡◌, ◌+◌, ◌<◌, ◌++◌, ◌∷◌, [], List, ℕ, length, ◌==◌, refl, sym, ap, ◌∙◌, subst, arith}
use Rattle.std.proofs.lemmas.Bool.{eqb-true}
use Rattle.cert_value.specs.declared.types.Row.{Row}
use Rattle.cert_line.specs.Lines.{joined_runs}
use Rattle.log_check.specs.Rows.{HoldsFrom, AreRows}
use Rattle.log_check.proofs.RowLemmas.{rows_more, rows_same, some_from_test}
use Rattle.log_check.proofs.rows.rows_of.Goals.{then-not-is_empty+in_ok-runs+in_ok-push, else-not-is_empty}
use Rattle.log_check.proofs.rows.rows_of.Goals as goal

pub loop-left-preserved : goal.loop-left-preserved
loop-left-preserved c =
    let W = HoldsFrom c.args.rel.now.pairs c.args.offset c.args.rights in
    let i = c.loop-left.left in
    let found : List ℕ = c.in_ok-found.found in
    elim c.if-not-is_empty.branch [
      | then-not-is_empty+in_ok-runs+in_ok-push w ↦
          let row : Row = record { left = i; runs = w.in_ok-runs.runs } in
          let pushed : c.if-not-is_empty.rows ≡ c.loop-left.rows ++ row ∷ [] = w.rows-is ∙ w.in_ok-push.ensures.ok in
          let runs : w.in_ok-runs.runs ≡ joined_runs found = w.in_ok-runs.ensures ∙ ap joined_runs w.as_slice-then-not-is_empty.ensures in
          let few : i < 1000000000 = omega (arith, c.loop-left-test.true, c.requires.lefts, c.requires.few) in
          subst (AreRows W (i + 1)) (sym pushed)
          (rows_more W i c.loop-left.rows row found few (λ q h. let lt = h.0 in omega (arith, c.requires.rights, c.requires.few)) c.loop-left.invariant refl runs
          c.in_ok-found.ensures (some_from_test found (sym (ap (λ (l : List ℕ). length l == 0) c.as_slice.ensures) ∙ sym c.is_empty.ensures ∙ w.if-not-is_empty.true)))
      | else-not-is_empty w ↦
          subst (AreRows W (i + 1)) (sym w.rows-is)
          (rows_same W i c.loop-left.rows found c.loop-left.invariant c.in_ok-found.ensures
          (eqb-true (length found) 0 (sym (ap (λ (l : List ℕ). length l == 0) c.as_slice.ensures) ∙ sym c.is_empty.ensures ∙ w.if-not-is_empty.false)))
    ]
