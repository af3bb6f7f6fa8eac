use Rattle.std.proofs.Common.{◌≡◌, ℕ, suc, ◌+◌, ◌-◌, [], ◌∷◌, ◌++◌, sym, subst, arith}
use Rattle.std.proofs.lemmas.Result.{err_from_is_err_and}
use Rattle.cert_line.specs.Lines.{row_in}
use Rattle.cert_text.specs.Grammar.{next_line, read_rows}
use Rattle.cert_text.specs.contracts.lines.Lines.rows.{C-type}
use Rattle.cert_text.proofs.LinesLeftLemmas.{SoFar, so_next, so_stop}
use Rattle.cert_text.proofs.lines.Lines.rows.Goals as goal

pub returns-in_err-row : goal.returns-in_err-row
returns-in_err-row g c =
    let p = err_from_is_err_and c.from_residual.result c.from_residual.ensures.1 in
    let later : ℕ = c.args.count - (c.loop-row._row + 1) in
    let e : c.args.count - c.loop-row._row ≡ suc later = omega (arith, c.loop-row-test.true) in
    let way = subst (λ n. SoFar {C = C-type g.row.C} (read_rows c.args.version c.args.count 0 []) (read_rows c.args.version n c.loop-row.bound c.loop-row.rows) c.args.self.now c.loop-row.self) e c.loop-row.invariant in
    rw (p.1, p.2) (so_stop (read_rows c.args.version c.args.count 0 []) (next_line (row_in c.args.version c.loop-row.bound)) (λ next row. read_rows c.args.version later (row.left + 1) (c.loop-row.rows ++ row ∷ []) next) c.args.self.now c.loop-row.self c.row.new.self c.row.new.self c.in_err-row.field-0.0 way c.in_err-row.ensures)

pub loop-row-preserved : goal.loop-row-preserved
loop-row-preserved g c =
    let later : ℕ = c.args.count - (c.loop-row._row + 1) in
    let e : c.args.count - c.loop-row._row ≡ suc later = omega (arith, c.loop-row-test.true) in
    let way = subst (λ n. SoFar {C = C-type g.row.C} (read_rows c.args.version c.args.count 0 []) (read_rows c.args.version n c.loop-row.bound c.loop-row.rows) c.args.self.now c.loop-row.self) e c.loop-row.invariant in
    subst (λ items. SoFar {C = C-type g.row.C} (read_rows c.args.version c.args.count 0 []) (read_rows c.args.version later (c.in_ok-row.row.left + 1) items) c.args.self.now c.row.new.self) (sym c.in_ok-push.ensures.ok)
    (so_next (read_rows c.args.version c.args.count 0 []) (next_line (row_in c.args.version c.loop-row.bound)) (λ next row. read_rows c.args.version later (row.left + 1) (c.loop-row.rows ++ row ∷ []) next) c.args.self.now c.loop-row.self c.row.new.self c.in_ok-row.row way c.in_ok-row.ensures)

pub returns : goal.returns
returns g c =
    let done : c.args.count - c.loop-row._row ≡ 0 = omega (arith, c.loop-row-test.false) in
    subst (λ n. SoFar {C = C-type g.row.C} (read_rows c.args.version c.args.count 0 []) (read_rows c.args.version n c.loop-row.bound c.loop-row.rows) c.args.self.now c.loop-row.self) done c.loop-row.invariant
