use Rattle.std.proofs.Common.{◌≡◌, ℕ, suc, ◌+◌, ◌-◌, List, [], ◌∷◌, ◌++◌, length, Option, Ok, Err, sym, ap, ◌∙◌, subst, arith}
use Rattle.std.specs.List.{slice_get}
use Rattle.std.proofs.lemmas.Result.{err_from_is_err_and}
use Rattle.cert_line.specs.Lines.{rank_row_in}
use Rattle.std.specs.Option.{option_copied}
use Rattle.cert_value.specs.declared.types.RankRow.{RankRow}
use Rattle.cert_value.specs.WellFormed.{rank_key, key_before}
use Rattle.cert_text.specs.LinesLeft.{ReadsOn}
use Rattle.cert_text.specs.Grammar.{next_line, read_rank_rows}
use Rattle.cert_text.specs.Machine.{last_key}
use Rattle.cert_text.specs.contracts.lines.Lines.rank_rows.{C-type}
use Rattle.cert_text.proofs.Resume.{key_of_more}
use Rattle.cert_text.proofs.LinesLeftLemmas.{SoFar, so_next, so_stop}
use Rattle.cert_text.proofs.lines.Lines.rank_rows.Goals as goal

last_is : (rows slice : List RankRow) (o : Option RankRow) → slice ≡ rows → o ≡ slice_get slice (length slice - 1) → key_before o ≡ last_key rows
last_is rows slice o e f = ap key_before f ∙ ap (λ s. last_key s) e

pub returns-in_err-row : goal.returns-in_err-row
returns-in_err-row g c =
    let p = err_from_is_err_and c.from_residual.result c.from_residual.ensures.1 in
    let later : ℕ = c.args.count - (c.loop-row._row + 1) in
    let e : c.args.count - c.loop-row._row ≡ suc later = omega (arith, c.loop-row-test.true) in
    let way = subst (λ n. SoFar {C = C-type g.row.C} (read_rank_rows c.args.letters c.args.count [] []) (read_rank_rows c.args.letters n (last_key c.loop-row.rows) c.loop-row.rows) c.args.self.now c.loop-row.self) e c.loop-row.invariant in
    rw (p.1, p.2) (so_stop (read_rank_rows c.args.letters c.args.count [] []) (next_line (rank_row_in c.args.letters (last_key c.loop-row.rows))) (λ next row. read_rank_rows c.args.letters later (rank_key row) (c.loop-row.rows ++ row ∷ []) next) c.args.self.now c.loop-row.self c.rank_row.new.self c.rank_row.new.self c.in_err-row.field-0.0 way
    (subst (λ (key : List ℕ). ReadsOn {C = C-type g.row.C} {A = RankRow} (next_line (rank_row_in c.args.letters key)) c.loop-row.self c.rank_row.new.self (Err c.in_err-row.field-0.0)) (last_is c.loop-row.rows c.as_slice.result.now (option_copied c.last.result) c.as_slice.ensures c.last.ensures.value) c.in_err-row.ensures))

pub loop-row-preserved : goal.loop-row-preserved
loop-row-preserved g c =
    let later : ℕ = c.args.count - (c.loop-row._row + 1) in
    let e : c.args.count - c.loop-row._row ≡ suc later = omega (arith, c.loop-row-test.true) in
    let way = subst (λ n. SoFar {C = C-type g.row.C} (read_rank_rows c.args.letters c.args.count [] []) (read_rank_rows c.args.letters n (last_key c.loop-row.rows) c.loop-row.rows) c.args.self.now c.loop-row.self) e c.loop-row.invariant in
    subst (λ items. SoFar {C = C-type g.row.C} (read_rank_rows c.args.letters c.args.count [] []) (read_rank_rows c.args.letters later (last_key (items)) (items)) c.args.self.now c.rank_row.new.self) (sym c.in_ok-push.ensures.ok)
    (subst (λ key. SoFar {C = C-type g.row.C} (read_rank_rows c.args.letters c.args.count [] []) (read_rank_rows c.args.letters later key (c.loop-row.rows ++ c.in_ok-row.row ∷ [])) c.args.self.now c.rank_row.new.self) (sym (key_of_more c.loop-row.rows c.in_ok-row.row))
    (so_next (read_rank_rows c.args.letters c.args.count [] []) (next_line (rank_row_in c.args.letters (last_key c.loop-row.rows))) (λ next row. read_rank_rows c.args.letters later (rank_key row) (c.loop-row.rows ++ row ∷ []) next) c.args.self.now c.loop-row.self c.rank_row.new.self c.in_ok-row.row way
    (subst (λ (key : List ℕ). ReadsOn {C = C-type g.row.C} {A = RankRow} (next_line (rank_row_in c.args.letters key)) c.loop-row.self c.rank_row.new.self (Ok c.in_ok-row.row)) (last_is c.loop-row.rows c.as_slice.result.now (option_copied c.last.result) c.as_slice.ensures c.last.ensures.value) c.in_ok-row.ensures)))

pub returns : goal.returns
returns g c =
    let done : c.args.count - c.loop-row._row ≡ 0 = omega (arith, c.loop-row-test.false) in
    subst (λ n. SoFar {C = C-type g.row.C} (read_rank_rows c.args.letters c.args.count [] []) (read_rank_rows c.args.letters n (last_key c.loop-row.rows) c.loop-row.rows) c.args.self.now c.loop-row.self) done c.loop-row.invariant
