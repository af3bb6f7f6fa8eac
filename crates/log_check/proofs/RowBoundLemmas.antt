-- Where the pairs of rows are below two numbers, so are the numbers of the rows.
use Rattle.std.proofs.Common.{◌≡◌, ℕ, ◌+◌, ◌-◌, ◌<◌, ◌≤◌, ◌&&◌, true, List, [], ◌∷◌, All, Contains, refl, ◌∙◌, arith}
use Rattle.std.specs.Prelude.{nat_le}
use Rattle.std.specs.List.{flat_map, range_with_len}
use Rattle.std.proofs.lemmas.Bool.{and_parts, leb-true}
use Rattle.std.proofs.lemmas.List.Elements.{All-nil, All-cons, Contains-append_left, Contains-append_right}
use Rattle.std.proofs.lemmas.List.FromFn.{length-range_with_len, get_or-range_with_len}
use Rattle.auto_core.specs.Game.{ArePairsBelow}
use Rattle.cert_value.specs.declared.types.Row.{Row}
use Rattle.cert_value.specs.declared.types.Run.{Run}
use Rattle.cert_value.specs.Text.{run_numbers, numbers_of}
use Rattle.cert_value.specs.WellFormed.{runs_ascend_from, is_row, are_rows}
use Rattle.log_check.specs.Blocks.{pairs_of_row}
use Rattle.log_check.proofs.RowLemmas.{row_parts, of_row}

-- Where the numbers of runs are below a number, the last one of each run is.
lasts_below : (n bound : ℕ) (runs : List Run) → runs_ascend_from bound runs ≡ true → ((q : ℕ) → Contains (numbers_of runs) q → q < n) → All (λ (run : Run). run.last < n) runs
lasts_below n bound [] apart below = All-nil (λ (run : Run). run.last < n)
lasts_below n bound (run ∷ runs) apart below =
    let a = and_parts (nat_le bound run.first) (nat_le run.first run.last && runs_ascend_from (run.last + 2) runs) apart in
    let b = and_parts (nat_le run.first run.last) (runs_ascend_from (run.last + 2) runs) a.1 in
    let le = leb-true run.first run.last b.0 in
    let here : Contains (run_numbers run) run.last = range_has_last run.first run.last le in
    All-cons (λ (run : Run). run.last < n) run runs (below run.last (Contains-append_left (run_numbers run) (numbers_of runs) run.last here))
    (lasts_below n (run.last + 2) runs b.1 (λ q has. below q (Contains-append_right (run_numbers run) (numbers_of runs) q has)))
  where
    range_has_last : (n m : ℕ) → n ≤ m → Contains (range_with_len n (m + 1 - n)) m
    range_has_last n m le =
        let at = get_or-range_with_len n (m + 1 - n) (m - n) m (omega arith) in
        let len = length-range_with_len n (m + 1 - n) in
        let last : n + (m - n) ≡ m = omega arith in
        (m - n, omega arith, at ∙ last)

-- The numbers of rows are those of their pairs, which tell the bounds.
pub rows_below :
    (m n bound : ℕ) (rows : List Row)
    → are_rows bound rows ≡ true
    → ArePairsBelow m n (flat_map pairs_of_row rows)
    → All (λ (row : Row). (row.left < m) × All (λ (run : Run). run.last < n) row.runs) rows
rows_below m n bound [] formed below = All-nil (λ (row : Row). (row.left < m) × All (λ (run : Run). run.last < n) row.runs)
rows_below m n bound (row ∷ rows) formed below =
    let parts = and_parts (is_row bound row) (are_rows (row.left + 1) rows) formed in
    let r = row_parts bound row parts.0 in
    let here : (q : ℕ) → Contains (numbers_of row.runs) q → (row.left < m) × (q < n) = λ q has.
    below row.left q (Contains-append_left (pairs_of_row row) (flat_map pairs_of_row rows) (row.left, q) (of_row row row.left q refl has)) in
    All-cons (λ (row : Row). (row.left < m) × All (λ (run : Run). run.last < n) row.runs) row rows
    ((here r.a_right r.has_right).0, lasts_below n 0 row.runs r.apart (λ q has. (here q has).1))
    (rows_below m n (row.left + 1) rows parts.1 (λ p q h. below p q (Contains-append_right (pairs_of_row row) (flat_map pairs_of_row rows) (p, q) h)))
