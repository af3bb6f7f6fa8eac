-- Raising the right numbers of rows raises those of the pairs that they list.
use Rattle.std.proofs.Common.{◌≡◌, ℕ, zero, suc, ◌+◌, ◌-◌, ◌<◌, ◌≤◌, ◌^◌, List, [], ◌∷◌, ◌++◌, map, true, refl, sym, ap, ap₂, ◌∙◌, arith, All, inl, inr, subst, nat_le, leb-true}
use Rattle.std.specs.List.{flat_map, range_with_len, list_all}
use Rattle.std.proofs.lemmas.List.{map-append}
use Rattle.std.proofs.lemmas.List.Elements.{All-nil, All-cons, All-head, All-tail, All-map, Contains-append_cases}
use Rattle.std.proofs.lemmas.Bool.{and_parts}
use Rattle.auto_core.specs.Game.{Holds}
use Rattle.auto_core.proofs.MemberLemmas.{map_from}
use Rattle.auto_core.proofs.PathLemmas.{none_in_nil}
use Rattle.cert_value.specs.declared.types.Row.{Row}
use Rattle.cert_value.specs.declared.types.Run.{Run}
use Rattle.cert_value.specs.Text.{run_numbers, numbers_of}
use Rattle.cert_value.specs.WellFormed.{is_short, is_run, has_some, runs_ascend, is_row, are_rows, runs_ascend_from}
use Rattle.log_check.specs.Blocks.{pairs_with, pairs_of_row, pairs_of, IsRowBelow, IsBlockBelow}
use Rattle.cross_sim.specs.Raising.{AreRunsBelow, AreRowsBelow}
use Rattle.cross_sim.specs.Rules.{IsRowInRange, AreRowsInRange, raised_run, raised_row, raised_block}
use Rattle.cross_sim.specs.Sides.{Raises}
use Rattle.cross_sim.proofs.CrossLemmas.{raise, raised}

range_raised : (n first len : ℕ) → range_with_len (n + first) len ≡ map (λ q. n + q) (range_with_len first len)
range_raised n first zero = refl
range_raised n first (suc len) =
    ap (λ xs. (n + first) ∷ xs) (ap (λ m. range_with_len m len) (omega arith) ∙ range_raised n (first + 1) len)

run_raised : (n : ℕ) (run : Run) → run_numbers (raised_run n run) ≡ map (λ q. n + q) (run_numbers run)
run_raised n run =
    let len : n + run.last + 1 - (n + run.first) ≡ run.last + 1 - run.first = omega arith in
    ap (λ k. range_with_len (n + run.first) k) len ∙ range_raised n run.first (run.last + 1 - run.first)

runs_raised : (n : ℕ) (runs : List Run) → numbers_of (map (raised_run n) runs) ≡ map (λ q. n + q) (numbers_of runs)
runs_raised n [] = refl
runs_raised n (run ∷ runs) =
    ap₂ (λ (xs ys : List ℕ). xs ++ ys) (run_raised n run) (runs_raised n runs) ∙ sym (map-append (λ q. n + q) (run_numbers run) (numbers_of runs))

with_raised : (n p : ℕ) (qs : List ℕ) → pairs_with p (map (λ q. n + q) qs) ≡ map (raise n) (pairs_with p qs)
with_raised n p [] = refl
with_raised n p (q ∷ qs) = ap (λ xs. (p, n + q) ∷ xs) (with_raised n p qs)

row_raised : (n : ℕ) (row : Row) → pairs_of_row (raised_row n row) ≡ map (raise n) (pairs_of_row row)
row_raised n row = ap (pairs_with row.left) (runs_raised n row.runs) ∙ with_raised n row.left (numbers_of row.runs)

rows_raised : (n : ℕ) (rows : List Row) → flat_map pairs_of_row (map (raised_row n) rows) ≡ map (raise n) (flat_map pairs_of_row rows)
rows_raised n [] = refl
rows_raised n (row ∷ rows) =
    ap₂ (λ (xs ys : List (ℕ × ℕ)). xs ++ ys) (row_raised n row) (rows_raised n rows)
    ∙ sym (map-append (raise n) (pairs_of_row row) (flat_map pairs_of_row rows))

-- The pairs of the raised rows are those of the rows, raised.
pub block_raised : (n : ℕ) (rows : List Row) → Raises n (pairs_of (record { rows = rows })) (pairs_of (raised_block n rows))
block_raised n rows =
    subst (Raises n (pairs_of (record { rows = rows }))) (sym (rows_raised n rows)) (raised n (pairs_of (record { rows = rows })))

-- A run that ascends ends where its last number is below.
pub runs_below : (n b : ℕ) (bound : ℕ) (runs : List Run) → runs_ascend_from bound runs ≡ true → All (λ (run : Run). run.last < b) runs → n + b < 2 ^ 32 → AreRunsBelow n runs
runs_below n b bound [] e h few = All-nil (λ (run : Run). (run.first + n < 2 ^ 32) × (run.last + n < 2 ^ 32))
runs_below n b bound (run ∷ runs) e h few =
    let p = and_parts (nat_le bound run.first) _ e in
    let q = and_parts (nat_le run.first run.last) _ p.1 in
    let le : run.first ≤ run.last = leb-true run.first run.last q.0 in
    let lt : run.last < b = All-head (λ (run : Run). run.last < b) run runs h in
    All-cons (λ (run : Run). (run.first + n < 2 ^ 32) × (run.last + n < 2 ^ 32)) run runs (omega arith, omega arith)
    (runs_below n b (run.last + 2) runs q.1 (All-tail (λ (run : Run). run.last < b) run runs h) few)

-- The right numbers of formed rows that name states can be raised past the first automaton's states.
pub rows_below : (m n bound : ℕ) (rows : List Row) → are_rows bound rows ≡ true → AreRowsInRange m n rows → m + n < 2 ^ 32 → AreRowsBelow m rows
rows_below m n bound [] e h few = All-nil (λ (row : Row). AreRunsBelow m row.runs)
rows_below m n bound (row ∷ rows) e h few =
    let p = and_parts (is_row bound row) (are_rows (row.left + 1) rows) e in
    let q = and_parts (is_short row.left) _ p.0 in
    let r = and_parts (list_all is_run row.runs) _ q.1 in
    let s = and_parts (has_some row.runs) _ r.1 in
    let t = and_parts (runs_ascend row.runs) _ s.1 in
    let here = All-head (IsRowInRange m n) row rows h in
    All-cons (λ (row : Row). AreRunsBelow m row.runs) row rows (runs_below m n 0 row.runs t.0 here.1 few)
    (rows_below m n (row.left + 1) rows p.1 (All-tail (IsRowInRange m n) row rows h) few)

row_in_both : (m n : ℕ) (row : Row) → IsRowInRange m n row → IsRowBelow (m + n) (raised_row m row)
row_in_both m n row h = (
  omega (arith, h.0),
  All-map (λ (run : Run). run.last < m + n) (raised_run m) row.runs (all_weaker row.runs h.1),
)
  where
    all_weaker : (runs : List Run) → All (λ (run : Run). run.last < n) runs → All (λ (run : Run). (raised_run m run).last < m + n) runs
    all_weaker [] all = All-nil (λ (run : Run). (raised_run m run).last < m + n)
    all_weaker (run ∷ runs) all =
        let lt : run.last < n = All-head (λ (run : Run). run.last < n) run runs all in
        All-cons (λ (run : Run). (raised_run m run).last < m + n) run runs (omega arith) (all_weaker runs (All-tail (λ (run : Run). run.last < n) run runs all))

-- Raised, they name states of both automata side by side.
pub block_in_both : (m n : ℕ) (rows : List Row) → AreRowsInRange m n rows → IsBlockBelow (m + n) (raised_block m rows)
block_in_both m n rows h = All-map (IsRowBelow (m + n)) (raised_row m) rows (each rows h) where
  each : (rows : List Row) → AreRowsInRange m n rows → All (λ (row : Row). IsRowBelow (m + n) (raised_row m row)) rows
  each [] all = All-nil (λ (row : Row). IsRowBelow (m + n) (raised_row m row))
  each (row ∷ rows) all =
      All-cons (λ (row : Row). IsRowBelow (m + n) (raised_row m row)) row rows (row_in_both m n row (All-head (IsRowInRange m n) row rows all))
      (each rows (All-tail (IsRowInRange m n) row rows all))

-- The left numbers of their pairs are those of rows.
pub lefts_below : (m n : ℕ) (rows : List Row) → AreRowsInRange m n rows → (p q : ℕ) → Holds (pairs_of (record { rows = rows })) p q → p < m
lefts_below m n [] h p q there = absurd (none_in_nil (p, q) there)
lefts_below m n (row ∷ rows) h p q there = elim (Contains-append_cases (pairs_of_row row) (flat_map pairs_of_row rows) (p, q) there) [
  | inl here ↦
      let (x, _, is) = map_from (λ r. (row.left, r)) (numbers_of row.runs) (p, q) here in
      subst (λ y. y < m) (ap (λ (y : ℕ × ℕ). y.0) is) (All-head (IsRowInRange m n) row rows h).0
  | inr later ↦ lefts_below m n rows (All-tail (IsRowInRange m n) row rows h) p q later
]
