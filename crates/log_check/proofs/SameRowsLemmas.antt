-- Rows that list the same pairs are the same rows.
use Rattle.std.proofs.Common.{◌≡◌, ℕ, ◌+◌, ◌≤◌, true, List, [], ◌∷◌, ◌++◌, Contains, refl, sym, ap, ◌∙◌, subst, inl, inr, arith}
use Rattle.std.specs.Prelude.{nat_le}
use Rattle.std.specs.List.{flat_map}
use Rattle.std.proofs.lemmas.Bool.{and_parts}
use Rattle.std.proofs.lemmas.List.{append_cancel_left}
use Rattle.std.proofs.lemmas.List.Elements.{Contains-append_cases, Contains-append_left}
use Rattle.auto_core.specs.Game.{IsWithin}
use Rattle.auto_core.proofs.PathLemmas.{Contains-cons_cases, Contains-here, Contains-later, none_in_nil}
use Rattle.bit_rel.proofs.PairLemmas.{same_pairs}
use Rattle.cert_value.specs.declared.types.Row.{Row}
use Rattle.cert_value.specs.declared.types.Run.{Run}
use Rattle.cert_value.specs.Text.{numbers_of}
use Rattle.cert_value.specs.WellFormed.{ascend_from, runs_ascend, is_row, are_rows}
use Rattle.cert_line.specs.Lines.{joined_runs}
use Rattle.cert_line.proofs.RunFacts.{joined_back}
use Rattle.log_check.specs.Blocks.{pairs_of_row}
use Rattle.log_check.proofs.RowLemmas.{in_row, of_row, ascend_above, rows_above, rows_ascend, row_parts}

-- Ascending lists of the same numbers are one.
same_numbers : (bound bound' : ℕ) (xs ys : List ℕ) → ascend_from bound xs ≡ true → ascend_from bound' ys ≡ true → ((n : ℕ) → Contains xs n → Contains ys n) → ((n : ℕ) → Contains ys n → Contains xs n) → xs ≡ ys
same_numbers bound bound' [] [] a b to from = refl
same_numbers bound bound' [] (y ∷ ys) a b to from = absurd (none_in_nil y (from y (Contains-here y y ys refl)))
same_numbers bound bound' (x ∷ xs) [] a b to from = absurd (none_in_nil x (to x (Contains-here x x xs refl)))
same_numbers bound bound' (x ∷ xs) (y ∷ ys) a b to from =
    ap (λ z. z ∷ xs) heads ∙ ap (λ l. y ∷ l) (same_numbers (x + 1) (y + 1) xs ys rest_a rest_b to_rest from_rest)
  where
    rest_a : ascend_from (x + 1) xs ≡ true
    rest_a = (and_parts (nat_le bound x) (ascend_from (x + 1) xs) a).1

    rest_b : ascend_from (y + 1) ys ≡ true
    rest_b = (and_parts (nat_le bound' y) (ascend_from (y + 1) ys) b).1

    heads : x ≡ y
    heads = elim (Contains-cons_cases y x ys (to x (Contains-here x x xs refl))) [
      | inl e ↦ sym e
      | inr later ↦ elim (Contains-cons_cases x y xs (from y (Contains-here y y ys refl))) [
        | inl e ↦ e
        | inr further ↦ let p = ascend_above (y + 1) ys rest_b x later in let q = ascend_above (x + 1) xs rest_a y further in absurd (omega arith)
      ]
    ]

    to_rest : (n : ℕ) → Contains xs n → Contains ys n
    to_rest n has = elim (Contains-cons_cases y n ys (to n (Contains-later x n xs has))) [
      | inl e ↦ let p = ascend_above (x + 1) xs rest_a n has in let h = heads in absurd (omega arith)
      | inr later ↦ later
    ]

    from_rest : (n : ℕ) → Contains ys n → Contains xs n
    from_rest n has = elim (Contains-cons_cases x n xs (from n (Contains-later y n ys has))) [
      | inl e ↦ let p = ascend_above (y + 1) ys rest_b n has in let h = heads in absurd (omega arith)
      | inr later ↦ later
    ]

row_is : (r s : Row) → r.left ≡ s.left → r.runs ≡ s.runs → r ≡ s
row_is r s e f = ap (λ l. record { left = l; runs = r.runs }) e ∙ ap (λ l. record { left = s.left; runs = l }) f

-- Runs that ascend apart are those of their numbers.
same_runs : (runs others : List Run) → runs_ascend runs ≡ true → runs_ascend others ≡ true → numbers_of runs ≡ numbers_of others → runs ≡ others
same_runs runs others a b same = sym (joined_back 0 runs a) ∙ ap joined_runs same ∙ joined_back 0 others b

-- Rows that list the same pairs are the same.
pub same_rows : (bound bound' : ℕ) (rows others : List Row) → are_rows bound rows ≡ true → are_rows bound' others ≡ true → flat_map pairs_of_row rows ≡ flat_map pairs_of_row others → rows ≡ others
same_rows bound bound' [] [] a b same = refl
same_rows bound bound' [] (s ∷ ss) a b same =
    let p = row_parts bound' s (and_parts (is_row bound' s) (are_rows (s.left + 1) ss) b).0 in
    absurd (none_in_nil (s.left, p.a_right) (subst (λ l. Contains l (s.left, p.a_right)) (sym same) (Contains-append_left (pairs_of_row s) (flat_map pairs_of_row ss) (s.left, p.a_right) (of_row s s.left p.a_right refl p.has_right))))
same_rows bound bound' (r ∷ rs) [] a b same =
    let p = row_parts bound r (and_parts (is_row bound r) (are_rows (r.left + 1) rs) a).0 in
    absurd (none_in_nil (r.left, p.a_right) (subst (λ l. Contains l (r.left, p.a_right)) same (Contains-append_left (pairs_of_row r) (flat_map pairs_of_row rs) (r.left, p.a_right) (of_row r r.left p.a_right refl p.has_right))))
same_rows bound bound' (r ∷ rs) (s ∷ ss) a b same =
    let pa = and_parts (is_row bound r) (are_rows (r.left + 1) rs) a in
    let pb = and_parts (is_row bound' s) (are_rows (s.left + 1) ss) b in
    let p = row_parts bound r pa.0 in
    let q = row_parts bound' s pb.0 in
    let to = crosses r s rs ss pb.1 same in
    let from = crosses s r ss rs pa.1 (sym same) in
    let low = (to r.left p.a_right p.has_right refl).0 in
    let high = (from s.left q.a_right q.has_right refl).0 in
    let lefts : r.left ≡ s.left = (omega arith) in
    let numbers : numbers_of r.runs ≡ numbers_of s.runs = same_numbers 0 0 (numbers_of r.runs) (numbers_of s.runs) p.ascending q.ascending
    (λ n has. (to r.left n has refl).1 lefts) (λ n has. (from s.left n has refl).1 (sym lefts)) in
    let heads : r ≡ s = row_is r s lefts (same_runs r.runs s.runs p.apart q.apart numbers) in
    let rests = append_cancel_left (pairs_of_row s) (flat_map pairs_of_row rs) (flat_map pairs_of_row ss) (subst (λ z. pairs_of_row z ++ flat_map pairs_of_row rs ≡ pairs_of_row s ++ flat_map pairs_of_row ss) heads same) in
    ap (λ z. z ∷ rs) heads ∙ ap (λ l. s ∷ l) (same_rows (r.left + 1) (s.left + 1) rs ss pa.1 pb.1 rests)
  where
    -- A pair of the first row stands in the other list: in its first row, or behind it.
    crosses : (r s : Row) (rs ss : List Row) → are_rows (s.left + 1) ss ≡ true → flat_map pairs_of_row (r ∷ rs) ≡ flat_map pairs_of_row (s ∷ ss) → (left n : ℕ) → Contains (numbers_of r.runs) n → left ≡ r.left →
        (s.left ≤ left) × (left ≡ s.left → Contains (numbers_of s.runs) n)
    crosses r s rs ss behind same left n has e =
        let here : Contains (flat_map pairs_of_row (s ∷ ss)) (left, n) = subst (λ l. Contains l (left, n)) same (Contains-append_left (pairs_of_row r) (flat_map pairs_of_row rs) (left, n) (of_row r left n e has)) in
        elim (Contains-append_cases (pairs_of_row s) (flat_map pairs_of_row ss) (left, n) here) [
          | inl first ↦ let at = in_row s left n first in let l = at.0 in (omega arith, λ _. at.1)
          | inr later ↦ let above = rows_above (s.left + 1) ss behind (left, n) later in (omega arith, λ f. absurd (omega arith))
        ]

-- So it is where each has the other's pairs.
pub one_rows :
    (rows others : List Row)
    → are_rows 0 rows ≡ true
    → are_rows 0 others ≡ true
    → IsWithin (flat_map pairs_of_row rows) (flat_map pairs_of_row others)
    → IsWithin (flat_map pairs_of_row others) (flat_map pairs_of_row rows)
    → rows ≡ others
one_rows rows others a b to from =
    same_rows 0 0 rows others a b
    (same_pairs (flat_map pairs_of_row rows) (flat_map pairs_of_row others) (rows_ascend 0 rows a) (rows_ascend 0 others b) (λ z has. to z.0 z.1 has) (λ z has. from z.0 z.1 has))
