-- The rows of a relation as they are made, and what they list.
use Rattle.std.proofs.Common.{◌≡◌, ℕ, suc, ◌+◌, ◌-◌, ◌<◌, ◌≤◌, ◌&&◌, ◌==◌, true, false, List, [], ◌∷◌, ◌++◌, length, map, Contains, refl, sym, ap, ◌∙◌, subst, inl, inr, arith, length-append}
use Rattle.std.specs.Prelude.{nat_le, nat_lt}
use Rattle.std.specs.List.{list_all, flat_map, range_with_len}
use Rattle.std.proofs.lemmas.Bool.{false≢true, cases_eq, and_parts, and_from, leb-true, le-leb, lt-ltb}
use Rattle.std.proofs.lemmas.List.{append-nil}
use Rattle.std.proofs.lemmas.List.Concat.{flat_map-append}
use Rattle.std.proofs.lemmas.List.Elements.{Contains-append_cases, Contains-append_left, Contains-append_right}
use Rattle.auto_core.specs.Game.{Holds}
use Rattle.auto_core.proofs.PathLemmas.{Contains-cons_cases, Contains-here, Contains-later, none_in_nil}
use Rattle.auto_core.proofs.MemberLemmas.{map_has, map_from}
use Rattle.bit_rel.specs.Relation.{IsPairBefore, ArePairsAscending}
use Rattle.cert_value.specs.declared.types.Row.{Row}
use Rattle.cert_value.specs.declared.types.Run.{Run}
use Rattle.cert_value.specs.Text.{run_numbers, numbers_of}
use Rattle.cert_value.specs.WellFormed.{is_short, has_some, ascend, ascend_from, is_run, runs_ascend, runs_ascend_from, is_row, are_rows}
use Rattle.cert_line.specs.Lines.{run, joined_runs}
use Rattle.cert_line.proofs.RunFacts.{joined_there, joined_back, joined_ascend, joined_short, onto_some}
use Rattle.log_check.specs.Blocks.{pairs_of_row}
use Rattle.log_check.specs.Rows.{HoldsFrom, AreRights, AreRows}

-- Numbers below a bound have few digits.
pub all_short : (ns : List ℕ) → ((n : ℕ) → Contains ns n → n < 1000000000) → list_all is_short ns ≡ true
all_short [] below = refl
all_short (n ∷ ns) below =
    and_from (nat_lt n 1000000000) (list_all is_short ns) (lt-ltb n 1000000000 (below n (Contains-here n n ns refl))) (all_short ns (λ m has. below m (Contains-later n m ns has)))

-- A greater number goes behind ascending ones.
pub ascend_behind : (bound : ℕ) (ns : List ℕ) (n : ℕ) → ascend_from bound ns ≡ true → bound ≤ n → ((m : ℕ) → Contains ns m → m < n) → ascend_from bound (ns ++ n ∷ []) ≡ true
ascend_behind bound [] n h low below = and_from (nat_le bound n) true (le-leb bound n low) refl
ascend_behind bound (m ∷ ns) n h low below =
    let parts = and_parts (nat_le bound m) (ascend_from (m + 1) ns) h in
    let first = below m (Contains-here m m ns refl) in
    and_from (nat_le bound m) (ascend_from (m + 1) (ns ++ n ∷ [])) parts.0
    (ascend_behind (m + 1) ns n parts.1 (omega arith) (λ k has. below k (Contains-later m k ns has)))

-- Ascending numbers are not below the bound.
pub ascend_above : (bound : ℕ) (ns : List ℕ) → ascend_from bound ns ≡ true → (n : ℕ) → Contains ns n → bound ≤ n
ascend_above bound [] h n has = absurd (none_in_nil n has)
ascend_above bound (m ∷ ns) h n has =
    let parts = and_parts (nat_le bound m) (ascend_from (m + 1) ns) h in
    let first = leb-true bound m parts.0 in
    elim (Contains-cons_cases m n ns has) [
      | inl e ↦ omega arith
      | inr later ↦ let more = ascend_above (m + 1) ns parts.1 n later in omega arith
    ]

-- The states of one row, as they are found.
pub rights_none : (S : List (ℕ × ℕ)) (n left : ℕ) → AreRights (HoldsFrom S n 0) left []
rights_none S n left = record { ascending = refl; has = λ q. (λ h. absurd (none_in_nil q h), λ h. let lt = h.0 in absurd (omega arith)) }

pub rights_more :
    (S : List (ℕ × ℕ)) (n left i : ℕ) (rights : List ℕ) → AreRights (HoldsFrom S n i) left rights → Holds S left (n + i) → AreRights (HoldsFrom S n (i + 1)) left (rights ++ i ∷ [])
rights_more S n left i rights are holds = record {
  ascending = ascend_behind 0 rights i are.ascending (omega arith) (λ m h. ((are.has m).0 h).0);
  has = λ q. (
    λ h. elim (Contains-append_cases rights (i ∷ []) q h) [
      | inl before ↦ let old = (are.has q).0 before in let lt = old.0 in (omega arith, old.1)
      | inr new ↦ elim (Contains-cons_cases i q [] new) [
        | inl e ↦ (omega arith, subst (λ m. Holds S left (n + m)) e holds)
        | inr none ↦ absurd (none_in_nil q none)
      ]
    ],
    λ h. go q h.0 h.1,
  );
}
  where
    go : (q : ℕ) → q < i + 1 → Holds S left (n + q) → Contains (rights ++ i ∷ []) q
    go q lt related = elim (cases_eq q i) [
      | inl e ↦ Contains-append_right rights (i ∷ []) q (Contains-here i q [] (sym e))
      | inr other ↦ Contains-append_left rights (i ∷ []) q ((are.has q).1 (omega arith, related))
    ]

pub rights_same :
    (S : List (ℕ × ℕ)) (n left i : ℕ) (rights : List ℕ) → AreRights (HoldsFrom S n i) left rights → (Holds S left (n + i) → ⊥) → AreRights (HoldsFrom S n (i + 1)) left rights
rights_same S n left i rights are lacks = record {
  ascending = are.ascending;
  has = λ q. (λ h. let old = (are.has q).0 h in let lt = old.0 in (omega arith, old.1), λ h. (are.has q).1 (go q h.0 h.1, h.1));
}
  where
    go : (q : ℕ) → q < i + 1 → Holds S left (n + q) → q < i
    go q lt related = elim (cases_eq q i) [
      | inl e ↦ absurd (lacks (subst (λ m. Holds S left (n + m)) e related))
      | inr other ↦ omega arith
    ]

-- Runs that ascend stand for numbers that do.
runs_ascending : (runs : List Run) → runs_ascend runs ≡ true → ascend (numbers_of runs) ≡ true
runs_ascending runs h = joined_ascend 0 (numbers_of runs) ∙ ap runs_ascend (joined_back 0 runs h) ∙ h

-- The runs of a row that has some, and what a row of a certificate has.
some_number : (runs : List Run) → has_some runs ≡ true → runs_ascend runs ≡ true → (q : ℕ) × Contains (numbers_of runs) q
some_number [] some h = absurd (false≢true some)
some_number (run ∷ runs) some h =
    let a = and_parts (nat_le 0 run.first) (nat_le run.first run.last && runs_ascend_from (run.last + 2) runs) h in
    let b = and_parts (nat_le run.first run.last) (runs_ascend_from (run.last + 2) runs) a.1 in
    let le = leb-true run.first run.last b.0 in
    let more : run.last + 1 - run.first ≡ suc (run.last - run.first) = omega arith in (
      run.first,
      Contains-append_left (run_numbers run) (numbers_of runs) run.first
          (subst (λ n. Contains (range_with_len run.first n) run.first) (sym more) (Contains-here run.first run.first (range_with_len (run.first + 1) (run.last - run.first)) refl)),
    )

pub record RowParts (bound : ℕ) (row : Row) : Type 0 where
  pub short : list_all is_run row.runs ≡ true
  pub some : has_some row.runs ≡ true
  pub apart : runs_ascend row.runs ≡ true
  pub ascending : ascend (numbers_of row.runs) ≡ true
  pub low : bound ≤ row.left
  pub a_right : ℕ
  pub has_right : Contains (numbers_of row.runs) a_right

pub row_parts : (bound : ℕ) (row : Row) → is_row bound row ≡ true → RowParts bound row
row_parts bound row is =
    let a = and_parts (is_short row.left) (list_all is_run row.runs && (has_some row.runs && (runs_ascend row.runs && nat_le bound row.left))) is in
    let b = and_parts (list_all is_run row.runs) (has_some row.runs && (runs_ascend row.runs && nat_le bound row.left)) a.1 in
    let c = and_parts (has_some row.runs) (runs_ascend row.runs && nat_le bound row.left) b.1 in
    let d = and_parts (runs_ascend row.runs) (nat_le bound row.left) c.1 in
    let (q, has) = some_number row.runs c.0 d.0 in
    record { short = b.0; some = c.0; apart = d.0; ascending = runs_ascending row.runs d.0; low = leb-true bound row.left d.1; a_right = q; has_right = has }

-- Rows one after another.
row_behind : (bound : ℕ) (rows : List Row) (row : Row) → are_rows bound rows ≡ true → bound ≤ row.left → ((other : Row) → Contains rows other → other.left < row.left) → is_row 0 row ≡ true →
    are_rows bound (rows ++ row ∷ []) ≡ true
row_behind bound [] row h low below is = and_from (is_row bound row) true (raised row is low) refl
  where
    raised : (row : Row) → is_row 0 row ≡ true → bound ≤ row.left → is_row bound row ≡ true
    raised row is low =
        let a = and_parts (is_short row.left) (list_all is_run row.runs && (has_some row.runs && (runs_ascend row.runs && nat_le 0 row.left))) is in
        let p = row_parts 0 row is in
        and_from (is_short row.left) (list_all is_run row.runs && (has_some row.runs && (runs_ascend row.runs && nat_le bound row.left))) a.0
        (and_from (list_all is_run row.runs) (has_some row.runs && (runs_ascend row.runs && nat_le bound row.left)) p.short
        (and_from (has_some row.runs) (runs_ascend row.runs && nat_le bound row.left) p.some
        (and_from (runs_ascend row.runs) (nat_le bound row.left) p.apart (le-leb bound row.left low))))
row_behind bound (first ∷ rows) row h low below is =
    let parts = and_parts (is_row bound first) (are_rows (first.left + 1) rows) h in
    let less = below first (Contains-here first first rows refl) in
    and_from (is_row bound first) (are_rows (first.left + 1) (rows ++ row ∷ [])) parts.0
    (row_behind (first.left + 1) rows row parts.1 (omega arith) (λ other has. below other (Contains-later first other rows has)) is)

-- The pairs of a row.
pub in_row : (row : Row) (p q : ℕ) → Contains (pairs_of_row row) (p, q) → (p ≡ row.left) × Contains (numbers_of row.runs) q
in_row row p q has =
    let (r, r_in, e) = map_from (λ r. (row.left, r)) (numbers_of row.runs) (p, q) has in
    let left : row.left ≡ p = ap (λ (z : ℕ × ℕ). z.0) e in
    let right : r ≡ q = ap (λ (z : ℕ × ℕ). z.1) e in
    (sym left, subst (Contains (numbers_of row.runs)) right r_in)

pub of_row : (row : Row) (p q : ℕ) → p ≡ row.left → Contains (numbers_of row.runs) q → Contains (pairs_of_row row) (p, q)
of_row row p q e has = subst (λ m. Contains (pairs_of_row row) (m, q)) (sym e) (map_has (λ r. (row.left, r)) (numbers_of row.runs) q has)

pub rows_none : (W : ℕ → ℕ → Type 0) → AreRows W 0 []
rows_none W = record {
  formed = refl;
  has = λ p q. (λ h. absurd (none_in_nil (p, q) h), λ h. let lt = h.0 in absurd (omega arith));
  below = λ row h. absurd (none_in_nil row h);
  few = omega arith;
}

pub rows_more :
    (W : ℕ → ℕ → Type 0) (i : ℕ) (rows : List Row) (row : Row) (found : List ℕ)
    → i < 1000000000
    → ((q : ℕ) → W i q → q < 1000000000)
    → AreRows W i rows
    → row.left ≡ i
    → row.runs ≡ joined_runs found
    → AreRights W i found
    → 0 < length found
    → AreRows W (i + 1) (rows ++ row ∷ [])
rows_more W i rows row found small small_rights are left runs rights some = record {
  formed = row_behind 0 rows row are.formed (omega arith) (λ other has. let lt = are.below other has in omega arith) is;
  has = λ p q. (to p q, λ h. from p q h.0 h.1);
  below = λ other has. elim (Contains-append_cases rows (row ∷ []) other has) [
    | inl before ↦ let lt = are.below other before in omega arith
    | inr new ↦ elim (Contains-cons_cases row other [] new) [
      | inl e ↦ let l : row.left ≡ other.left = ap (λ (r : Row). r.left) e in omega arith
      | inr none ↦ absurd (none_in_nil other none)
    ]
  ];
  few = let size = length-append rows (row ∷ []) in let few = are.few in omega arith;
}
  where
    numbers : numbers_of row.runs ≡ found
    numbers = ap numbers_of runs ∙ joined_there found

    short : list_all is_run row.runs ≡ true
    short = ap (list_all is_run) runs ∙ joined_short found (all_short found (λ q has. small_rights q ((rights.has q).0 has)))

    some_run : (found : List ℕ) → 0 < length found → has_some (joined_runs found) ≡ true
    some_run [] lt = absurd (omega arith)
    some_run (q ∷ found) lt = onto_some (run q q) (joined_runs found)

    apart : runs_ascend row.runs ≡ true
    apart = ap runs_ascend runs ∙ sym (joined_ascend 0 found) ∙ rights.ascending

    is : is_row 0 row ≡ true
    is =
        and_from (is_short row.left) (list_all is_run row.runs && (has_some row.runs && (runs_ascend row.runs && nat_le 0 row.left))) (lt-ltb row.left 1000000000 (omega arith))
        (and_from (list_all is_run row.runs) (has_some row.runs && (runs_ascend row.runs && nat_le 0 row.left)) short
        (and_from (has_some row.runs) (runs_ascend row.runs && nat_le 0 row.left) (ap has_some runs ∙ some_run found some)
        (and_from (runs_ascend row.runs) (nat_le 0 row.left) apart (le-leb 0 row.left (omega arith)))))

    in_found : (q : ℕ) → Contains (numbers_of row.runs) q → Contains found q
    in_found q h = subst (λ l. Contains l q) numbers h

    of_found : (q : ℕ) → Contains found q → Contains (numbers_of row.runs) q
    of_found q h = subst (λ l. Contains l q) (sym numbers) h

    joined : flat_map pairs_of_row (rows ++ row ∷ []) ≡ flat_map pairs_of_row rows ++ pairs_of_row row
    joined = flat_map-append pairs_of_row rows (row ∷ []) ∙ ap (λ l. flat_map pairs_of_row rows ++ l) (append-nil (pairs_of_row row))

    to : (p q : ℕ) → Holds (flat_map pairs_of_row (rows ++ row ∷ [])) p q → (p < i + 1) × W p q
    to p q h = elim (Contains-append_cases (flat_map pairs_of_row rows) (pairs_of_row row) (p, q) (subst (λ l. Contains l (p, q)) joined h)) [
      | inl before ↦ let old = (are.has p q).0 before in let lt = old.0 in (omega arith, old.1)
      | inr new ↦
          let at = in_row row p q new in
          let e : p ≡ i = at.0 ∙ left in
          (omega arith, subst (λ m. W m q) (sym e) ((rights.has q).0 (in_found q at.1)))
    ]

    from : (p q : ℕ) → p < i + 1 → W p q → Holds (flat_map pairs_of_row (rows ++ row ∷ [])) p q
    from p q lt related = subst (λ l. Contains l (p, q)) (sym joined) (elim (cases_eq p i) [
      | inl e ↦
          let here : W i q = subst (λ m. W m q) e related in
          Contains-append_right (flat_map pairs_of_row rows) (pairs_of_row row) (p, q) (of_row row p q (e ∙ sym left) (of_found q ((rights.has q).1 here)))
      | inr other ↦ Contains-append_left (flat_map pairs_of_row rows) (pairs_of_row row) (p, q) ((are.has p q).1 (omega arith, related))
    ])

pub rows_same : (W : ℕ → ℕ → Type 0) (i : ℕ) (rows : List Row) (rights : List ℕ) → AreRows W i rows → AreRights W i rights → length rights ≡ 0 → AreRows W (i + 1) rows
rows_same W i rows rights are found none = record {
  formed = are.formed;
  has = λ p q. (λ h. let old = (are.has p q).0 h in let lt = old.0 in (omega arith, old.1), λ h. (are.has p q).1 (go p q h.0 h.1, h.1));
  below = λ row has. let lt = are.below row has in omega arith;
  few = let few = are.few in omega arith;
}
  where
    lacks : (q : ℕ) → W i q → ⊥
    lacks q related = let (k, k_in, e) = (found.has q).1 related in omega arith

    go : (p q : ℕ) → p < i + 1 → W p q → p < i
    go p q lt related = elim (cases_eq p i) [
      | inl e ↦ absurd (lacks q (subst (λ m. W m q) e related))
      | inr other ↦ omega arith
    ]

-- Ascending pairs, and then such behind them.
ascending_join : (xs ys : List (ℕ × ℕ)) → ArePairsAscending xs → ArePairsAscending ys → ((x y : ℕ × ℕ) → Contains xs x → Contains ys y → IsPairBefore x y) → ArePairsAscending (xs ++ ys)
ascending_join [] ys a b between = b
ascending_join (x ∷ xs) ys (first, rest) b between = (
  λ y h. elim (Contains-append_cases xs ys y h) [
    | inl near ↦ first y near
    | inr far ↦ between x y (Contains-here x x xs refl) far
  ],
  ascending_join xs ys rest b (λ u v in_xs in_ys. between u v (Contains-later x u xs in_xs) in_ys),
)

-- The pairs of rows ascend.
row_ascends : (left bound : ℕ) (rights : List ℕ) → ascend_from bound rights ≡ true → ArePairsAscending (map (λ q. (left, q)) rights)
row_ascends left bound [] h = tt
row_ascends left bound (r ∷ rights) h =
    let parts = and_parts (nat_le bound r) (ascend_from (r + 1) rights) h in (
      λ y has.
          let (q, q_in, e) = map_from (λ q. (left, q)) rights y has in
          let above = ascend_above (r + 1) rights parts.1 q q_in in
          let first : left ≡ y.0 = ap (λ (z : ℕ × ℕ). z.0) e in
          let second : q ≡ y.1 = ap (λ (z : ℕ × ℕ). z.1) e in
          inr (first, omega arith),
      row_ascends left (r + 1) rights parts.1,
    )

pub rows_above : (bound : ℕ) (rows : List Row) → are_rows bound rows ≡ true → (x : ℕ × ℕ) → Contains (flat_map pairs_of_row rows) x → bound ≤ x.0
rows_above bound [] h x has = absurd (none_in_nil x has)
rows_above bound (row ∷ rows) h x has =
    let parts = and_parts (is_row bound row) (are_rows (row.left + 1) rows) h in
    let low = (row_parts bound row parts.0).low in
    elim (Contains-append_cases (pairs_of_row row) (flat_map pairs_of_row rows) x has) [
      | inl here ↦ let e = (in_row row x.0 x.1 here).0 in omega arith
      | inr later ↦ let more = rows_above (row.left + 1) rows parts.1 x later in omega arith
    ]

pub rows_ascend : (bound : ℕ) (rows : List Row) → are_rows bound rows ≡ true → ArePairsAscending (flat_map pairs_of_row rows)
rows_ascend bound [] h = tt
rows_ascend bound (row ∷ rows) h =
    let parts = and_parts (is_row bound row) (are_rows (row.left + 1) rows) h in
    ascending_join (pairs_of_row row) (flat_map pairs_of_row rows) (row_ascends row.left 0 (numbers_of row.runs) (row_parts bound row parts.0).ascending) (rows_ascend (row.left + 1) rows parts.1)
    (λ x y x_in y_in.
    let e = (in_row row x.0 x.1 x_in).0 in
    let more = rows_above (row.left + 1) rows parts.1 y y_in in
    inl (omega arith))

pub some_from_test : (ns : List ℕ) → (length ns == 0) ≡ false → 0 < length ns
some_from_test [] e = absurd (false≢true (sym e))
some_from_test (n ∷ ns) e = omega arith
