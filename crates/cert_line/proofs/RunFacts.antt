use Rattle.std.proofs.Common.{◌≡◌, ℕ, zero, suc, ◌<◌, ◌≤◌, ◌+◌, ◌-◌, ◌==◌, List, [], ◌∷◌, ◌++◌, Bool, true, false, ◌&&◌, cond, nat_le, decimal, refl, sym, ap, ap₂, ◌∙◌, subst, arith, ⊎_elim, eqb-true, eq-eqb, ne_eqb, le-leb, leb-true, lt-ltb, append_assoc}
use Rattle.std.specs.List.{list_all, range_with_len}
use Rattle.std.proofs.lemmas.Bool.{and_parts, and_from, cond-true, cond-false, cases_lt, lt-leb, eqb-false}
use Rattle.cert_value.specs.declared.types.Run.{Run}
use Rattle.cert_value.specs.Text.{numbers, run_numbers, numbers_of, ends_of, row_numbers}
use Rattle.cert_value.specs.WellFormed.{is_short, are_short, has_some, ascend_from, ascend, is_run, runs_ascend_from, runs_ascend}
use Rattle.cert_line.specs.declared.shapes.Tail.TheVariants as tail
use Rattle.cert_line.specs.Shapes.{pair_up, may_follow}
use Rattle.cert_line.proofs.NumberFacts.{short_lt}
use Rattle.cert_line.proofs.PairLemmas.{some_cons, pairs_back, pairs_there, pairs_short, short_pairs, pairs_even, pairs_some, some_pairs}
use Rattle.cert_line.specs.Lines.{run, runs_of_ends, onto_runs, joined_runs, runs_of, row_ascends, row_tail}

-- The numbers of runs.
-- a run of one number
one_number : (n : ℕ) → run_numbers (run n n) ≡ n ∷ []
one_number n =
    let e : n + 1 - n ≡ 1 = omega arith in
    ap (λ k. range_with_len n k) e

-- a run that is not empty, by its first number
run_more : (n m : ℕ) → n < m → run_numbers (run n m) ≡ n ∷ run_numbers (run (n + 1) m)
run_more n m h =
    let e : m + 1 - n ≡ suc (m + 1 - (n + 1)) = omega arith in
    ap (λ k. range_with_len n k) e

-- two runs that follow one another
span_join : (k n l m : ℕ) → n + k ≡ l → l < m → run_numbers (run n l) ++ run_numbers (run (l + 1) m) ≡ run_numbers (run n m)
span_join zero n l m e h =
    let same : l ≡ n = omega arith in
    let P : ℕ → Type 0 = λ l. run_numbers (run n l) ++ run_numbers (run (l + 1) m) ≡ run_numbers (run n m) in
    subst P (sym same) (ap (λ xs. xs ++ run_numbers (run (n + 1) m)) (one_number n) ∙ sym (run_more n m (omega arith)))
span_join (suc k) n l m e h =
    ap (λ xs. xs ++ run_numbers (run (l + 1) m)) (run_more n l (omega arith))
    ∙ ap (λ xs. n ∷ xs) (span_join k (n + 1) l m (omega arith) h)
    ∙ sym (run_more n m (omega arith))

-- Runs that are not empty.
abbrev full : Run → Bool
full r = nat_le r.first r.last

onto_by : (b : Bool) (r s : Run) (rs : List Run) → (b ≡ true → r.last + 1 ≡ s.first) → r.first ≤ r.last → s.first ≤ s.last
    → numbers_of (cond b (run r.first s.last ∷ rs) (r ∷ s ∷ rs)) ≡ run_numbers r ++ numbers_of (s ∷ rs)
onto_by false r s rs f h k = refl
onto_by true r s rs f h k =
    let next : r.last + 1 ≡ s.first = f refl in
    let d : r.first + (r.last - r.first) ≡ r.last = omega arith in
    let less : r.last < s.last = omega arith in
    let two : run_numbers r ++ run_numbers (run (r.last + 1) s.last) ≡ run_numbers (run r.first s.last) =
    span_join (r.last - r.first) r.first r.last s.last d less in
    let same : run_numbers (run (r.last + 1) s.last) ≡ run_numbers s = ap (λ x. run_numbers (run x s.last)) next in
    ap (λ xs. xs ++ numbers_of rs) (sym two ∙ ap (λ xs. run_numbers r ++ xs) same)
    ∙ append_assoc (run_numbers r) (run_numbers s) (numbers_of rs)

onto_numbers : (r : Run) (rs : List Run) → r.first ≤ r.last → list_all full rs ≡ true
    → numbers_of (onto_runs r rs) ≡ run_numbers r ++ numbers_of rs
onto_numbers r [] h e = refl
onto_numbers r (s ∷ rs) h e =
    let a = and_parts (full s) (list_all full rs) e in
    onto_by (r.last + 1 == s.first) r s rs (eqb-true (r.last + 1) s.first) h (leb-true s.first s.last a.0)

full_by : (b : Bool) (r s : Run) (rs : List Run) → (b ≡ true → r.last + 1 ≡ s.first) → full r ≡ true → list_all full (s ∷ rs) ≡ true
    → list_all full (cond b (run r.first s.last ∷ rs) (r ∷ s ∷ rs)) ≡ true
full_by false r s rs f h e = and_from (full r) _ h e
full_by true r s rs f h e =
    let a = and_parts (full s) (list_all full rs) e in
    let next : r.last + 1 ≡ s.first = f refl in
    let low = leb-true r.first r.last h in
    let high = leb-true s.first s.last a.0 in
    and_from (nat_le r.first s.last) _ (le-leb r.first s.last (omega arith)) a.1

onto_full : (r : Run) (rs : List Run) → full r ≡ true → list_all full rs ≡ true → list_all full (onto_runs r rs) ≡ true
onto_full r [] h e = and_from (full r) true h refl
onto_full r (s ∷ rs) h e = full_by (r.last + 1 == s.first) r s rs (eqb-true (r.last + 1) s.first) h e

own_full : (n : ℕ) → full (run n n) ≡ true
own_full n = le-leb n n (omega arith)

joined_full : (ns : List ℕ) → list_all full (joined_runs ns) ≡ true
joined_full [] = refl
joined_full (n ∷ ns) = onto_full (run n n) (joined_runs ns) (own_full n) (joined_full ns)

pub joined_there : (ns : List ℕ) → numbers_of (joined_runs ns) ≡ ns
joined_there [] = refl
joined_there (n ∷ ns) =
    onto_numbers (run n n) (joined_runs ns) (omega arith) (joined_full ns)
    ∙ ap₂ (λ xs ys. xs ++ ys) (one_number n) (joined_there ns)

-- Runs joined from the numbers of runs.
span_joined : (k n l : ℕ) (rest : List ℕ) → n + k ≡ l
    → joined_runs (run_numbers (run n l) ++ rest) ≡ onto_runs (run n l) (joined_runs rest)
span_joined zero n l rest e =
    let same : l ≡ n = omega arith in
    let P : ℕ → Type 0 = λ l. joined_runs (run_numbers (run n l) ++ rest) ≡ onto_runs (run n l) (joined_runs rest) in
    subst P (sym same) (ap (λ xs. joined_runs (xs ++ rest)) (one_number n))
span_joined (suc k) n l rest e =
    ap (λ xs. joined_runs (xs ++ rest)) (run_more n l (omega arith))
    ∙ ap (λ rs. onto_runs (run n n) rs) (span_joined k (n + 1) l rest (omega arith))
    ∙ first_joined k n l (joined_runs rest) (omega arith)
  where
    first_joined : (k n l : ℕ) (rs : List Run) → n + 1 + k ≡ l → onto_runs (run n n) (onto_runs (run (n + 1) l) rs) ≡ onto_runs (run n l) rs
    first_joined k n l [] e = cond-true (n + 1 == n + 1) (run n l ∷ []) (run n n ∷ run (n + 1) l ∷ []) (eq-eqb (n + 1) (n + 1) refl)
    first_joined k n l (s ∷ rs) e = by (l + 1 == s.first) n l s rs where
      by : (b : Bool) (n l : ℕ) (s : Run) (rs : List Run)
          → onto_runs (run n n) (cond b (run (n + 1) s.last ∷ rs) (run (n + 1) l ∷ s ∷ rs)) ≡ cond b (run n s.last ∷ rs) (run n l ∷ s ∷ rs)
      by true n l s rs = cond-true (n + 1 == n + 1) (run n s.last ∷ rs) (run n n ∷ run (n + 1) s.last ∷ rs) (eq-eqb (n + 1) (n + 1) refl)
      by false n l s rs = cond-true (n + 1 == n + 1) (run n l ∷ s ∷ rs) (run n n ∷ run (n + 1) l ∷ s ∷ rs) (eq-eqb (n + 1) (n + 1) refl)

apart_from : (r : Run) (rs : List Run) → runs_ascend_from (r.last + 2) rs ≡ true → onto_runs r rs ≡ r ∷ rs
apart_from r [] e = refl
apart_from r (s ∷ rs) e =
    let a = and_parts (nat_le (r.last + 2) s.first) _ e in
    let far = leb-true (r.last + 2) s.first a.0 in
    cond-false (r.last + 1 == s.first) (run r.first s.last ∷ rs) (r ∷ s ∷ rs) (ne_eqb (r.last + 1) s.first (λ h. omega arith))

pub joined_back : (bound : ℕ) (rs : List Run) → runs_ascend_from bound rs ≡ true → joined_runs (numbers_of rs) ≡ rs
joined_back bound [] e = refl
joined_back bound (r ∷ rs) e =
    let a = and_parts (nat_le bound r.first) _ e in
    let b = and_parts (nat_le r.first r.last) (runs_ascend_from (r.last + 2) rs) a.1 in
    let low = leb-true r.first r.last b.0 in
    span_joined (r.last - r.first) r.first r.last (numbers_of rs) (omega arith)
    ∙ ap (λ xs. onto_runs r xs) (joined_back (r.last + 2) rs b.1)
    ∙ apart_from r rs b.1

-- Numbers ascend just where their runs do.
next_le : (n m : ℕ) → (n ≡ m → ⊥) → nat_le n m ≡ nat_le (n + 1) m
next_le n m apart =
    ⊎_elim
    (λ lt. let more : n + 1 ≤ m = omega arith in le-leb n m (omega arith) ∙ sym (le-leb (n + 1) m more))
    (λ le. let less : m < n = strict n m le apart in lt-leb n m less ∙ sym (lt-leb (n + 1) m (omega arith)))
    (cases_lt n m) where
      strict : (n m : ℕ) → m ≤ n → (n ≡ m → ⊥) → m < n
      strict n m le apart = ⊎_elim (λ lt. lt) (λ ge. absurd (apart (omega arith))) (cases_lt m n)

ascend_by : (b : Bool) (n bound : ℕ) (s : Run) (rs : List Run) → (n + 1 == s.first) ≡ b → s.first ≤ s.last
    → (nat_le bound n && runs_ascend_from (n + 1) (s ∷ rs)) ≡ runs_ascend_from bound (cond b (run n s.last ∷ rs) (run n n ∷ s ∷ rs))
ascend_by true n bound s rs e h =
    let next : n + 1 ≡ s.first = eqb-true (n + 1) s.first e in
    let a : nat_le (n + 1) s.first ≡ true = le-leb (n + 1) s.first (omega arith) in
    let b : nat_le s.first s.last ≡ true = le-leb s.first s.last h in
    let c : nat_le n s.last ≡ true = le-leb n s.last (omega arith) in
    ap₂ (λ x y. nat_le bound n && (x && (y && runs_ascend_from (s.last + 2) rs))) a b
    ∙ sym (ap (λ x. nat_le bound n && (x && runs_ascend_from (s.last + 2) rs)) c)
ascend_by false n bound s rs e h =
    let apart : n + 1 ≡ s.first → ⊥ = eqb-false (n + 1) s.first e in
    let a : nat_le n n ≡ true = own_full n in
    let e2 : n + 2 ≡ (n + 1) + 1 = omega arith in
    ap (λ x. nat_le bound n && (x && (nat_le s.first s.last && runs_ascend_from (s.last + 2) rs))) (next_le (n + 1) s.first apart)
    ∙ ap (λ k. nat_le bound n && (nat_le k s.first && (nat_le s.first s.last && runs_ascend_from (s.last + 2) rs))) (sym e2)
    ∙ sym (ap (λ x. nat_le bound n && (x && runs_ascend_from (n + 2) (s ∷ rs))) a)

ascend_onto : (n bound : ℕ) (rs : List Run) → list_all full rs ≡ true
    → (nat_le bound n && runs_ascend_from (n + 1) rs) ≡ runs_ascend_from bound (onto_runs (run n n) rs)
ascend_onto n bound [] e = ap (λ x. nat_le bound n && (x && true)) (sym (own_full n))
ascend_onto n bound (s ∷ rs) e =
    let a = and_parts (full s) (list_all full rs) e in
    ascend_by (n + 1 == s.first) n bound s rs refl (leb-true s.first s.last a.0)

pub joined_ascend : (bound : ℕ) (ns : List ℕ) → ascend_from bound ns ≡ runs_ascend_from bound (joined_runs ns)
joined_ascend bound [] = refl
joined_ascend bound (n ∷ ns) =
    ap (λ x. nat_le bound n && x) (joined_ascend (n + 1) ns) ∙ ascend_onto n bound (joined_runs ns) (joined_full ns)

-- Short numbers.
short_span : (k n : ℕ) → n + k ≤ 1000000000 → are_short (range_with_len n k) ≡ true
short_span zero n h = refl
short_span (suc k) n h =
    and_from (is_short n) _ (lt-ltb n 1000000000 (omega arith)) (short_span k (n + 1) (omega arith))

pub short_append : (ns ms : List ℕ) → are_short ns ≡ true → are_short ms ≡ true → are_short (ns ++ ms) ≡ true
short_append [] ms e f = f
short_append (n ∷ ns) ms e f =
    let a = and_parts (is_short n) (are_short ns) e in
    and_from (is_short n) _ a.0 (short_append ns ms a.1 f)

numbers_short : (rs : List Run) → list_all is_run rs ≡ true → are_short (numbers_of rs) ≡ true
numbers_short [] e = refl
numbers_short (r ∷ rs) e =
    let a = and_parts (is_run r) (list_all is_run rs) e in
    let b = and_parts (is_short r.first) (is_short r.last) a.0 in
    let low = short_lt r.first b.0 in
    let high = short_lt r.last b.1 in
    short_append (run_numbers r) (numbers_of rs) (short_span (r.last + 1 - r.first) r.first (omega arith)) (numbers_short rs a.1)

onto_short_by : (b : Bool) (r s : Run) (rs : List Run) → is_run r ≡ true → list_all is_run (s ∷ rs) ≡ true
    → list_all is_run (cond b (run r.first s.last ∷ rs) (r ∷ s ∷ rs)) ≡ true
onto_short_by false r s rs h e = and_from (is_run r) _ h e
onto_short_by true r s rs h e =
    let a = and_parts (is_run s) (list_all is_run rs) e in
    let b = and_parts (is_short s.first) (is_short s.last) a.0 in
    let c = and_parts (is_short r.first) (is_short r.last) h in
    and_from (is_short r.first && is_short s.last) _ (and_from (is_short r.first) (is_short s.last) c.0 b.1) a.1

onto_short : (r : Run) (rs : List Run) → is_run r ≡ true → list_all is_run rs ≡ true → list_all is_run (onto_runs r rs) ≡ true
onto_short r [] h e = and_from (is_run r) true h refl
onto_short r (s ∷ rs) h e = onto_short_by (r.last + 1 == s.first) r s rs h e

pub joined_short : (ns : List ℕ) → are_short ns ≡ true → list_all is_run (joined_runs ns) ≡ true
joined_short [] e = refl
joined_short (n ∷ ns) e =
    let a = and_parts (is_short n) (are_short ns) e in
    onto_short (run n n) (joined_runs ns) (and_from (is_short n) (is_short n) a.0 a.0) (joined_short ns a.1)

-- Lists that are not empty.
numbers_some : (bound : ℕ) (rs : List Run) → has_some rs ≡ true → runs_ascend_from bound rs ≡ true → has_some (numbers (numbers_of rs)) ≡ true
numbers_some bound [] e f = e
numbers_some bound (r ∷ rs) e f =
    let a = and_parts (nat_le bound r.first) _ f in
    let b = and_parts (nat_le r.first r.last) (runs_ascend_from (r.last + 2) rs) a.1 in
    let low = leb-true r.first r.last b.0 in
    let k : r.last + 1 - r.first ≡ suc (r.last - r.first) = omega arith in
    ap (λ k. has_some (numbers (range_with_len r.first k ++ numbers_of rs))) k
    ∙ some_cons (decimal r.first) (numbers (range_with_len (r.first + 1) (r.last - r.first) ++ numbers_of rs))

onto_some_by : (b : Bool) (r s : Run) (rs : List Run) → has_some (cond b (run r.first s.last ∷ rs) (r ∷ s ∷ rs)) ≡ true
onto_some_by true r s rs = some_cons (run r.first s.last) rs
onto_some_by false r s rs = some_cons r (s ∷ rs)

pub onto_some : (r : Run) (rs : List Run) → has_some (onto_runs r rs) ≡ true
onto_some r [] = some_cons r []
onto_some r (s ∷ rs) = onto_some_by (r.last + 1 == s.first) r s rs

joined_some : (ns : List ℕ) → has_some (numbers ns) ≡ true → has_some (joined_runs ns) ≡ true
joined_some [] e = e
joined_some (n ∷ ns) e = onto_some (run n n) (joined_runs ns)

-- The same in each version.
back_by : (b : Bool) (rs : List Run) → runs_ascend rs ≡ true
    → cond b (runs_of_ends (cond b (ends_of rs) (numbers_of rs))) (joined_runs (cond b (ends_of rs) (numbers_of rs))) ≡ rs
back_by true rs e = pairs_back run (λ r. r.first) (λ r. r.last) (λ r. refl) rs
back_by false rs e = joined_back 0 rs e

pub runs_back : (v : ℕ) (rs : List Run) → runs_ascend rs ≡ true → runs_of v (row_numbers v rs) ≡ rs
runs_back v rs e = back_by (v == 2) rs e

there_by : (b : Bool) (ns : List ℕ) → may_follow (cond b (tail.Pairs 0) tail.SomeNumbers) (numbers ns) ≡ true
    → cond b (ends_of (cond b (runs_of_ends ns) (joined_runs ns))) (numbers_of (cond b (runs_of_ends ns) (joined_runs ns))) ≡ ns
there_by true ns e =
    pairs_there run (λ r. r.first) (λ r. r.last) (λ n m. refl) (λ n m. refl) ns (and_parts (has_some (numbers ns)) (pair_up (numbers ns)) e).1
there_by false ns e = joined_there ns

pub runs_there : (v : ℕ) (ns : List ℕ) → may_follow (row_tail v) (numbers ns) ≡ true → row_numbers v (runs_of v ns) ≡ ns
runs_there v ns e = there_by (v == 2) ns e

short_by : (b : Bool) (rs : List Run) → list_all is_run rs ≡ true → are_short (cond b (ends_of rs) (numbers_of rs)) ≡ true
short_by true rs e = pairs_short run (λ r. r.first) (λ r. r.last) is_run (λ r. refl) rs e
short_by false rs e = numbers_short rs e

pub runs_short : (v : ℕ) (rs : List Run) → list_all is_run rs ≡ true → are_short (row_numbers v rs) ≡ true
runs_short v rs e = short_by (v == 2) rs e

order_by : (b : Bool) (rs : List Run) → runs_ascend rs ≡ true
    → cond b (runs_ascend (runs_of_ends (cond b (ends_of rs) (numbers_of rs)))) (ascend (cond b (ends_of rs) (numbers_of rs))) ≡ true
order_by true rs e = ap runs_ascend (pairs_back run (λ r. r.first) (λ r. r.last) (λ r. refl) rs) ∙ e
order_by false rs e = joined_ascend 0 (numbers_of rs) ∙ ap runs_ascend (joined_back 0 rs e) ∙ e

pub runs_in_order : (v : ℕ) (rs : List Run) → runs_ascend rs ≡ true → row_ascends v (row_numbers v rs) ≡ true
runs_in_order v rs e = order_by (v == 2) rs e

by_order : (b : Bool) (ns : List ℕ) → cond b (runs_ascend (runs_of_ends ns)) (ascend ns) ≡ true
    → runs_ascend (cond b (runs_of_ends ns) (joined_runs ns)) ≡ true
by_order true ns e = e
by_order false ns e = sym (joined_ascend 0 ns) ∙ e

pub order_runs : (v : ℕ) (ns : List ℕ) → row_ascends v ns ≡ true → runs_ascend (runs_of v ns) ≡ true
order_runs v ns e = by_order (v == 2) ns e

by_short : (b : Bool) (ns : List ℕ) → are_short ns ≡ true → list_all is_run (cond b (runs_of_ends ns) (joined_runs ns)) ≡ true
by_short true ns e = short_pairs run (λ r. r.first) (λ r. r.last) is_run (λ n m. refl) ns e
by_short false ns e = joined_short ns e

pub short_runs : (v : ℕ) (ns : List ℕ) → are_short ns ≡ true → list_all is_run (runs_of v ns) ≡ true
short_runs v ns e = by_short (v == 2) ns e

follow_by : (b : Bool) (rs : List Run) → has_some rs ≡ true → runs_ascend rs ≡ true
    → may_follow (cond b (tail.Pairs 0) tail.SomeNumbers) (numbers (cond b (ends_of rs) (numbers_of rs))) ≡ true
follow_by true rs e f = and_from (has_some (numbers (ends_of rs))) _ (pairs_some run (λ r. r.first) (λ r. r.last) rs e)
    (pairs_even run (λ r. r.first) (λ r. r.last) rs)
follow_by false rs e f = numbers_some 0 rs e f

pub runs_follow : (v : ℕ) (rs : List Run) → has_some rs ≡ true → runs_ascend rs ≡ true
    → may_follow (row_tail v) (numbers (row_numbers v rs)) ≡ true
runs_follow v rs e f = follow_by (v == 2) rs e f

some_by : (b : Bool) (ns : List ℕ) → may_follow (cond b (tail.Pairs 0) tail.SomeNumbers) (numbers ns) ≡ true
    → has_some (cond b (runs_of_ends ns) (joined_runs ns)) ≡ true
some_by true ns e =
    let a = and_parts (has_some (numbers ns)) (pair_up (numbers ns)) e in
    some_pairs run ns a.0 a.1
some_by false ns e = joined_some ns e

pub follow_some : (v : ℕ) (ns : List ℕ) → may_follow (row_tail v) (numbers ns) ≡ true → has_some (runs_of v ns) ≡ true
follow_some v ns e = some_by (v == 2) ns e
