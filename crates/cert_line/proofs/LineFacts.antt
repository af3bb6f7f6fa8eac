use Rattle.std.proofs.Common.{◌≡◌, ℕ, zero, suc, ◌+◌, ◌-◌, ◌==◌, List, [], ◌∷◌, ◌++◌, length, map, take, drop, true, ◌&&◌, nat_le, decimal, Ok, refl, sym, ap, ap₂, ◌∙◌, subst, arith, eqb-true, eq-eqb}
use Rattle.std.specs.List.{list_all}
use Rattle.std.proofs.Math.Seq.{drop-nil, drop-append_seam, take-append_seam}
use Rattle.std.proofs.lemmas.List.{drop-map, take-append-drop}
use Rattle.std.proofs.lemmas.Bool.{and_parts, and_from}
use Rattle.cert_value.specs.declared.keywords.Keyword.{Keyword}
use Rattle.cert_value.specs.declared.keywords.Keyword.TheVariants as keyword
use Rattle.cert_line.specs.declared.shapes.Place.TheVariants.{Word, Number}
use Rattle.cert_line.specs.declared.shapes.Tail.{Tail}
use Rattle.cert_line.specs.declared.shapes.Tail.TheVariants as tail
use Rattle.cert_value.specs.declared.types.GoneBy.{GoneBy}
use Rattle.cert_value.specs.declared.types.Row.{Row}
use Rattle.cert_value.specs.declared.types.Run.{Run}
use Rattle.cert_value.specs.declared.types.RankRow.{RankRow}
use Rattle.cert_value.specs.declared.types.Ranked.{Ranked}
use Rattle.cert_value.specs.declared.types.StepLine.{StepLine}
use Rattle.cert_line.specs.declared.lines.Sizes.{Sizes}
use Rattle.cert_value.specs.Text.{Line, spelled, numbers, row_numbers, ranked_numbers, gone_numbers}
use Rattle.cert_value.specs.WellFormed.{is_short, are_short, has_some, ascend, is_run, runs_ascend, rank_key, is_less, rights_of, gone_of, is_row, is_ranked, is_rank_row, is_gone, are_gone, is_step_of}
use Rattle.cert_line.specs.Shapes.{value, pair_up, may_follow, value_at, values_from}
use Rattle.cert_line.specs.Lines.{ranked, gone_by, Said, as_shape, in_order, word_in, number_in, numbers_in, sizes_in, runs_of, row_ascends, row_tail, row_of, row_in, ranked_of, rank_row_of, rank_row_in, gone_by_of, gone_by_in, step_of, step_in}
use Rattle.cert_line.proofs.PairLemmas.{some_cons, pairs_back, pairs_there, pairs_short, short_pairs, pairs_even, pairs_some, some_pairs}
use Rattle.cert_line.proofs.RunFacts.{runs_back, runs_there, runs_short, short_runs, runs_follow, follow_some, runs_in_order, order_runs, short_append}
use Rattle.cert_line.proofs.NumberFacts.{value_decimal, values_numbers, numbers_are}
use Rattle.cert_line.proofs.ShapeFacts.{as_fw, as_bw, closed_none, order_fw, order_bw}

pub some_numbers : (ns : List ℕ) → has_some ns ≡ true → has_some (numbers ns) ≡ true
some_numbers [] e = e
some_numbers (n ∷ ns) e = some_cons (decimal n) (numbers ns)

pub numbers_some : (ns : List ℕ) → has_some (numbers ns) ≡ true → has_some ns ≡ true
numbers_some [] e = e
numbers_some (n ∷ ns) e = some_cons n ns

-- Lines of one word.
pub word_fw : (w : Keyword) → word_in w (spelled w ∷ []) ≡ Ok tt
word_fw w = as_fw (Word w ∷ []) [] [] tail.Nothing (λ tokens. Ok tt) tt refl refl

pub word_bw : (w : Keyword) (ts : Line) (u : Unit {0}) → word_in w ts ≡ Ok u → ts ≡ spelled w ∷ []
word_bw w ts u e = closed_none (Word w ∷ []) ts (as_bw (Word w ∷ []) tail.Nothing (λ tokens. Ok tt) ts u e).0

-- Lines of a word and a number.
pub number_fw : (w : Keyword) (n : ℕ) → is_short n ≡ true → number_in w (spelled w ∷ decimal n ∷ []) ≡ Ok n
number_fw w n s =
    let f : ℕ → Said ℕ = λ v. Ok v in
    as_fw (Word w ∷ Number ∷ []) (n ∷ []) [] tail.Nothing (λ tokens. Ok (value_at tokens 1)) (s, tt) refl refl
    ∙ ap f (value_decimal n s)

pub number_bw : (w : Keyword) (ts : Line) (n : ℕ) → number_in w ts ≡ Ok n
    → (is_short n ≡ true) × (ts ≡ spelled w ∷ decimal n ∷ [])
number_bw w ts n e =
    let p = as_bw (Word w ∷ Number ∷ []) tail.Nothing (λ tokens. Ok (value_at tokens 1)) ts n e in
    let same : value_at ts 1 ≡ n = let q = p.1 in cc in (
      ap is_short (sym same) ∙ p.0.heads.0,
      closed_none (Word w ∷ Number ∷ []) ts p.0 ∙ ap (λ v. spelled w ∷ decimal v ∷ []) same,
    )

-- Lines of a word and numbers.
pub numbers_fw : (w : Keyword) (t : Tail) (ns : List ℕ) → are_short ns ≡ true → may_follow t (numbers ns) ≡ true
    → numbers_in w t (spelled w ∷ numbers ns) ≡ Ok ns
numbers_fw w t ns s m =
    let f : List ℕ → Said (List ℕ) = λ v. Ok v in
    as_fw (Word w ∷ []) [] (numbers ns) t (λ tokens. Ok (values_from 1 tokens)) tt (numbers_are ns s) m
    ∙ ap f (values_numbers ns s)

pub numbers_bw : (w : Keyword) (t : Tail) (ts : Line) (ns : List ℕ) → numbers_in w t ts ≡ Ok ns
    → (are_short ns ≡ true) × (may_follow t (numbers ns) ≡ true) × (ts ≡ spelled w ∷ numbers ns)
numbers_bw w t ts ns e =
    let p = as_bw (Word w ∷ []) t (λ tokens. Ok (values_from 1 tokens)) ts ns e in
    let same : values_from 1 ts ≡ ns = let q = p.1 in cc in (
      ap are_short (sym same) ∙ p.0.short,
      ap (λ vs. may_follow t (numbers vs)) (sym same) ∙ p.0.follows,
      p.0.line ∙ ap (λ vs. spelled w ∷ numbers vs) same,
    )

-- Lines of a word and numbers that ascend.
abbrev pub sorted_in : {A : Type 0} → Keyword → Tail → (List ℕ → A) → Line → Said A
sorted_in w t head =
    as_shape (Word w ∷ []) t (λ tokens. in_order (ascend (values_from 1 tokens)) (head (values_from 1 tokens)))

pub sorted_fw : {A : Type 0} (w : Keyword) (t : Tail) (head : List ℕ → A) (ns : List ℕ) → are_short ns ≡ true → ascend ns ≡ true
    → may_follow t (numbers ns) ≡ true → sorted_in w t head (spelled w ∷ numbers ns) ≡ Ok (head ns)
sorted_fw {A = A} w t head ns s a m =
    let f : List ℕ → Said A = λ v. in_order (ascend v) (head v) in
    as_fw (Word w ∷ []) [] (numbers ns) t (λ tokens. in_order (ascend (values_from 1 tokens)) (head (values_from 1 tokens)))
    tt (numbers_are ns s) m
    ∙ ap f (values_numbers ns s)
    ∙ order_fw (ascend ns) (head ns) a

pub sorted_bw : {A : Type 0} (w : Keyword) (t : Tail) (head : List ℕ → A) (ts : Line) (x : A) → sorted_in w t head ts ≡ Ok x
    → (ns : List ℕ) × (are_short ns ≡ true) × (ascend ns ≡ true) × (may_follow t (numbers ns) ≡ true)
    × (ts ≡ spelled w ∷ numbers ns) × (head ns ≡ x)
sorted_bw w t head ts x e =
    let p = as_bw (Word w ∷ []) t (λ tokens. in_order (ascend (values_from 1 tokens)) (head (values_from 1 tokens))) ts x e in
    let o = order_bw (ascend (values_from 1 ts)) (head (values_from 1 ts)) x p.1 in
    (values_from 1 ts, p.0.short, o.0, p.0.follows, p.0.line, o.1)

-- The line of sizes.
pub sizes_fw : (a b c : ℕ) → is_short a ≡ true → is_short b ≡ true → is_short c ≡ true
    → sizes_in (spelled keyword.Sizes ∷ decimal a ∷ decimal b ∷ decimal c ∷ [])
    ≡ Ok (record { first_states = a; second_states = b; labels = c })
sizes_fw a b c s t u =
    let f : ℕ → ℕ → ℕ → Said Sizes = λ x y z. Ok (record { first_states = x; second_states = y; labels = z }) in
    as_fw (Word keyword.Sizes ∷ Number ∷ Number ∷ Number ∷ []) (a ∷ b ∷ c ∷ []) [] tail.Nothing
    (λ tokens. Ok (record { first_states = value_at tokens 1; second_states = value_at tokens 2; labels = value_at tokens 3 }))
    (s, (t, (u, tt))) refl refl
    ∙ ap (λ x. f x (value (decimal b)) (value (decimal c))) (value_decimal a s)
    ∙ ap (λ y. f a y (value (decimal c))) (value_decimal b t)
    ∙ ap (λ z. f a b z) (value_decimal c u)

pub sizes_bw : (ts : Line) (s : Sizes) → sizes_in ts ≡ Ok s
    → (is_short s.first_states ≡ true) × (is_short s.second_states ≡ true) × (is_short s.labels ≡ true)
    × (ts ≡ spelled keyword.Sizes ∷ decimal s.first_states ∷ decimal s.second_states ∷ decimal s.labels ∷ [])
sizes_bw ts s e =
    let ps = Word keyword.Sizes ∷ Number ∷ Number ∷ Number ∷ [] in
    let p = as_bw ps tail.Nothing
    (λ tokens. Ok (record { first_states = value_at tokens 1; second_states = value_at tokens 2; labels = value_at tokens 3 })) ts s e in
    let own : Sizes = record { first_states = value_at ts 1; second_states = value_at ts 2; labels = value_at ts 3 } in
    let same : own ≡ s = let q = p.1 in cc in
    let P : Sizes → Type 0 = λ s. (is_short s.first_states ≡ true) × (is_short s.second_states ≡ true) × (is_short s.labels ≡ true)
    × (ts ≡ spelled keyword.Sizes ∷ decimal s.first_states ∷ decimal s.second_states ∷ decimal s.labels ∷ []) in
    subst P same (p.0.heads.0, p.0.heads.1.0, p.0.heads.1.1.0, closed_none ps ts p.0)

-- Rows.
pub row_fw : (v bound : ℕ) (row : Row) → is_row bound row ≡ true
    → row_in v bound (spelled keyword.Row ∷ decimal row.left ∷ numbers (row_numbers v row.runs)) ≡ Ok row
row_fw v bound row e =
    let a = and_parts (is_short row.left) _ e in
    let b = and_parts (list_all is_run row.runs) _ a.1 in
    let c = and_parts (has_some row.runs) _ b.1 in
    let d = and_parts (runs_ascend row.runs) (nat_le bound row.left) c.1 in
    let ns = row_numbers v row.runs in
    let s = runs_short v row.runs b.0 in
    let f : ℕ → List ℕ → Said Row = λ l xs. in_order (row_ascends v xs && nat_le bound l) (record { left = l; runs = runs_of v xs }) in
    let g : List Run → Said Row = λ r. in_order (row_ascends v ns && nat_le bound row.left) (record { left = row.left; runs = r }) in
    as_fw (Word keyword.Row ∷ Number ∷ []) (row.left ∷ []) (numbers ns) (row_tail v)
    (λ tokens. in_order (row_ascends v (values_from 2 tokens) && nat_le bound (row_of v tokens).left) (row_of v tokens))
    (a.0, tt) (numbers_are ns s) (runs_follow v row.runs c.0 d.0)
    ∙ ap₂ f (value_decimal row.left a.0) (values_numbers ns s)
    ∙ ap g (runs_back v row.runs d.0)
    ∙ order_fw (row_ascends v ns && nat_le bound row.left) row
    (and_from (row_ascends v ns) (nat_le bound row.left) (runs_in_order v row.runs d.0) d.1)

pub row_bw : (v bound : ℕ) (ts : Line) (row : Row) → row_in v bound ts ≡ Ok row
    → (is_row bound row ≡ true) × (ts ≡ spelled keyword.Row ∷ decimal row.left ∷ numbers (row_numbers v row.runs))
row_bw v bound ts row e =
    let p = as_bw (Word keyword.Row ∷ Number ∷ []) (row_tail v)
    (λ tokens. in_order (row_ascends v (values_from 2 tokens) && nat_le bound (row_of v tokens).left) (row_of v tokens)) ts row e in
    let ns = values_from 2 ts in
    let o = order_bw (row_ascends v ns && nat_le bound (value_at ts 1)) (row_of v ts) row p.1 in
    let q = and_parts (row_ascends v ns) (nat_le bound (value_at ts 1)) o.0 in
    let P : Row → Type 0 = λ row. (is_row bound row ≡ true) × (ts ≡ spelled keyword.Row ∷ decimal row.left ∷ numbers (row_numbers v row.runs)) in
    subst P o.1 (
      and_from (is_short (value_at ts 1)) _ p.0.heads.0
          (and_from (list_all is_run (runs_of v ns)) _ (short_runs v ns p.0.short)
          (and_from (has_some (runs_of v ns)) _ (follow_some v ns p.0.follows)
          (and_from (runs_ascend (runs_of v ns)) _ (order_runs v ns q.0) q.1))),
      p.0.line ∙ ap (λ xs. spelled keyword.Row ∷ decimal (value_at ts 1) ∷ numbers xs) (sym (runs_there v ns p.0.follows)),
    )

-- Rows with ranks.
abbrev right : Ranked → ℕ
right p = p.right

abbrev code : Ranked → ℕ
code p = p.code

-- The labels before the pairs.
labels_told : (ts : Line) (k : ℕ) → drop (k + 2) ts ≡ drop k (drop 2 ts)
labels_told [] k = drop-nil (k + 2) ∙ sym (drop-nil k)
labels_told (t ∷ []) k = let e : k + 2 ≡ suc (suc k) = omega arith in ap (λ n. drop n (t ∷ [])) e ∙ drop-nil (suc k) ∙ sym (drop-nil k)
labels_told (t ∷ u ∷ ts) k = let e : k + 2 ≡ suc (suc k) = omega arith in ap (λ n. drop n (t ∷ u ∷ ts)) e

labels_behind : (xs ys : List ℕ) (k : ℕ) → length xs ≡ k → drop k (xs ++ ys) ≡ ys
labels_behind xs ys k e = ap (λ n. drop n (xs ++ ys)) (sym e) ∙ drop-append_seam xs ys

labels_taken : (xs ys : List ℕ) (k : ℕ) → length xs ≡ k → take k (xs ++ ys) ≡ xs
labels_taken xs ys k e = ap (λ n. take n (xs ++ ys)) (sym e) ∙ take-append_seam xs ys

short_taken : (k : ℕ) (ns : List ℕ) → are_short ns ≡ true → are_short (take k ns) ≡ true
short_taken zero ns e = refl
short_taken (suc k) [] e = refl
short_taken (suc k) (n ∷ ns) e =
    let a = and_parts (is_short n) (are_short ns) e in
    and_from (is_short n) _ a.0 (short_taken k ns a.1)

short_dropped : (k : ℕ) (ns : List ℕ) → are_short ns ≡ true → are_short (drop k ns) ≡ true
short_dropped zero ns e = e
short_dropped (suc k) [] e = refl
short_dropped (suc k) (n ∷ ns) e =
    let a = and_parts (is_short n) (are_short ns) e in
    short_dropped k ns a.1

-- where something is left, all labels are there
taken_whole : (k : ℕ) (ns : List ℕ) → has_some (numbers (drop k ns)) ≡ true → length (take k ns) ≡ k
taken_whole zero ns e = refl
taken_whole (suc k) [] e = absurd (cc)
taken_whole (suc k) (n ∷ ns) e = ap suc (taken_whole k ns e)

abbrev ranks_line : RankRow → Line
ranks_line row = spelled keyword.Row ∷ decimal row.left ∷ numbers (row.ahead ++ ranked_numbers row.rights)

pub rank_row_fw : (letters : ℕ) (key : List ℕ) (row : RankRow) → is_rank_row letters key row ≡ true
    → rank_row_in letters key (spelled keyword.Row ∷ decimal row.left ∷ numbers (row.ahead ++ ranked_numbers row.rights)) ≡ Ok row
rank_row_fw letters key row e =
    let k = letters - 1 in
    let a = and_parts (is_short row.left) _ e in
    let h = and_parts (are_short row.ahead && (length row.ahead == k)) _ a.1 in
    let h2 = and_parts (are_short row.ahead) (length row.ahead == k) h.0 in
    let b = and_parts (list_all is_ranked row.rights) _ h.1 in
    let c = and_parts (has_some row.rights) _ b.1 in
    let rn = ranked_numbers row.rights in
    let ns = row.ahead ++ rn in
    let long : length row.ahead ≡ k = eqb-true (length row.ahead) k h2.1 in
    let s = short_append row.ahead rn h2.0 (pairs_short ranked right code is_ranked (λ p. refl) row.rights b.0) in
    let left : drop k (numbers ns) ≡ numbers rn = drop-map decimal k ns ∙ ap numbers (labels_behind row.ahead rn k long) in
    let follows : may_follow (tail.Pairs k) (numbers ns) ≡ true =
    ap (λ xs. has_some xs && pair_up xs) left
    ∙ and_from (has_some (numbers rn)) _ (pairs_some ranked right code row.rights c.0)
    (pairs_even ranked right code row.rights) in
    let ts = ranks_line row in
    let told : values_from (k + 2) ts ≡ rn =
    ap (λ xs. map value xs) (labels_told ts k ∙ left) ∙ values_numbers rn (pairs_short ranked right code is_ranked (λ p. refl) row.rights b.0) in
    let f : ℕ → List ℕ → List Ranked → Said RankRow = λ l x r.
    in_order (ascend (rights_of r) && is_less key (l ∷ x)) (record { left = l; ahead = x; rights = r }) in
    as_fw (Word keyword.Row ∷ Number ∷ []) (row.left ∷ []) (numbers ns) (tail.Pairs k)
    (λ tokens. in_order
    (ascend (rights_of (rank_row_of k tokens).rights) && is_less key (rank_key (rank_row_of k tokens))) (rank_row_of k tokens))
    (a.0, tt) (numbers_are ns s) follows
    ∙ ap (λ l. f l (take k (values_from 2 ts)) (ranked_of (values_from (k + 2) ts))) (value_decimal row.left a.0)
    ∙ ap (λ x. f row.left x (ranked_of (values_from (k + 2) ts)))
    (ap (λ xs. take k xs) (values_numbers ns s) ∙ labels_taken row.ahead rn k long)
    ∙ ap (λ r. f row.left row.ahead r) (ap ranked_of told ∙ pairs_back ranked right code (λ p. refl) row.rights)
    ∙ order_fw (ascend (rights_of row.rights) && is_less key (rank_key row)) row c.1

pub rank_row_bw : (letters : ℕ) (key : List ℕ) (ts : Line) (row : RankRow) → rank_row_in letters key ts ≡ Ok row
    → (is_rank_row letters key row ≡ true)
    × (ts ≡ spelled keyword.Row ∷ decimal row.left ∷ numbers (row.ahead ++ ranked_numbers row.rights))
rank_row_bw letters key ts row e =
    let k = letters - 1 in
    let own = rank_row_of k ts in
    let p = as_bw (Word keyword.Row ∷ Number ∷ []) (tail.Pairs k)
    (λ tokens. in_order
    (ascend (rights_of (rank_row_of k tokens).rights) && is_less key (rank_key (rank_row_of k tokens))) (rank_row_of k tokens)) ts row e in
    let ns = values_from 2 ts in
    let ms = drop k ns in
    let o = order_bw (ascend (rights_of own.rights) && is_less key (rank_key own)) own row p.1 in
    let m = and_parts (has_some (drop k (numbers ns))) (pair_up (drop k (numbers ns))) p.0.follows in
    let left : drop k (numbers ns) ≡ numbers ms = drop-map decimal k ns in
    let some : has_some (numbers ms) ≡ true = sym (ap has_some left) ∙ m.0 in
    let pairs : pair_up (numbers ms) ≡ true = sym (ap pair_up left) ∙ m.1 in
    let told : values_from (k + 2) ts ≡ ms = ap (λ xs. map value xs) (labels_told ts k) ∙ sym (drop-map value k (drop 2 ts)) in
    let rights : own.rights ≡ ranked_of ms = ap ranked_of told in
    let whole : own.ahead ++ ranked_numbers own.rights ≡ ns =
    ap (λ r. own.ahead ++ ranked_numbers r) rights ∙ ap (λ xs. own.ahead ++ xs) (pairs_there ranked right code (λ n m. refl) (λ n m. refl) ms pairs) ∙ take-append-drop k ns in
    let P : RankRow → Type 0 = λ row. (is_rank_row letters key row ≡ true)
    × (ts ≡ spelled keyword.Row ∷ decimal row.left ∷ numbers (row.ahead ++ ranked_numbers row.rights)) in
    subst P o.1 (
      and_from (is_short own.left) _ p.0.heads.0
          (and_from (are_short own.ahead && (length own.ahead == k)) _
          (and_from (are_short own.ahead) (length own.ahead == k) (short_taken k ns p.0.short)
          (eq-eqb (length own.ahead) k (taken_whole k ns some)))
          (and_from (list_all is_ranked own.rights) _
          (ap (λ r. list_all is_ranked r) rights ∙ short_pairs ranked right code is_ranked (λ n m. refl) ms (short_dropped k ns p.0.short))
          (and_from (has_some own.rights) _ (ap (λ r. has_some r) rights ∙ some_pairs ranked ms some pairs) o.0))),
      p.0.line ∙ ap (λ xs. spelled keyword.Row ∷ decimal (value_at ts 1) ∷ numbers xs) (sym whole),
    )

-- What goes and by what.
abbrev trans : GoneBy → ℕ
trans p = p.trans

abbrev better : GoneBy → ℕ
better p = p.by

pub gone_fw : (ps : List GoneBy) → are_gone ps ≡ true
    → gone_by_in (spelled keyword.Gone ∷ numbers (gone_numbers ps)) ≡ Ok ps
gone_fw ps e =
    let a = and_parts (list_all is_gone ps) _ e in
    let b = and_parts (has_some ps) (ascend (gone_of ps)) a.1 in
    let ns = gone_numbers ps in
    let s = pairs_short gone_by trans better is_gone (λ p. refl) ps a.0 in
    let f : List GoneBy → Said (List GoneBy) = λ r. in_order (ascend (gone_of r)) r in
    as_fw (Word keyword.Gone ∷ []) [] (numbers ns) (tail.Pairs 0)
    (λ tokens. in_order (ascend (gone_of (gone_by_of (values_from 1 tokens)))) (gone_by_of (values_from 1 tokens)))
    tt (numbers_are ns s) (and_from (has_some (numbers ns)) _ (pairs_some gone_by trans better ps b.0)
    (pairs_even gone_by trans better ps))
    ∙ ap f (ap gone_by_of (values_numbers ns s) ∙ pairs_back gone_by trans better (λ p. refl) ps)
    ∙ order_fw (ascend (gone_of ps)) ps b.1

pub gone_bw : (ts : Line) (ps : List GoneBy) → gone_by_in ts ≡ Ok ps
    → (are_gone ps ≡ true) × (ts ≡ spelled keyword.Gone ∷ numbers (gone_numbers ps))
gone_bw ts ps e =
    let p = as_bw (Word keyword.Gone ∷ []) (tail.Pairs 0)
    (λ tokens. in_order (ascend (gone_of (gone_by_of (values_from 1 tokens)))) (gone_by_of (values_from 1 tokens))) ts ps e in
    let ns = values_from 1 ts in
    let o = order_bw (ascend (gone_of (gone_by_of ns))) (gone_by_of ns) ps p.1 in
    let m = and_parts (has_some (numbers ns)) (pair_up (numbers ns)) p.0.follows in
    let P : List GoneBy → Type 0 = λ ps. (are_gone ps ≡ true) × (ts ≡ spelled keyword.Gone ∷ numbers (gone_numbers ps)) in
    subst P o.1 (
      and_from (list_all is_gone (gone_by_of ns)) _ (short_pairs gone_by trans better is_gone (λ n m. refl) ns p.0.short)
          (and_from (has_some (gone_by_of ns)) _ (some_pairs gone_by ns m.0 m.1) o.0),
      p.0.line ∙ ap (λ xs. spelled keyword.Gone ∷ numbers xs) (sym (pairs_there gone_by trans better (λ n m. refl) (λ n m. refl) ns m.1)),
    )

-- The lines of live elements.
pub step_fw : (n : ℕ) (s : StepLine) → is_step_of n s ≡ true
    → step_in n (spelled keyword.Step ∷ decimal s.element ∷ numbers s.by) ≡ Ok s
step_fw n s e =
    let a = and_parts (is_short s.element) _ e in
    let b = and_parts (are_short s.by) (s.element == n) a.1 in
    let f : ℕ → List ℕ → Said StepLine = λ l r. in_order (l == n) (record { element = l; by = r }) in
    as_fw (Word keyword.Step ∷ Number ∷ []) (s.element ∷ []) (numbers s.by) tail.Numbers
    (λ tokens. in_order ((step_of tokens).element == n) (step_of tokens))
    (a.0, tt) (numbers_are s.by b.0) refl
    ∙ ap₂ f (value_decimal s.element a.0) (values_numbers s.by b.0)
    ∙ order_fw (s.element == n) s b.1

pub step_bw : (n : ℕ) (ts : Line) (s : StepLine) → step_in n ts ≡ Ok s
    → (is_step_of n s ≡ true) × (ts ≡ spelled keyword.Step ∷ decimal s.element ∷ numbers s.by)
step_bw n ts s e =
    let p = as_bw (Word keyword.Step ∷ Number ∷ []) tail.Numbers
    (λ tokens. in_order ((step_of tokens).element == n) (step_of tokens)) ts s e in
    let o = order_bw (value_at ts 1 == n) (step_of ts) s p.1 in
    let P : StepLine → Type 0 = λ s. (is_step_of n s ≡ true) × (ts ≡ spelled keyword.Step ∷ decimal s.element ∷ numbers s.by) in
    subst P o.1 (
      and_from (is_short (value_at ts 1)) _ p.0.heads.0
          (and_from (are_short (values_from 2 ts)) _ p.0.short o.0),
      p.0.line,
    )
