-- The pairs of a block ascend.
use Rattle.std.proofs.Common.{◌≡◌, ℕ, zero, suc, ◌+◌, ◌<◌, ◌==◌, ◌&&◌, inl, inr, Bool, true, false, cond, List, [], ◌∷◌, ◌++◌, length, map, nat_lt, nat_le, slice_index_or, Contains, None, refl, sym, ap, ◌∙◌, subst, arith}
use Rattle.std.specs.List.{flat_map, list_all}
use Rattle.std.specs.Ordering.{is_lt, ordering_then}
use Rattle.std.specs.declared.cmp.Ordering.TheVariants.{Less, Equal, Greater}
use Rattle.std.proofs.lemmas.Bool.{and_parts, ltb-true, eqb-true, false≢true}
use Rattle.std.proofs.lemmas.List.{nil_from_length, map-append}
use Rattle.std.proofs.lemmas.List.Elements.{Contains-append_cases, Contains-get_or}
use Rattle.auto_core.specs.Delayed.{rank_in_code}
use Rattle.auto_core.proofs.MemberLemmas.{map_from, map_has}
use Rattle.auto_core.proofs.PathLemmas.{none_in_nil}
use Rattle.bit_rel.specs.Relation.{IsPairBefore, ArePairsAscending}
use Rattle.product_laws.specs.declared.RankedPair.{RankedPair}
use Rattle.product_laws.specs.Ascending.{AreAscending}
use Rattle.product_laws.proofs.AscendLemmas.{no_pair}
use Rattle.delayed_laws.specs.declared.parts.DelayedPair.{DelayedPair}
use Rattle.delayed_laws.specs.Listed.{delayed_pair, AreDelayedAscending}
use Rattle.cert_value.specs.declared.types.RankBlock.{RankBlock}
use Rattle.cert_value.specs.declared.types.RankRow.{RankRow}
use Rattle.cert_value.specs.declared.types.Ranked.{Ranked}
use Rattle.cert_value.specs.WellFormed.{is_short, are_short, has_some, ascend_from, ascend, rights_of, is_ranked, rank_key, is_less, are_rank_rows, is_rank_row, is_rank_block}
use Rattle.log_check.proofs.RowLemmas.{ascend_above}
use Rattle.proof_check.specs.Pairs.{ranked_pairs, delayed_pairs}

-- ---- what is asked of rows

-- What is asked of a row without announced letters, and of the rows behind it.
record RowParts (key : List ℕ) (row : RankRow) (rows : List RankRow) : Type 0 where
  pub up : ascend (rights_of row.rights) ≡ true
  pub past : is_less key (row.left ∷ []) ≡ true
  pub later : are_rank_rows 1 (row.left ∷ []) rows ≡ true

row_parts : (key : List ℕ) (row : RankRow) (rows : List RankRow) → are_rank_rows 1 key (row ∷ rows) ≡ true → RowParts key row rows
row_parts key row rows h =
    let last = ascend (rights_of row.rights) && is_less key (rank_key row) in
    let all = and_parts (is_rank_row 1 key row) (are_rank_rows 1 (rank_key row) rows) h in
    let a = and_parts (is_short row.left) ((are_short row.ahead && (length row.ahead == 0)) && (list_all is_ranked row.rights && (has_some row.rights && last))) all.0 in
    let b = and_parts (are_short row.ahead && (length row.ahead == 0)) (list_all is_ranked row.rights && (has_some row.rights && last)) a.1 in
    let n = and_parts (are_short row.ahead) (length row.ahead == 0) b.0 in
    let c = and_parts (list_all is_ranked row.rights) (has_some row.rights && last) b.1 in
    let d = and_parts (has_some row.rights) last c.1 in
    let e = and_parts (ascend (rights_of row.rights)) (is_less key (rank_key row)) d.1 in
    let none : row.ahead ≡ [] = nil_from_length row.ahead (eqb-true (length row.ahead) 0 n.1) in
    record {
      up = e.0;
      past = subst (λ (l : List ℕ). is_less key (row.left ∷ l) ≡ true) none e.1;
      later = subst (λ (l : List ℕ). are_rank_rows 1 (row.left ∷ l) rows ≡ true) none all.1;
    }

less_by : (b c : Bool) → is_lt (ordering_then (cond b Less (cond c Equal Greater)) Equal) ≡ true → b ≡ true
less_by true c h = refl
less_by false true h = absurd (false≢true h)
less_by false false h = absurd (false≢true h)

less_left : (m n : ℕ) → is_less (m ∷ []) (n ∷ []) ≡ true → m < n
less_left m n h = ltb-true m n (less_by (nat_lt m n) (m == n) h)

-- ---- the states of the pairs

-- The states of the pairs of a row.
abbrev states_in : ℕ → List Ranked → List (ℕ × ℕ)
states_in left rights = map (λ (r : Ranked). (left, r.right)) rights

abbrev states_in_row : RankRow → List (ℕ × ℕ)
states_in_row row = states_in row.left row.rights

left_in : (left : ℕ) (rights : List Ranked) (x : ℕ × ℕ) → Contains (states_in left rights) x → left ≡ x.0
left_in left rights x has = let (r, r_in, is) = map_from (λ (r : Ranked). (left, r.right)) rights x has in ap (λ (z : ℕ × ℕ). z.0) is

-- Those of later rows have greater left ones.
past_row : (left : ℕ) (rows : List RankRow) → are_rank_rows 1 (left ∷ []) rows ≡ true → (x : ℕ × ℕ) → Contains (flat_map states_in_row rows) x → left < x.0
past_row left [] h x has = absurd (none_in_nil x has)
past_row left (row ∷ rows) h x has =
    let p = row_parts (left ∷ []) row rows h in
    let here = less_left left row.left p.past in
    elim (Contains-append_cases (states_in_row row) (flat_map states_in_row rows) x has) [
      | inl near ↦ let e = left_in row.left row.rights x near in omega (arith, e, here)
      | inr far ↦ let more = past_row row.left rows p.later x far in omega (arith, more, here)
    ]

-- Those of a row ascend, with what is behind them.
row_ascends :
    (left bound : ℕ) (rights : List Ranked) (rest : List (ℕ × ℕ)) → ascend_from bound (rights_of rights) ≡ true → ArePairsAscending rest → ((y : ℕ × ℕ) → Contains rest y → left < y.0)
    → ArePairsAscending (states_in left rights ++ rest)
row_ascends left bound [] rest h up past = up
row_ascends left bound (r ∷ rights) rest h up past =
    let parts = and_parts (nat_le bound r.right) (ascend_from (r.right + 1) (rights_of rights)) h in (
      λ y has. elim (Contains-append_cases (states_in left rights) rest y has) [
        | inl near ↦
            let (s, s_in, e) = map_from (λ (s : Ranked). (left, s.right)) rights y near in
            let above = ascend_above (r.right + 1) (rights_of rights) parts.1 s.right (map_has (λ (p : Ranked). p.right) rights s s_in) in
            let first : left ≡ y.0 = ap (λ (z : ℕ × ℕ). z.0) e in
            let second : s.right ≡ y.1 = ap (λ (z : ℕ × ℕ). z.1) e in
            inr (first, omega (arith, above, second))
        | inr far ↦ inl (past y far)
      ],
      row_ascends left (r.right + 1) rights rest parts.1 up past,
    )

rows_ascend : (key : List ℕ) (rows : List RankRow) → are_rank_rows 1 key rows ≡ true → ArePairsAscending (flat_map states_in_row rows)
rows_ascend key [] h = tt
rows_ascend key (row ∷ rows) h =
    let p = row_parts key row rows h in
    row_ascends row.left 0 row.rights (flat_map states_in_row rows) p.up (rows_ascend (row.left ∷ []) rows p.later) (past_row row.left rows p.later)

block_ascends : (block : RankBlock) → is_rank_block 1 block ≡ true → ArePairsAscending (flat_map states_in_row block.rows)
block_ascends block h = rows_ascend [] block.rows (and_parts (is_short (length block.rows)) (are_rank_rows 1 [] block.rows) h).1

-- ---- lists whose states are these

-- What has ascending states ascends by number.
by_number : {X : Type 0} (states : X → ℕ × ℕ) (xs : List X) (d : X) → ArePairsAscending (map states xs) → (i j : ℕ) → i < j → j < length xs →
    IsPairBefore (states (slice_index_or xs i d)) (states (slice_index_or xs j d))
by_number states [] d up i j lt within = absurd (omega arith)
by_number states (x ∷ xs) d up zero zero lt within = absurd (omega arith)
by_number states (x ∷ xs) d up zero (suc j) lt within = up.0 (states (slice_index_or xs j d)) (map_has states xs (slice_index_or xs j d) (Contains-get_or xs j d (omega arith)))
by_number states (x ∷ xs) d up (suc i) zero lt within = absurd (omega arith)
by_number states (x ∷ xs) d up (suc i) (suc j) lt within = by_number states xs d up.1 i j (omega arith) (omega arith)

module _ {X : Type 0} (states : X → ℕ × ℕ) (made : RankRow → Ranked → X) (same : (row : RankRow) (r : Ranked) → states (made row r) ≡ (row.left, r.right)) where
  row_states : (row : RankRow) (rights : List Ranked) → map states (map (made row) rights) ≡ states_in row.left rights
  row_states row [] = refl
  row_states row (r ∷ rights) = λ k. same row r k ∷ row_states row rights k

  rows_states : (rows : List RankRow) → map states (flat_map (λ (row : RankRow). map (made row) row.rights) rows) ≡ flat_map states_in_row rows
  rows_states [] = refl
  rows_states (row ∷ rows) =
      map-append states (map (made row) row.rights) (flat_map (λ (row : RankRow). map (made row) row.rights) rows)
      ∙ (λ k. row_states row row.rights k ++ rows_states rows k)

-- The states of a pair of a product, and of a delayed simulation; and the pair of a row.
abbrev ranked_states : RankedPair → ℕ × ℕ
ranked_states x = (x.left, x.right)

abbrev ranked_made : RankRow → Ranked → RankedPair
ranked_made row r = record { left = row.left; right = r.right; rank = r.code }

abbrev delayed_states : DelayedPair → ℕ × ℕ
delayed_states x = (x.left, x.right)

abbrev delayed_made : RankRow → Ranked → DelayedPair
delayed_made row r = record { left = row.left; right = r.right; rank = rank_in_code r.code }

-- The pairs of a product ascend.
pub ranked_ascend : (block : RankBlock) → is_rank_block 1 block ≡ true → AreAscending (ranked_pairs block)
ranked_ascend block h i j lt within =
    let is : map ranked_states (ranked_pairs block) ≡ flat_map states_in_row block.rows = rows_states ranked_states ranked_made (λ row r. refl) block.rows in
    by_number ranked_states (ranked_pairs block) no_pair (subst ArePairsAscending (sym is) (block_ascends block h)) i j lt within

-- So do those of a delayed simulation.
pub delayed_ascend : (block : RankBlock) → is_rank_block 1 block ≡ true → AreDelayedAscending (delayed_pairs block)
delayed_ascend block h i j lt within =
    let is : map delayed_states (delayed_pairs block) ≡ flat_map states_in_row block.rows = rows_states delayed_states delayed_made (λ row r. refl) block.rows in
    by_number delayed_states (delayed_pairs block) (delayed_pair 0 0 None) (subst ArePairsAscending (sym is) (block_ascends block h)) i j lt within
