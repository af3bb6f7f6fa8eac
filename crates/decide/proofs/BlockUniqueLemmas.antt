-- There is one block of a relation, and one of a relation with ranks.
use Rattle.std.proofs.Common.{◌≡◌, ℕ, zero, suc, ◌<◌, true, List, [], ◌∷◌, ◌++◌, length, map, refl, sym, ap, ◌∙◌, subst, arith, length-append}
use Rattle.std.specs.List.{flat_map}
use Rattle.std.proofs.lemmas.Bool.{and_parts}
use Rattle.std.proofs.lemmas.List.{length-map}
use Rattle.std.proofs.lemmas.Option.{same_Some, none-some}
use Rattle.auto_core.specs.Delayed.{RankedTriples, rank_in_code}
use Rattle.cert_value.specs.declared.types.RelBlock.{RelBlock}
use Rattle.cert_value.specs.declared.types.RankBlock.{RankBlock}
use Rattle.cert_value.specs.declared.types.RankRow.{RankRow}
use Rattle.cert_value.specs.declared.types.Ranked.{Ranked}
use Rattle.cert_value.specs.WellFormed.{is_short, are_rows, rank_key, is_less, is_rank_row, are_rank_rows}
use Rattle.delayed_sim.specs.Rankings.{Triple, row_key}
use Rattle.log_check.specs.Blocks.{triples_of_row}
use Rattle.decide.specs.Written.{IsBlockOfPairs, IsRankBlockOf}
use Rattle.log_check.proofs.SameRowsLemmas.{same_rows}
use Rattle.decide.proofs.RankRowLemmas.{first_one, rest_one, not_less_itself, in_triple, some_ranked}

pub one_block : (S : List (ℕ × ℕ)) (b c : RelBlock) → IsBlockOfPairs S b → IsBlockOfPairs S c → b ≡ c
one_block S b c p q =
    ap (λ rows. record { rows = rows })
    (same_rows 0 0 b.rows c.rows (and_parts (is_short (length b.rows)) (are_rows 0 b.rows) p.formed).1 (and_parts (is_short (length c.rows)) (are_rows 0 c.rows) q.formed).1 (p.pairs ∙ sym q.pairs))

-- ---- blocks with ranks: of rows behind which the left states and words are greater, the first triples are the same

same_code : (a b : ℕ) → rank_in_code a ≡ rank_in_code b → a ≡ b
same_code zero zero e = refl
same_code zero (suc b) e = absurd (none-some b e)
same_code (suc a) zero e = absurd (none-some a (sym e))
same_code (suc a) (suc b) e = ap suc (same_Some a b e)

ranked_one : (left other : ℕ) (ahead letters : List ℕ) (r s : Ranked) → in_triple left ahead r ≡ in_triple other letters s → r ≡ s
ranked_one left other ahead letters r s e =
    let right : r.right ≡ s.right = ap (λ (z : Triple). z.2) e in
    let code : r.code ≡ s.code = same_code r.code s.code (ap (λ (z : Triple). z.3) e) in
    λ i. record { right = right i; code = code i }

rank_row_one : (r s : RankRow) → r.left ≡ s.left → r.ahead ≡ s.ahead → r.rights ≡ s.rights → r ≡ s
rank_row_one r s e f g = λ i. record { left = e i; ahead = f i; rights = g i }

-- The first triple of rows is that of the first row's first right state.
first_triple : (letters : ℕ) (key : List ℕ) (rows : List RankRow) (z : Triple) (zs : List Triple) → are_rank_rows letters key rows ≡ true → flat_map triples_of_row rows ≡ z ∷ zs → is_less key (row_key z) ≡ true
first_triple letters key [] z zs h e = absurd (let n = ap length e in omega arith)
first_triple letters key (row ∷ rows) z zs h e =
    let parts = some_ranked letters key row (and_parts (is_rank_row letters key row) (are_rank_rows letters (rank_key row) rows) h).0 in
    by row.rights parts.0 e
  where
    by : (rights : List Ranked) → 0 < length rights → map (in_triple row.left row.ahead) rights ++ flat_map triples_of_row rows ≡ z ∷ zs → is_less key (row_key z) ≡ true
    by [] some e = absurd (omega arith)
    by (r ∷ rights) some e =
        let first = first_one (in_triple row.left row.ahead r) z (map (in_triple row.left row.ahead) rights ++ flat_map triples_of_row rows) zs e in
        let parts = some_ranked letters key row (and_parts (is_rank_row letters key row) (are_rank_rows letters (rank_key row) rows) h).0 in
        subst (λ y. is_less key (row_key y) ≡ true) first parts.1

-- Where the triples of two rows with one left state and word, with those of the rows behind, are the same, so are the right states,
-- and so is what is left.
same_fronts :
    (letters left : ℕ) (ahead : List ℕ) (xs ys : List Ranked) (rs ss : List RankRow)
    → are_rank_rows letters (left ∷ ahead) rs ≡ true
    → are_rank_rows letters (left ∷ ahead) ss ≡ true
    → map (in_triple left ahead) xs ++ flat_map triples_of_row rs ≡ map (in_triple left ahead) ys ++ flat_map triples_of_row ss
    → (xs ≡ ys) × (flat_map triples_of_row rs ≡ flat_map triples_of_row ss)
same_fronts letters left ahead [] [] rs ss a b e = (refl, e)
same_fronts letters left ahead [] (y ∷ ys) rs ss a b e =
    absurd (not_less_itself (left ∷ ahead) (first_triple letters (left ∷ ahead) rs (in_triple left ahead y) (map (in_triple left ahead) ys ++ flat_map triples_of_row ss) a e))
same_fronts letters left ahead (x ∷ xs) [] rs ss a b e =
    absurd (not_less_itself (left ∷ ahead) (first_triple letters (left ∷ ahead) ss (in_triple left ahead x) (map (in_triple left ahead) xs ++ flat_map triples_of_row rs) b (sym e)))
same_fronts letters left ahead (x ∷ xs) (y ∷ ys) rs ss a b e =
    let firsts = map (in_triple left ahead) xs ++ flat_map triples_of_row rs in
    let seconds = map (in_triple left ahead) ys ++ flat_map triples_of_row ss in
    let first = ranked_one left left ahead ahead x y (first_one (in_triple left ahead x) (in_triple left ahead y) firsts seconds e) in
    let rest = same_fronts letters left ahead xs ys rs ss a b (rest_one (in_triple left ahead x) (in_triple left ahead y) firsts seconds e) in
    ((λ i. first i ∷ rest.0 i), rest.1)

-- Rows with the same triples have the same first left state and word.
same_first :
    (letters : ℕ) (key other : List ℕ) (r s : RankRow) (rs ss : List RankRow)
    → is_rank_row letters key r ≡ true
    → is_rank_row letters other s ≡ true
    → triples_of_row r ++ flat_map triples_of_row rs ≡ triples_of_row s ++ flat_map triples_of_row ss
    → (r.left ≡ s.left) × (r.ahead ≡ s.ahead)
same_first letters key other r s rs ss a b e = by r.rights s.rights (some_ranked letters key r a).0 (some_ranked letters other s b).0 e
  where
    by : (xs ys : List Ranked) → 0 < length xs → 0 < length ys → map (in_triple r.left r.ahead) xs ++ flat_map triples_of_row rs ≡ map (in_triple s.left s.ahead) ys ++ flat_map triples_of_row ss →
        (r.left ≡ s.left) × (r.ahead ≡ s.ahead)
    by [] ys some other e = absurd (omega arith)
    by (x ∷ xs) [] some other e = absurd (omega arith)
    by (x ∷ xs) (y ∷ ys) some other e =
        let first = first_one (in_triple r.left r.ahead x) (in_triple s.left s.ahead y) (map (in_triple r.left r.ahead) xs ++ flat_map triples_of_row rs) (map (in_triple s.left s.ahead) ys ++ flat_map triples_of_row ss) e in
        (ap (λ (z : Triple). z.0) first, ap (λ (z : Triple). z.1) first)

-- A row has a triple.
has_triples : (letters : ℕ) (key : List ℕ) (row : RankRow) (rows : List RankRow) → is_rank_row letters key row ≡ true → flat_map triples_of_row (row ∷ rows) ≡ [] → ⊥
has_triples letters key row rows is e =
    let some = (some_ranked letters key row is).0 in
    let len = length-append (triples_of_row row) (flat_map triples_of_row rows) in
    let size = length-map row.rights (in_triple row.left row.ahead) in
    let n = ap length e in
    omega arith

same_rank_rows : (letters : ℕ) (key other : List ℕ) (rows others : List RankRow) → are_rank_rows letters key rows ≡ true → are_rank_rows letters other others ≡ true → flat_map triples_of_row rows ≡ flat_map triples_of_row others → rows ≡ others
same_rank_rows letters key other [] [] a b same = refl
same_rank_rows letters key other [] (s ∷ ss) a b same = absurd (has_triples letters other s ss (and_parts (is_rank_row letters other s) (are_rank_rows letters (rank_key s) ss) b).0 (sym same))
same_rank_rows letters key other (r ∷ rs) [] a b same = absurd (has_triples letters key r rs (and_parts (is_rank_row letters key r) (are_rank_rows letters (rank_key r) rs) a).0 same)
same_rank_rows letters key other (r ∷ rs) (s ∷ ss) a b same =
    let pa = and_parts (is_rank_row letters key r) (are_rank_rows letters (rank_key r) rs) a in
    let pb = and_parts (is_rank_row letters other s) (are_rank_rows letters (rank_key s) ss) b in
    let firsts = same_first letters key other r s rs ss pa.0 pb.0 same in
    let keys : rank_key s ≡ rank_key r = λ i. sym firsts.0 i ∷ sym firsts.1 i in
    let P : ℕ → List ℕ → Type 0 = λ left ahead. triples_of_row r ++ flat_map triples_of_row rs ≡ map (in_triple left ahead) s.rights ++ flat_map triples_of_row ss in
    let moved : P r.left r.ahead = subst (λ l. P l r.ahead) (sym firsts.0) (subst (P s.left) (sym firsts.1) same) in
    let fronts = same_fronts letters r.left r.ahead r.rights s.rights rs ss pa.1 (subst (λ k. are_rank_rows letters k ss ≡ true) keys pb.1) moved in
    let first = rank_row_one r s firsts.0 firsts.1 fronts.0 in
    let rest = same_rank_rows letters (rank_key r) (rank_key s) rs ss pa.1 pb.1 fronts.1 in
    λ i. first i ∷ rest i

pub one_rank_block : (letters : ℕ) (X : RankedTriples) (b c : RankBlock) → IsRankBlockOf letters X b → IsRankBlockOf letters X c → b ≡ c
one_rank_block letters X b c p q =
    ap (λ rows. record { rows = rows })
    (same_rank_rows letters [] [] b.rows c.rows (and_parts (is_short (length b.rows)) (are_rank_rows letters [] b.rows) p.formed).1
    (and_parts (is_short (length c.rows)) (are_rank_rows letters [] c.rows) q.formed).1 (p.triples ∙ sym q.triples))
