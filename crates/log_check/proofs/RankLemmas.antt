-- The triples of a block with ranks: of states and labels, each once, and those that the block lists.
use Rattle.std.proofs.Common.{◌≡◌, ℕ, zero, suc, ◌+◌, ◌-◌, ◌<◌, ◌≤◌, ◌==◌, ◌⊎◌, ◌↔◌, ◌&&◌, inl, inr, true, Option, Some, List, [], ◌∷◌, ◌++◌, length, map, nat_le, slice_index_or, Contains, refl, sym, ap, ◌∙◌, subst, arith}
use Rattle.std.specs.List.{flat_map, list_all, AllPairs}
use Rattle.std.specs.Ordering.{is_lt, ordering_reverse, nat_cmp}
use Rattle.std.specs.declared.cmp.Ordering.{Ordering}
use Rattle.std.specs.declared.cmp.Ordering.TheVariants.{Less, Equal, Greater}
use Rattle.std.specs.Cmp.Lexicographic.{slice_cmp}
use Rattle.std.proofs.lemmas.Cmp.{nat_list_cmp_total}
use Rattle.std.proofs.lemmas.Bool.{and_parts, leb-true, eqb-true, false≢true, cases_order}
use Rattle.std.proofs.lemmas.List.Elements.{Contains-append_cases, Contains-append_left, Contains-append_right, Contains-get_or, All-contains}
use Rattle.auto_core.specs.Automaton.{Automaton}
use Rattle.auto_core.specs.Delayed.{RankedTriples, HoldsTriple, IsRight, IsTripleWord, AreTriplesOf, AreStateRelated, rank_in_code}
use Rattle.auto_core.proofs.MemberLemmas.{Rises, map_from, map_has}
use Rattle.auto_core.proofs.PathLemmas.{Contains-here, Contains-later, Contains-cons_cases, none_in_nil}
use Rattle.delayed_sim.specs.Rankings.{Ranking, ranked_triple, AreTriplesGiven, DifferInTriples, HasJust}
use Rattle.delayed_sim.specs.declared.delayed.RankedTriple.{RankedTriple}
use Rattle.cert_value.specs.declared.types.RankBlock.{RankBlock}
use Rattle.cert_value.specs.declared.types.RankRow.{RankRow}
use Rattle.cert_value.specs.declared.types.Ranked.{Ranked}
use Rattle.cert_value.specs.WellFormed.{is_short, are_short, has_some, ascend_from, ascend, rights_of, is_ranked, rank_key, is_less, are_rank_rows, is_rank_row, is_rank_block}
use Rattle.log_check.specs.Blocks.{triples_of_row, triples_of, IsRankRowBelow, IsRankBlockBelow, IsRankingOf}
use Rattle.log_check.specs.RankedLists.{row_list, block_list}

-- ---- joined lists

flat_from : {X Y : Type 0} (f : X → List Y) (xs : List X) (y : Y) → Contains (flat_map f xs) y → (x : X) × Contains xs x × Contains (f x) y
flat_from f [] y h = absurd (none_in_nil y h)
flat_from f (x ∷ xs) y h = elim (Contains-append_cases (f x) (flat_map f xs) y h) [
  | inl here ↦ (x, Contains-here x x xs refl, here)
  | inr there ↦ let (z, z_in, is) = flat_from f xs y there in (z, Contains-later x z xs z_in, is)
]

flat_has : {X Y : Type 0} (f : X → List Y) (xs : List X) (x : X) (y : Y) → Contains xs x → Contains (f x) y → Contains (flat_map f xs) y
flat_has f [] x y x_in h = absurd (none_in_nil x x_in)
flat_has {Y = Y} f (z ∷ xs) x y x_in h = elim (Contains-cons_cases z x xs x_in) [
  | inl e ↦ Contains-append_left (f z) (flat_map f xs) y (subst (λ u. Contains (f u) y) (sym e) h)
  | inr later ↦ Contains-append_right (f z) (flat_map f xs) y (flat_has f xs x y later h)
]

-- ---- what is asked of rows

-- What is asked of a row, and of the rows behind it.
record RowParts (letters : ℕ) (key : List ℕ) (row : RankRow) (rows : List RankRow) : Type 0 where
  pub count : length row.ahead ≡ letters - 1
  pub up : ascend (rights_of row.rights) ≡ true
  pub past : is_less key (rank_key row) ≡ true
  pub later : are_rank_rows letters (rank_key row) rows ≡ true

row_parts : (letters : ℕ) (key : List ℕ) (row : RankRow) (rows : List RankRow) → are_rank_rows letters key (row ∷ rows) ≡ true → RowParts letters key row rows
row_parts letters key row rows h =
    let last = ascend (rights_of row.rights) && is_less key (rank_key row) in
    let all = and_parts (is_rank_row letters key row) (are_rank_rows letters (rank_key row) rows) h in
    let a = and_parts (is_short row.left) ((are_short row.ahead && (length row.ahead == letters - 1)) && (list_all is_ranked row.rights && (has_some row.rights && last))) all.0 in
    let b = and_parts (are_short row.ahead && (length row.ahead == letters - 1)) (list_all is_ranked row.rights && (has_some row.rights && last)) a.1 in
    let n = and_parts (are_short row.ahead) (length row.ahead == letters - 1) b.0 in
    let c = and_parts (list_all is_ranked row.rights) (has_some row.rights && last) b.1 in
    let d = and_parts (has_some row.rights) last c.1 in
    let e = and_parts (ascend (rights_of row.rights)) (is_less key (rank_key row)) d.1 in
    record { count = eqb-true (length row.ahead) (letters - 1) n.1; up = e.0; past = e.1; later = all.1 }

counted : (letters : ℕ) (key : List ℕ) (rows : List RankRow) (row : RankRow) → are_rank_rows letters key rows ≡ true → Contains rows row → length row.ahead ≡ letters - 1
counted letters key [] row formed h = absurd (none_in_nil row h)
counted letters key (r ∷ rs) row formed h =
    let parts = row_parts letters key r rs formed in
    elim (Contains-cons_cases r row rs h) [
      | inl e ↦ subst (λ (x : RankRow). length x.ahead ≡ letters - 1) e parts.count
      | inr later ↦ counted letters (rank_key r) rs row parts.later later
    ]

-- ---- the triples

-- A triple with its parts and rank side by side.
abbrev parts_of : RankedTriple → ℕ × List ℕ × ℕ × Option ℕ
parts_of x = (x.left, x.ahead, x.right, x.rank)

-- The triple of a row with this right number.
abbrev triple_in : RankRow → Ranked → RankedTriple
triple_in row r = ranked_triple row.left row.ahead r.right (rank_in_code r.code)

pub triples_given : (n labels letters : ℕ) (block : RankBlock) → 1 ≤ letters → is_rank_block letters block ≡ true → IsRankBlockBelow n labels block → AreTriplesGiven n labels letters (block_list block)
triples_given n labels letters block from formed below p b q rank h =
    let (row, row_in, here) = flat_from row_list block.rows (ranked_triple p b q rank) h in
    let (r, r_in, is) = map_from (triple_in row) row.rights (ranked_triple p b q rank) here in
    let row_below : IsRankRowBelow n labels row = All-contains (IsRankRowBelow n labels) block.rows row below row_in in
    let right_below : r.right < n = All-contains (λ (s : Ranked). s.right < n) row.rights r row_below.rights r_in in
    let count : length row.ahead ≡ letters - 1 = counted letters [] block.rows row (and_parts (is_short (length block.rows)) (are_rank_rows letters [] block.rows) formed).1 row_in in
    let is_word : IsTripleWord labels letters row.ahead = (omega arith, row_below.ahead) in (
      subst (IsTripleWord labels letters) (ap (λ (x : RankedTriple). x.ahead) is) is_word,
      subst (λ m. m < n) (ap (λ (x : RankedTriple). x.left) is) row_below.left,
      subst (λ m. m < n) (ap (λ (x : RankedTriple). x.right) is) right_below,
    )

listed_from : (block : RankBlock) (b : List ℕ) (p q : ℕ) (rank : Option ℕ) → Contains (block_list block) (ranked_triple p b q rank) → Contains (triples_of block) (p, b, q, rank)
listed_from block b p q rank h =
    let (row, row_in, here) = flat_from row_list block.rows (ranked_triple p b q rank) h in
    let (r, r_in, is) = map_from (triple_in row) row.rights (ranked_triple p b q rank) here in
    flat_has triples_of_row block.rows row (p, b, q, rank) row_in
    (subst (λ (x : ℕ × List ℕ × ℕ × Option ℕ). Contains (triples_of_row row) x) (ap parts_of is) (map_has (λ (s : Ranked). parts_of (triple_in row s)) row.rights r r_in))

listed_to : (block : RankBlock) (b : List ℕ) (p q : ℕ) (rank : Option ℕ) → Contains (triples_of block) (p, b, q, rank) → Contains (block_list block) (ranked_triple p b q rank)
listed_to block b p q rank h =
    let (row, row_in, here) = flat_from triples_of_row block.rows (p, b, q, rank) h in
    let (r, r_in, is) = map_from (λ (s : Ranked). parts_of (triple_in row s)) row.rights (p, b, q, rank) here in
    flat_has row_list block.rows row (ranked_triple p b q rank) row_in
    (subst (λ (x : RankedTriple). Contains (row_list row) x) (ap (λ (x : ℕ × List ℕ × ℕ × Option ℕ). ranked_triple x.0 x.1 x.2 x.3) is) (map_has (triple_in row) row.rights r r_in))

pub ranking_is :
    (A : Automaton) (n : ℕ) (block : RankBlock) (made : Ranking)
    → made.states ≡ A.states
    → made.labels ≡ A.labels
    → made.letters ≡ n
    → HasJust made.triples (block_list block)
    → IsRankingOf A n block made
ranking_is A n block made states labels letters just = record {
  states = states;
  labels = labels;
  letters = letters;
  triples = λ b p q rank. (
    λ h. listed_from block b p q rank ((just p b q rank).0 h),
    λ h. (just p b q rank).1 (listed_to block b p q rank h),
  );
}

pub triples_in :
    (n labels letters : ℕ) (block : RankBlock) → 1 ≤ letters → is_rank_block letters block ≡ true → IsRankBlockBelow n labels block → AreTriplesOf n labels letters (triples_of block)
triples_in n labels letters block from formed below b p q (rank, h) = triples_given n labels letters block from formed below p b q rank (listed_to block b p q rank h)

-- ---- what goes by the triples that a list has

-- The lists have the same triples with the same ranks.
abbrev pub HaveSame : RankedTriples → RankedTriples → Type 0
HaveSame X Y = (b : List ℕ) (p q : ℕ) (rank : Option ℕ) → Contains X (p, b, q, rank) ↔ Contains Y (p, b, q, rank)

pub turned : (X Y : RankedTriples) → HaveSame X Y → HaveSame Y X
turned X Y same b p q rank = ((same b p q rank).1, (same b p q rank).0)

triple_alike : (X Y : RankedTriples) → HaveSame X Y → (b : List ℕ) (p q : ℕ) → HoldsTriple X b p q → HoldsTriple Y b p q
triple_alike X Y same b p q (rank, h) = (rank, (same b p q rank).0 h)

pub ahead_alike : (labels n : ℕ) (X Y : RankedTriples) → HaveSame X Y → (p q : ℕ) → AreStateRelated labels n X p q → AreStateRelated labels n Y p q
ahead_alike labels n X Y same p q h = λ b is_word. triple_alike X Y same b p q (h b is_word)

pub right_alike : (A : Automaton) (X Y : RankedTriples) → HaveSame X Y → IsRight A X → IsRight A Y
right_alike A X Y same right = record {
  answers = λ b p q more a c p' h letter announces move.
      let (q', goes, held) = right.answers b p q more a c p' (triple_alike Y X (turned X Y same) b p q h) letter announces move in
      (q', goes, triple_alike X Y same c p' q' held);
  ranked = λ b p q h accepts. let (r, has) = right.ranked b p q (triple_alike Y X (turned X Y same) b p q h) accepts in (r, (same b p q (Some r)).0 has);
  at_zero = λ b p q has. right.at_zero b p q ((same b p q (Some 0)).1 has);
  above_zero = λ b p q r more a c p' has above letter announces move.
      let (q', s, goes, less_has, less) = right.above_zero b p q r more a c p' ((same b p q (Some r)).1 has) above letter announces move in
      (q', s, goes, (same c p' q' (Some s)).0 less_has, less);
}

-- ---- each triple once

less_is : (o : Ordering) → is_lt o ≡ true → o ≡ Less
less_is Less h = refl
less_is Equal h = absurd (false≢true h)
less_is Greater h = absurd (false≢true h)

less_on : (xs ys zs : List ℕ) → is_less xs ys ≡ true → is_less ys zs ≡ true → is_less xs zs ≡ true
less_on xs ys zs h k = ap is_lt (nat_list_cmp_total.trans xs ys zs (less_is (slice_cmp nat_cmp xs ys) h) (less_is (slice_cmp nat_cmp ys zs) k))

not_less : (xs : List ℕ) → is_less xs xs ≡ true → ⊥
not_less xs h =
    let less : slice_cmp nat_cmp xs xs ≡ Less = less_is (slice_cmp nat_cmp xs xs) h in
    let turned_is : is_less xs xs ≡ is_lt (ordering_reverse (slice_cmp nat_cmp xs xs)) = ap is_lt (nat_list_cmp_total.antisymm xs xs) in
    false≢true (sym (ap (λ o. is_lt (ordering_reverse o)) less) ∙ sym turned_is ∙ h)

-- One triple stands before another: by left state and word, then by right state.
abbrev Before : RankedTriple → RankedTriple → Type 0
Before x y = (is_less (x.left ∷ x.ahead) (y.left ∷ y.ahead) ≡ true) ⊎ ((x.left ∷ x.ahead ≡ y.left ∷ y.ahead) × (x.right < y.right))

rises_join : {X : Type 0} (R : X → X → Type 0) (xs ys : List X) → Rises R xs → Rises R ys → ((x y : X) → Contains xs x → Contains ys y → R x y) → Rises R (xs ++ ys)
rises_join R [] ys a b across = b
rises_join R (x ∷ xs) ys a b across = (
  λ y h. elim (Contains-append_cases xs ys y h) [
    | inl near ↦ a.0 y near
    | inr far ↦ across x y (Contains-here x x xs refl) far
  ],
  rises_join R xs ys a.1 b (λ z y z_in y_in. across z y (Contains-later x z xs z_in) y_in),
)

pairs_from_rises : {X : Type 0} (R : X → X → Type 0) (xs : List X) → Rises R xs → AllPairs R xs
pairs_from_rises R [] a i j d lt j_in = absurd (omega arith)
pairs_from_rises R (x ∷ xs) a zero zero d lt j_in = absurd (omega arith)
pairs_from_rises R (x ∷ xs) a zero (suc j) d lt j_in = a.0 (slice_index_or xs j d) (Contains-get_or xs j d (omega arith))
pairs_from_rises R (x ∷ xs) a (suc i) zero d lt j_in = absurd (omega arith)
pairs_from_rises R (x ∷ xs) a (suc i) (suc j) d lt j_in = pairs_from_rises R xs a.1 i j d (omega arith) (omega arith)

right_above : (bound : ℕ) (ps : List Ranked) (p : Ranked) → ascend_from bound (rights_of ps) ≡ true → Contains ps p → bound ≤ p.right
right_above bound [] p up h = absurd (none_in_nil p h)
right_above bound (r ∷ rs) p up h =
    let parts = and_parts (nat_le bound r.right) (ascend_from (r.right + 1) (rights_of rs)) up in
    let first : bound ≤ r.right = leb-true bound r.right parts.0 in
    elim (Contains-cons_cases r p rs h) [
      | inl e ↦ subst (λ (s : Ranked). bound ≤ s.right) e first
      | inr later ↦ let more : r.right + 1 ≤ p.right = right_above (r.right + 1) rs p parts.1 later in omega arith
    ]

row_rises : (row : RankRow) (bound : ℕ) (ps : List Ranked) → ascend_from bound (rights_of ps) ≡ true → Rises Before (map (triple_in row) ps)
row_rises row bound [] up = tt
row_rises row bound (r ∷ rs) up =
    let parts = and_parts (nat_le bound r.right) (ascend_from (r.right + 1) (rights_of rs)) up in (
      λ y h.
          let (p, p_in, is) = map_from (triple_in row) rs y h in
          let more : r.right + 1 ≤ p.right = right_above (r.right + 1) rs p parts.1 p_in in
          let lt : r.right < p.right = omega arith in
          subst (Before (triple_in row r)) is (inr (refl, lt)),
      row_rises row (r.right + 1) rs parts.1,
    )

key_of : (row : RankRow) (x : RankedTriple) → Contains (row_list row) x → rank_key row ≡ x.left ∷ x.ahead
key_of row x h = let (r, r_in, is) = map_from (triple_in row) row.rights x h in ap (λ (y : RankedTriple). y.left ∷ y.ahead) is

key_past : (letters : ℕ) (key : List ℕ) (rows : List RankRow) (x : RankedTriple) → are_rank_rows letters key rows ≡ true → Contains (flat_map row_list rows) x → is_less key (x.left ∷ x.ahead) ≡ true
key_past letters key [] x up h = absurd (none_in_nil x h)
key_past letters key (row ∷ rows) x up h =
    let parts = row_parts letters key row rows up in
    elim (Contains-append_cases (row_list row) (flat_map row_list rows) x h) [
      | inl here ↦ subst (λ k. is_less key k ≡ true) (key_of row x here) parts.past
      | inr there ↦ less_on key (rank_key row) (x.left ∷ x.ahead) parts.past (key_past letters (rank_key row) rows x parts.later there)
    ]

rows_rise : (letters : ℕ) (key : List ℕ) (rows : List RankRow) → are_rank_rows letters key rows ≡ true → Rises Before (flat_map row_list rows)
rows_rise letters key [] up = tt
rows_rise letters key (row ∷ rows) up =
    let parts = row_parts letters key row rows up in
    rises_join Before (row_list row) (flat_map row_list rows) (row_rises row 0 row.rights parts.up) (rows_rise letters (rank_key row) rows parts.later)
    (λ x y x_in y_in. inl (subst (λ k. is_less k (y.left ∷ y.ahead) ≡ true) (key_of row x x_in) (key_past letters (rank_key row) rows y parts.later y_in)))

pub triples_differ : (letters : ℕ) (block : RankBlock) → is_rank_block letters block ≡ true → DifferInTriples (block_list block)
triples_differ letters block formed i j d i_in j_in lefts aheads rights =
    let parts = and_parts (is_short (length block.rows)) (are_rank_rows letters [] block.rows) formed in
    let up = pairs_from_rises Before (block_list block) (rows_rise letters [] block.rows parts.1) in
    elim (cases_order i j) [
      | inl e ↦ e
      | inr apart ↦ elim apart [
        | inl lt ↦ absurd (clash (slice_index_or (block_list block) i d) (slice_index_or (block_list block) j d) lefts aheads rights (up i j d lt j_in))
        | inr gt ↦ absurd (clash (slice_index_or (block_list block) j d) (slice_index_or (block_list block) i d) (sym lefts) (sym aheads) (sym rights) (up j i d gt i_in))
      ]
    ]
  where
    clash : (x y : RankedTriple) → x.left ≡ y.left → x.ahead ≡ y.ahead → x.right ≡ y.right → Before x y → ⊥
    clash x y left ahead right (inl less) = not_less (y.left ∷ y.ahead) (subst (λ k. is_less k (y.left ∷ y.ahead) ≡ true) (ap (λ p. p ∷ x.ahead) left ∙ ap (λ b. y.left ∷ b) ahead) less)
    clash x y left ahead right (inr later) = let lt : x.right < y.right = later.1 in omega arith
