-- The rows of a relation with ranks as they are made, and what they list.
use Rattle.std.proofs.Common.{◌≡◌, ℕ, zero, suc, ◌+◌, ◌-◌, ◌<◌, ◌≤◌, ◌&&◌, ◌==◌, true, inl, inr, Option, None, Some, List, [], ◌∷◌, ◌++◌, length, map, take, drop, Contains, refl, sym, ap, ◌∙◌, subst, arith, length-append}
use Rattle.std.specs.Prelude.{IfSome, nat_le}
use Rattle.std.specs.List.{list_all}
use Rattle.std.specs.Ordering.{MatchOrdering, is_lt, nat_cmp, ordering_then}
use Rattle.std.specs.declared.cmp.Ordering.TheVariants.{Less, Equal}
use Rattle.std.specs.Cmp.{ranks}
use Rattle.std.specs.Cmp.Lexicographic.{slice_cmp}
use Rattle.std.proofs.Math.Seq.{take-add}
use Rattle.std.proofs.lemmas.Bool.{false≢true, and_from, and_parts, eq-eqb, le-leb, lt-ltb, ltb-true}
use Rattle.std.proofs.lemmas.Cmp.{nat_list_cmp_total, tied_itself}
use Rattle.std.proofs.lemmas.List.{append-nil, take_all, take_more, get_or-take, get_or-drop, get_or_default, length-drop, length-map, length-take-le}
use Rattle.std.proofs.lemmas.List.Concat.{flat_map-append}
use Rattle.std.proofs.lemmas.List.Elements.{All-contains, Contains-get_or}
use Rattle.auto_core.specs.Delayed.{IsTripleWord, rank_in_code}
use Rattle.auto_core.proofs.PathLemmas.{Contains-cons_cases, Contains-here, Contains-later, none_in_nil}
use Rattle.auto_core.proofs.MemberLemmas.{Rises, rises_from_pairs}
use Rattle.cert_value.specs.declared.types.RankRow.{RankRow}
use Rattle.cert_value.specs.declared.types.Ranked.{Ranked}
use Rattle.cert_value.specs.WellFormed.{is_short, are_short, is_ranked, rights_of, has_some, ascend, ascend_from, rank_key, is_less, is_rank_row, are_rank_rows}
use Rattle.delayed_sim.specs.Rankings.{Triple, Ranking, IsRanking, IsTripleBefore, row_key, triple_at}
use Rattle.log_check.specs.Blocks.{triples_of_row}
use Rattle.decide.specs.Written.{IsRankBlockOf}
use Rattle.decide.specs.Rows.{HasFewTriples, IsRankRowOf, AreRankRows, ranked_of_triple, code_for, last_row_key}
use Rattle.log_check.proofs.RowLemmas.{all_short}

-- ---- lists

pub first_one : {X : Type 0} (x y : X) (xs ys : List X) → x ∷ xs ≡ y ∷ ys → x ≡ y
first_one x y xs ys e = cc

pub rest_one : {X : Type 0} (x y : X) (xs ys : List X) → x ∷ xs ≡ y ∷ ys → xs ≡ ys
rest_one x y xs ys e = cc

map_behind : {X Y : Type 0} (f : X → Y) (xs : List X) (x : X) → map f (xs ++ x ∷ []) ≡ map f xs ++ f x ∷ []
map_behind f [] x = refl
map_behind f (y ∷ xs) x = ap (λ l. f y ∷ l) (map_behind f xs x)

-- ---- orders

-- Nothing is less than itself.
own_order : (ns : List ℕ) → slice_cmp nat_cmp ns ns ≡ Equal
own_order ns = tied_itself nat_list_cmp_total ns

pub not_less_itself : (ns : List ℕ) → is_less ns ns ≡ true → ⊥
not_less_itself ns h = false≢true (sym (ap is_lt (own_order ns)) ∙ h)

-- Of two triples with the same left state and word the earlier one has the lesser right state.
before_right : (x y : Triple) → row_key x ≡ row_key y → IsTripleBefore x y → x.2 < y.2
before_right x y same h =
    let own : ordering_then (slice_cmp nat_cmp (row_key x) (row_key x)) (nat_cmp x.2 y.2) ≡ Less = subst (λ k. ordering_then (slice_cmp nat_cmp (row_key x) k) (nat_cmp x.2 y.2) ≡ Less) (sym same) h in
    let rights : nat_cmp x.2 y.2 ≡ Less = subst (λ o. ordering_then o (nat_cmp x.2 y.2) ≡ Less) (own_order (row_key x)) own in
    subst (λ o. MatchOrdering o (x.2 < y.2) (x.2 ≡ y.2) (y.2 < x.2)) rights (ranks x.2 y.2)

rises_dropped : (n : ℕ) (xs : List Triple) → Rises IsTripleBefore xs → Rises IsTripleBefore (drop n xs)
rises_dropped zero xs h = h
rises_dropped (suc n) [] h = h
rises_dropped (suc n) (x ∷ xs) h = rises_dropped n xs h.1

in_taken : (n : ℕ) (xs : List Triple) (z : Triple) → Contains (take n xs) z → Contains xs z
in_taken zero xs z h = absurd (none_in_nil z h)
in_taken (suc n) [] z h = h
in_taken (suc n) (x ∷ xs) z h = elim (Contains-cons_cases x z (take n xs) h) [
  | inl e ↦ Contains-here x z xs e
  | inr later ↦ Contains-later x z xs (in_taken n xs z later)
]

rises_taken : (n : ℕ) (xs : List Triple) → Rises IsTripleBefore xs → Rises IsTripleBefore (take n xs)
rises_taken zero xs h = tt
rises_taken (suc n) [] h = h
rises_taken (suc n) (x ∷ xs) h = (λ y there. h.0 y (in_taken n xs y there), rises_taken n xs h.1)

-- ---- ranks and their codes

code_back : (o : Option ℕ) → rank_in_code (code_for o) ≡ o
code_back None = refl
code_back (Some r) =
    let more : r + 1 ≡ suc r = omega arith in
    ap rank_in_code more

-- Where the triple stands in the list, its rank has few digits, and so has its code.
pub rank_few : (R : Ranking) (at : ℕ) (rank : Option ℕ) → HasFewTriples R → at < length R.triples → rank ≡ (triple_at R.triples at).3 → IfSome rank (λ r. r + 1 < 1000000000)
rank_few R at None few lt is = _
rank_few R at (Some r) few lt is =
    let x : Triple = triple_at R.triples at in
    few.below x.1 x.0 x.2 r (subst (λ o. Contains R.triples (x.0, x.1, x.2, o)) (sym is) (Contains-get_or R.triples at (0, [], 0, None) lt))

code_short : (R : Ranking) → HasFewTriples R → (p : ℕ) (b : List ℕ) (q : ℕ) (o : Option ℕ) → Contains R.triples (p, b, q, o) → is_short (code_for o) ≡ true
code_short R few p b q None h = lt-ltb 0 1000000000 (omega arith)
code_short R few p b q (Some r) h = lt-ltb (r + 1) 1000000000 (few.below b p q r h)

-- ---- the triples of a row

-- The triple of a left state and word with a right state and the code of its rank.
abbrev pub in_triple : ℕ → List ℕ → Ranked → Triple
in_triple left ahead r = (left, ahead, r.right, rank_in_code r.code)

triples_back : (left : ℕ) (ahead : List ℕ) (zs : List Triple) → ((z : Triple) → Contains zs z → row_key z ≡ left ∷ ahead) → map (in_triple left ahead) (map ranked_of_triple zs) ≡ zs
triples_back left ahead [] keys = refl
triples_back left ahead (z ∷ zs) keys =
    let key = keys z (Contains-here z z zs refl) in
    let p = first_one z.0 left z.1 ahead key in
    let b = rest_one z.0 left z.1 ahead key in
    let rank = code_back z.3 in
    let rest = triples_back left ahead zs (λ y there. keys y (Contains-later z y zs there)) in
    λ i. (sym p i, sym b i, z.2, rank i) ∷ rest i

-- Where a triple among those from `at` on stands.
taken_at : (X : List Triple) (at n : ℕ) → at + n ≤ length X → (z : Triple) → Contains (take n (drop at X)) z → (i : ℕ) × (at ≤ i) × (i < at + n) × (triple_at X i ≡ z)
taken_at X at n within z (k, lt, e) =
    let left = length-drop at X in
    let len = length-take-le n (drop at X) (omega arith) in
    let k_in : k < n = omega arith in (
      at + k,
      omega arith,
      omega arith,
      get_or_default X (at + k) (0, [], 0, None) z (omega arith) ∙ sym (get_or-drop at X k z) ∙ sym (get_or-take n (drop at X) k z k_in) ∙ e,
    )

all_ranked : (R : Ranking) → IsRanking R → HasFewTriples R → (zs : List Triple) → ((z : Triple) → Contains zs z → Contains R.triples z) → list_all is_ranked (map ranked_of_triple zs) ≡ true
all_ranked R valid few [] each = refl
all_ranked R valid few (z ∷ zs) each =
    let here = each z (Contains-here z z zs refl) in
    let range = valid.in_range z.1 z.0 z.2 (z.3, here) in
    let right = range.2 in
    let states = few.states in
    and_from (is_ranked (ranked_of_triple z)) (list_all is_ranked (map ranked_of_triple zs))
    (and_from (is_short z.2) (is_short (code_for z.3)) (lt-ltb z.2 1000000000 (omega arith)) (code_short R few z.0 z.1 z.2 z.3 here))
    (all_ranked R valid few zs (λ y there. each y (Contains-later z y zs there)))

rights_ascend : (bound : ℕ) (key : List ℕ) (zs : List Triple) → Rises IsTripleBefore zs → ((z : Triple) → Contains zs z → (row_key z ≡ key) × (bound ≤ z.2)) → ascend_from bound (rights_of (map ranked_of_triple zs)) ≡ true
rights_ascend bound key [] order each = refl
rights_ascend bound key (z ∷ zs) order each =
    let here = each z (Contains-here z z zs refl) in
    and_from (nat_le bound z.2) (ascend_from (z.2 + 1) (rights_of (map ranked_of_triple zs))) (le-leb bound z.2 here.1)
    (rights_ascend (z.2 + 1) key zs order.1 (λ y there.
    let later = each y (Contains-later z y zs there) in
    let lt = before_right z y (here.0 ∙ sym later.0) (order.0 y there) in
    (later.0, omega arith)))

-- ---- one row

module _ (R : Ranking) (valid : IsRanking R) (few : HasFewTriples R) (at end : ℕ) (some : at < end) (within : end ≤ length R.triples) where
  abbrev X : List Triple
  X = R.triples

  abbrev taken : List Triple
  taken = take (end - at) (drop at X)

  all_taken : (z : Triple) → Contains taken z → (i : ℕ) × (at ≤ i) × (i < end) × (triple_at X i ≡ z)
  all_taken z there =
      let (i, from, to, is) = taken_at X at (end - at) (omega arith) z there in
      (i, from, omega arith, is)

  held : (z : Triple) → Contains taken z → Contains X z
  held z there =
      let (i, from, to, is) = all_taken z there in
      subst (Contains X) is (Contains-get_or X i (0, [], 0, None) (omega arith))

  pub row_made :
      ((i : ℕ) → at ≤ i → i < end → row_key (triple_at X i) ≡ row_key (triple_at X at))
      → (left : ℕ) (ahead : List ℕ) (rights : List Ranked)
      → left ≡ (triple_at X at).0
      → ahead ≡ (triple_at X at).1
      → rights ≡ map ranked_of_triple taken
      → IsRankRowOf R at end (record { left = left; ahead = ahead; rights = rights })
  row_made same left ahead rights left_is ahead_is rights_are = record {
    triples = ap (map (in_triple left ahead)) rights_are ∙ triples_back left ahead taken keys;
    key = own;
    formed = λ key less.
        and_from (is_short left) ((are_short ahead && (length ahead == R.letters - 1)) && (list_all is_ranked rights && (has_some rights && (ascend (rights_of rights) && is_less key (left ∷ ahead)))))
        (lt-ltb left 1000000000 left_low)
        (and_from (are_short ahead && (length ahead == R.letters - 1)) (list_all is_ranked rights && (has_some rights && (ascend (rights_of rights) && is_less key (left ∷ ahead))))
        (and_from (are_short ahead) (length ahead == R.letters - 1) letters_short (eq-eqb (length ahead) (R.letters - 1) ahead_len))
        (and_from (list_all is_ranked rights) (has_some rights && (ascend (rights_of rights) && is_less key (left ∷ ahead)))
        (ap (list_all is_ranked) rights_are ∙ all_ranked R valid few taken held)
        (and_from (has_some rights) (ascend (rights_of rights) && is_less key (left ∷ ahead)) (lt-ltb 0 (length rights) (omega (arith, rights_len, some)))
        (and_from (ascend (rights_of rights)) (is_less key (left ∷ ahead))
        (ap (λ l. ascend (rights_of l)) rights_are ∙ rights_ascend 0 (left ∷ ahead) taken order (λ z there. (keys z there, omega arith))) less))));
  }
    where
      own : left ∷ ahead ≡ row_key (triple_at X at)
      own = λ i. left_is i ∷ ahead_is i

      keys : (z : Triple) → Contains taken z → row_key z ≡ left ∷ ahead
      keys z there = let (i, from, to, is) = all_taken z there in ap row_key (sym is) ∙ same i from to ∙ sym own

      order : Rises IsTripleBefore taken
      order = rises_taken (end - at) (drop at X) (rises_dropped at X (rises_from_pairs IsTripleBefore X valid.in_order))

      here : Contains X (triple_at X at)
      here = Contains-get_or X at (0, [], 0, None) (omega arith)

      range : IsTripleWord R.labels R.letters (triple_at X at).1 × ((triple_at X at).0 < R.states) × ((triple_at X at).2 < R.states)
      range = valid.in_range (triple_at X at).1 (triple_at X at).0 (triple_at X at).2 ((triple_at X at).3, here)

      left_low : left < 1000000000
      left_low = let lt = range.1 in let states = few.states in omega (arith, left_is)

      ahead_len : length ahead ≡ R.letters - 1
      ahead_len = let len : suc (length (triple_at X at).1) ≡ R.letters = range.0.0 in let same = ap length ahead_is in omega arith

      letters_short : are_short ahead ≡ true
      letters_short = all_short ahead (λ a a_in.
          let lt : a < R.labels = All-contains (λ a. a < R.labels) (triple_at X at).1 a range.0.1 (subst (λ l. Contains l a) ahead_is a_in) in
          let labels = few.labels in
          omega arith)

      rights_len : length rights ≡ end - at
      rights_len =
          let left = length-drop at X in
          ap length rights_are ∙ length-map taken ranked_of_triple ∙ length-take-le (end - at) (drop at X) (omega arith)

-- One more of the right states of a row.
pub rights_on :
    (X : List Triple) (at i : ℕ) (rights : List Ranked) (right code : ℕ)
    → at + i < length X
    → right ≡ (triple_at X (at + i)).2
    → code ≡ code_for (triple_at X (at + i)).3
    → rights ≡ map ranked_of_triple (take i (drop at X))
    → rights ++ record { right = right; code = code } ∷ [] ≡ map ranked_of_triple (take (i + 1) (drop at X))
rights_on X at i rights right code lt right_is code_is are =
    let left = length-drop at X in
    let next : take (i + 1) (drop at X) ≡ take i (drop at X) ++ triple_at X (at + i) ∷ [] =
    take_more (drop at X) i (0, [], 0, None) (omega arith) ∙ ap (λ x. take i (drop at X) ++ x ∷ []) (get_or-drop at X i (0, [], 0, None)) in
    let new : ◌≡◌ {A = Ranked} (record { right = right; code = code }) (ranked_of_triple (triple_at X (at + i))) = λ k. record { right = right_is k; code = code_is k } in
    (λ k. are k ++ new k ∷ []) ∙ sym (map_behind ranked_of_triple (take i (drop at X)) (triple_at X (at + i))) ∙ ap (map ranked_of_triple) (sym next)

-- What a row has: some right states, and a left state and word past the key.
pub some_ranked : (letters : ℕ) (key : List ℕ) (row : RankRow) → is_rank_row letters key row ≡ true → (0 < length row.rights) × (is_less key (rank_key row) ≡ true)
some_ranked letters key row is =
    let a = and_parts (is_short row.left) ((are_short row.ahead && (length row.ahead == letters - 1)) && (list_all is_ranked row.rights && (has_some row.rights && (ascend (rights_of row.rights) && is_less key (rank_key row))))) is in
    let b = and_parts (are_short row.ahead && (length row.ahead == letters - 1)) (list_all is_ranked row.rights && (has_some row.rights && (ascend (rights_of row.rights) && is_less key (rank_key row)))) a.1 in
    let c = and_parts (list_all is_ranked row.rights) (has_some row.rights && (ascend (rights_of row.rights) && is_less key (rank_key row))) b.1 in
    let d = and_parts (has_some row.rights) (ascend (rights_of row.rights) && is_less key (rank_key row)) c.1 in
    (ltb-true 0 (length row.rights) d.0, (and_parts (ascend (rights_of row.rights)) (is_less key (rank_key row)) d.1).1)

-- ---- rows one after another

behind : (letters : ℕ) (key : List ℕ) (rows : List RankRow) (row : RankRow) → are_rank_rows letters key rows ≡ true → is_rank_row letters (last_row_key key rows) row ≡ true → are_rank_rows letters key (rows ++ row ∷ []) ≡ true
behind letters key [] row h is = and_from (is_rank_row letters key row) true is refl
behind letters key (first ∷ rows) row h is =
    let parts = and_parts (is_rank_row letters key first) (are_rank_rows letters (rank_key first) rows) h in
    and_from (is_rank_row letters key first) (are_rank_rows letters (rank_key first) (rows ++ row ∷ [])) parts.0 (behind letters (rank_key first) rows row parts.1 is)

last_behind : (key : List ℕ) (rows : List RankRow) (row : RankRow) → last_row_key key (rows ++ row ∷ []) ≡ rank_key row
last_behind key [] row = refl
last_behind key (first ∷ rows) row = last_behind (rank_key first) rows row

pub rank_rows_none : (R : Ranking) → AreRankRows R 0 []
rank_rows_none R = record { within = omega arith; formed = refl; triples = refl; few = omega arith; next = λ lt. refl }

pub rank_rows_more :
    (R : Ranking) (at end : ℕ) (rows : List RankRow) (row : RankRow)
    → AreRankRows R at rows
    → at < end
    → end ≤ length R.triples
    → IsRankRowOf R at end row
    → (end < length R.triples → slice_cmp nat_cmp (row_key (triple_at R.triples at)) (row_key (triple_at R.triples end)) ≡ Less)
    → AreRankRows R end (rows ++ row ∷ [])
rank_rows_more R at end rows row are some within is onward = record {
  within = within;
  formed = behind R.letters [] rows row are.formed (is.formed (last_row_key [] rows) (subst (λ k. is_less (last_row_key [] rows) k ≡ true) (sym is.key) (are.next (omega arith))));
  triples =
      flat_map-append triples_of_row rows (row ∷ [])
      ∙ (λ i. are.triples i ++ append-nil (triples_of_row row) i)
      ∙ ap (λ l. take at R.triples ++ l) is.triples
      ∙ sym (take-add at (end - at) R.triples)
      ∙ ap (λ n. take n R.triples) all;
  few = let size = length-append rows (row ∷ []) in let few = are.few in omega arith;
  next = λ lt. ap (λ k. is_less k (row_key (triple_at R.triples end))) (last_behind [] rows row ∙ is.key) ∙ ap is_lt (onward lt);
}
  where
    all : at + (end - at) ≡ end
    all = omega arith

-- All rows are the block of the relation.
pub rank_rows_are_block : (R : Ranking) (at : ℕ) (rows : List RankRow) → HasFewTriples R → AreRankRows R at rows → length R.triples ≤ at → IsRankBlockOf R.letters R.triples (record { rows = rows })
rank_rows_are_block R at rows few are past = record {
  formed = and_from (is_short (length rows)) (are_rank_rows R.letters [] rows) (lt-ltb (length rows) 1000000000 (let size = are.few in let within = are.within in let count = few.count in omega arith)) are.formed;
  triples = are.triples ∙ take_all at R.triples past;
}
