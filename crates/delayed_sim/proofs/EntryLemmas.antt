-- Entries in order, and what is found among them.
use Rattle.std.proofs.Common.{◌≡◌, ℕ, ◌+◌, ◌<◌, ◌≤◌, inl, inr, Option, None, Some, List, [], ◌∷◌, length, get_or, Contains, refl, sym, ap, ◌∙◌, subst, arith}
use Rattle.std.specs.Prelude.{IfNone}
use Rattle.std.specs.Cmp.Lexicographic.{slice_cmp}
use Rattle.std.specs.Ordering.{nat_cmp, is_lt, is_gt, ordering_then, ordering_reverse}
use Rattle.std.specs.declared.cmp.Ordering.{Ordering}
use Rattle.std.specs.declared.cmp.Ordering.TheVariants.{Less, Equal, Greater}
use Rattle.std.proofs.lemmas.Bool.{cases_eq, cases_lt, false≢true}
use Rattle.std.proofs.lemmas.Cmp.{ranked, tied_itself}
use Rattle.std.proofs.lemmas.List.{get_or_default, get_or-map, length-map}
use Rattle.auto_core.specs.Delayed.{HasRank}
use Rattle.delayed_sim.specs.declared.entries.Entry.{Entry}
use Rattle.delayed_sim.specs.declared.delayed.Delayed.TheInside.{Inside}
use Rattle.delayed_sim.specs.Rankings.{Triple, row_key, triple_cmp, triple_at, IsTripleBefore, AreTriplesInOrder, IsTripleFrom, IsRanking}
use Rattle.delayed_sim.specs.Stored.{triple_of, entry_triples, ranking_of, IsStoredRanking, no_entry, IsTripleAt, IsBetween, IsFirstFrom}
use Rattle.delayed_sim.proofs.OrderLemmas.{triple_total, equal_less, once_in_order}

-- ---- what an answer of the comparison says

less_equal : Less ≡ Equal → ⊥
less_equal e = false≢true (sym (ap is_lt e))

greater_equal : Greater ≡ Equal → ⊥
greater_equal e = false≢true (sym (ap is_gt e))

both_equal : (o r : Ordering) → ordering_then o r ≡ Equal → (o ≡ Equal) × (r ≡ Equal)
both_equal Less r e = absurd (less_equal e)
both_equal Equal r e = (refl, e)
both_equal Greater r e = absurd (greater_equal e)

pub same_list : (xs ys : List ℕ) → slice_cmp nat_cmp xs ys ≡ Equal → xs ≡ ys
same_list [] [] e = refl
same_list [] (y ∷ ys) e = absurd (less_equal e)
same_list (x ∷ xs) [] e = absurd (greater_equal e)
same_list (x ∷ xs) (y ∷ ys) e =
    let both = both_equal (nat_cmp x y) (slice_cmp nat_cmp xs ys) e in
    let first : x ≡ y = ranked x y Equal (sym both.0) in
    let rest = same_list xs ys both.1 in
    λ i. first i ∷ rest i

-- triples that compare as equal have the same states and the same word
pub same_triple : (x y : Triple) → triple_cmp x y ≡ Equal → (row_key x ≡ row_key y) × (x.2 ≡ y.2)
same_triple x y e =
    let both = both_equal (slice_cmp nat_cmp (row_key x) (row_key y)) (nat_cmp x.2 y.2) e in
    (same_list (row_key x) (row_key y) both.0, ranked x.2 y.2 Equal (sym both.1))

-- the comparison looks at no rank
pub with_rank : (p : ℕ) (b : List ℕ) (q : ℕ) (o m : Option ℕ) (x : Triple) → triple_cmp x (p, b, q, o) ≡ triple_cmp x (p, b, q, m)
with_rank p b q o m x = refl

-- ---- the triples of entries

-- the triple at a place is that of its entry
pub entry_triple : (n : ℕ) (entries : List Entry) (i : ℕ) (e : Triple) → i < length entries → get_or (entry_triples n entries) i e ≡ triple_of n (get_or entries i no_entry)
entry_triple n entries i e i_in = get_or-map (triple_of n) entries i no_entry e i_in

pub entry_count : (n : ℕ) (entries : List Entry) → length (entry_triples n entries) ≡ length entries
entry_count n entries = length-map entries (triple_of n)

pub entry_in : (n : ℕ) (entries : List Entry) (i : ℕ) → i < length entries → Contains (entry_triples n entries) (triple_of n (get_or entries i no_entry))
entry_in n entries i i_in = (
  i,
  omega (arith, entry_count n entries),
  entry_triple n entries i (triple_of n (get_or entries i no_entry)) i_in,
)

-- the entry of a triple that is there
pub entry_of : (n : ℕ) (entries : List Entry) (x : Triple) → Contains (entry_triples n entries) x → (i : ℕ) × (i < length entries) × (triple_of n (get_or entries i no_entry) ≡ x)
entry_of n entries x (i, i_in, is) =
    let lt : i < length entries = omega (arith, entry_count n entries) in
    (i, lt, sym (entry_triple n entries i x lt) ∙ is)

-- an earlier entry's triple stands before a later one's
pub entry_before :
    (n : ℕ) (entries : List Entry) (i j : ℕ)
    → AreTriplesInOrder (entry_triples n entries)
    → i < j
    → j < length entries
    → IsTripleBefore (triple_of n (get_or entries i no_entry)) (triple_of n (get_or entries j no_entry))
entry_before n entries i j order lt j_in =
    let d : Triple = triple_of n no_entry in
    let here = order i j d lt (omega (arith, entry_count n entries)) in
    subst (λ z. IsTripleBefore z (triple_of n (get_or entries j no_entry))) (entry_triple n entries i d (omega arith))
    (subst (λ z. IsTripleBefore (get_or (entry_triples n entries) i d) z) (entry_triple n entries j d j_in) here)

-- ---- the search

-- The entries up to one that stands before the triple do so too.
less_upto :
    (n : ℕ) (entries : List Entry) (key : Triple) (middle : ℕ)
    → AreTriplesInOrder (entry_triples n entries)
    → middle < length entries
    → triple_cmp (triple_of n (get_or entries middle no_entry)) key ≡ Less
    → (i : ℕ)
    → i < middle + 1
    → triple_cmp (triple_of n (get_or entries i no_entry)) key ≡ Less
less_upto n entries key middle order inside less i i_lt = elim (cases_eq i middle) [
  | inl e ↦ subst (λ k. triple_cmp (triple_of n (get_or entries k no_entry)) key ≡ Less) (sym e) less
  | inr apart ↦
      triple_total.trans (triple_of n (get_or entries i no_entry)) (triple_of n (get_or entries middle no_entry)) key
      (entry_before n entries i middle order (omega arith) inside) less
]

pub between_all : (n : ℕ) (entries : List Entry) (key : Triple) → IsBetween n entries key 0 (length entries)
between_all n entries key = record {
  upto = omega arith;
  within = omega arith;
  below = λ i lt. absurd (omega arith);
  above = λ i from lt. absurd (omega arith);
}

-- All entries stand before the triple where the last one does.
pub between_end :
    (n : ℕ) (entries : List Entry) (key : Triple) (last : ℕ)
    → AreTriplesInOrder (entry_triples n entries)
    → last + 1 ≡ length entries
    → triple_cmp (triple_of n (get_or entries last no_entry)) key ≡ Less
    → IsBetween n entries key (length entries) (length entries)
between_end n entries key last order end less = record {
  upto = omega arith;
  within = omega arith;
  below = λ i lt. less_upto n entries key last order (omega arith) less i (omega arith);
  above = λ i from lt. absurd (omega arith);
}

module _ (n : ℕ) (entries : List Entry) (key : Triple) (low high middle : ℕ) (order : AreTriplesInOrder (entry_triples n entries)) (h : IsBetween n entries key low high) (from : low ≤ middle) (lt : middle < high) where
  pub between_upper : triple_cmp (triple_of n (get_or entries middle no_entry)) key ≡ Less → IsBetween n entries key (middle + 1) high
  between_upper less =
      let within = h.within in
      record {
        upto = omega arith;
        within = h.within;
        below = less_upto n entries key middle order (omega arith) less;
        above = h.above;
      }

  pub between_lower : triple_cmp (triple_of n (get_or entries middle no_entry)) key ≡ Greater → IsBetween n entries key low middle
  between_lower greater =
      let within = h.within in
      record {
        upto = from;
        within = omega arith;
        below = h.below;
        above = λ i i_from i_in. elim (cases_eq i middle) [
          | inl e ↦ subst (λ k. triple_cmp (triple_of n (get_or entries k no_entry)) key ≡ Greater) (sym e) greater
          | inr apart ↦
              let m = triple_of n (get_or entries middle no_entry) in
              let x = triple_of n (get_or entries i no_entry) in
              let back : triple_cmp key m ≡ Less = triple_total.antisymm key m ∙ ap ordering_reverse greater in
              let far : triple_cmp key x ≡ Less = triple_total.trans key m x back (entry_before n entries middle i order (omega arith) i_in) in
              triple_total.antisymm x key ∙ ap ordering_reverse far
        ];
      }

-- the entry that compares as equal has the triple
pub found_equal : (n : ℕ) (entries : List Entry) (p : ℕ) (b : List ℕ) (q i : ℕ) → i < length entries → triple_cmp (triple_of n (get_or entries i no_entry)) (p, b, q, None) ≡ Equal → IsTripleAt n entries p b q i
found_equal n entries p b q i i_in equal =
    let x = triple_of n (get_or entries i no_entry) in
    let same = same_triple x (p, b, q, None) equal in
    let is : x ≡ (p, b, q, (get_or entries i no_entry).rank) = cc in
    (i_in, subst (λ z. Contains (entry_triples n entries) z) is (entry_in n entries i i_in))

-- no entry between is left
pub found_none : (n : ℕ) (entries : List Entry) (p : ℕ) (b : List ℕ) (q low high : ℕ) → IsBetween n entries (p, b, q, None) low high → high ≤ low → (rank : Option ℕ) → Contains (entry_triples n entries) (p, b, q, rank) → ⊥
found_none n entries p b q low high h none rank has =
    let (i, i_in, is) = entry_of n entries (p, b, q, rank) has in
    let x = triple_of n (get_or entries i no_entry) in
    let equal : triple_cmp x (p, b, q, None) ≡ Equal = subst (λ z. triple_cmp z (p, b, q, None) ≡ Equal) (sym is) (tied_itself triple_total (p, b, q, None)) in
    elim (cases_lt i low) [
      | inl lt ↦ equal_less (triple_cmp x (p, b, q, None)) equal (h.below i lt)
      | inr le ↦ greater_equal (sym (h.above i (omega arith) i_in) ∙ equal)
    ]

-- ---- the first entry from a triple on

-- The first entry that does not stand before the triple has a number between these.
pub record IsFirstWithin (n : ℕ) (entries : List Entry) (key : Triple) (low high : ℕ) : Type 0 where
  pub upto : low ≤ high
  pub within : high ≤ length entries
  pub below : (i : ℕ) → i < low → triple_cmp (triple_of n (get_or entries i no_entry)) key ≡ Less
  pub from : (i : ℕ) → high ≤ i → i < length entries → triple_cmp (triple_of n (get_or entries i no_entry)) key ≡ Less → ⊥

module _ (n : ℕ) (entries : List Entry) (key : Triple) (low high middle : ℕ) (order : AreTriplesInOrder (entry_triples n entries)) (h : IsFirstWithin n entries key low high) (from : low ≤ middle) (lt : middle < high) where
  pub first_upper : triple_cmp (triple_of n (get_or entries middle no_entry)) key ≡ Less → IsFirstWithin n entries key (middle + 1) high
  first_upper less =
      let within = h.within in
      record {
        upto = omega arith;
        within = h.within;
        below = less_upto n entries key middle order (omega arith) less;
        from = h.from;
      }

  pub first_lower : (triple_cmp (triple_of n (get_or entries middle no_entry)) key ≡ Less → ⊥) → IsFirstWithin n entries key low middle
  first_lower past =
      let within = h.within in
      record {
        upto = from;
        within = omega arith;
        below = h.below;
        from = λ i i_from i_in less. elim (cases_eq i middle) [
          | inl e ↦ past (subst (λ k. triple_cmp (triple_of n (get_or entries k no_entry)) key ≡ Less) e less)
          | inr apart ↦
              past (triple_total.trans (triple_of n (get_or entries middle no_entry)) (triple_of n (get_or entries i no_entry)) key
              (entry_before n entries middle i order (omega arith) i_in) less)
        ];
      }

pub first_found : (n : ℕ) (entries : List Entry) (key : Triple) (low high : ℕ) → IsFirstWithin n entries key low high → high ≤ low → IsFirstFrom n entries key low
first_found n entries key low high h met =
    let upto = h.upto in
    let within = h.within in
    record {
      upto = omega arith;
      below = h.below;
      from = λ i le i_in. h.from i (omega arith) i_in;
    }

-- of the triples as of the entries
pub first_triple : (n : ℕ) (entries : List Entry) (key : Triple) (at : ℕ) → IsFirstFrom n entries key at → IsTripleFrom (entry_triples n entries) key at
first_triple n entries key at h =
    let upto = h.upto in
    let count = entry_count n entries in
    let P : Triple → Type 0 = λ x. triple_cmp x key ≡ Less in
    record {
      upto = omega (arith, count);
      below = λ j lt. subst P (sym (entry_triple n entries j (0, [], 0, None) (omega arith))) (h.below j lt);
      from = λ j le j_in less.
          let inside : j < length entries = omega (arith, count) in
          h.from j le inside (subst P (entry_triple n entries j (0, [], 0, None) inside) less);
    }

-- ---- rows

pub row_at_entry : (n : ℕ) (entries : List Entry) (i : ℕ) (d : Triple) → i < length entries → row_key (triple_of n (get_or entries i no_entry)) ≡ row_key (get_or (entry_triples n entries) i d)
row_at_entry n entries i d i_in = ap row_key (sym (entry_triple n entries i d i_in))

-- the row past the end stands behind
pub row_behind : (x y : Triple) → IsTripleBefore x y → (row_key y ≡ row_key x → ⊥) → slice_cmp nat_cmp (row_key x) (row_key y) ≡ Less
row_behind x y before other = by (slice_cmp nat_cmp (row_key x) (row_key y)) refl before
  where
    by : (o : Ordering) → slice_cmp nat_cmp (row_key x) (row_key y) ≡ o → ordering_then o (nat_cmp x.2 y.2) ≡ Less → o ≡ Less
    by Less is h = refl
    by Equal is h = absurd (other (sym (same_list (row_key x) (row_key y) is)))
    by Greater is h = h

-- Just the entries from `at` up to `end` have the row of the first of them.
pub record IsRowEnd (n : ℕ) (entries : List Entry) (at end : ℕ) : Type 0 where
  pub onward : at < end
  pub within : end ≤ length entries
  pub same : (i : ℕ) → at ≤ i → i < end → row_key (triple_of n (get_or entries i no_entry)) ≡ row_key (triple_of n (get_or entries at no_entry))
  pub other : end < length entries → row_key (triple_of n (get_or entries end no_entry)) ≡ row_key (triple_of n (get_or entries at no_entry)) → ⊥

pub row_same : (n : ℕ) (entries : List Entry) (at end : ℕ) → IsRowEnd n entries at end → (i : ℕ) → at ≤ i → i < end → row_key (triple_at (entry_triples n entries) i) ≡ row_key (triple_at (entry_triples n entries) at)
row_same n entries at end h i from lt =
    let onward = h.onward in
    let within = h.within in
    sym (row_at_entry n entries i (0, [], 0, None) (omega arith)) ∙ h.same i from lt ∙ row_at_entry n entries at (0, [], 0, None) (omega arith)

pub row_next :
    (n : ℕ) (entries : List Entry) (at end : ℕ)
    → AreTriplesInOrder (entry_triples n entries)
    → IsRowEnd n entries at end
    → end < length (entry_triples n entries)
    → slice_cmp nat_cmp (row_key (triple_at (entry_triples n entries) at)) (row_key (triple_at (entry_triples n entries) end)) ≡ Less
row_next n entries at end order h below =
    let onward = h.onward in
    let end_in : end < length entries = omega (arith, entry_count n entries) in
    let at_in : at < length entries = omega arith in
    subst (λ k. slice_cmp nat_cmp k (row_key (triple_at (entry_triples n entries) end)) ≡ Less) (row_at_entry n entries at (0, [], 0, None) at_in)
    (subst (λ k. slice_cmp nat_cmp (row_key (triple_of n (get_or entries at no_entry))) k ≡ Less) (row_at_entry n entries end (0, [], 0, None) end_in)
    (row_behind (triple_of n (get_or entries at no_entry)) (triple_of n (get_or entries end no_entry)) (entry_before n entries at end order onward end_in) (h.other end_in)))

-- ---- what the fields stand for

pub valid_stored : (d : Inside) → IsStoredRanking d → IsRanking (ranking_of d)
valid_stored d h = record {
  letters_from = h.letters_from;
  letters_upto = h.letters_upto;
  in_range = h.in_range;
  once = once_in_order (entry_triples d.letters d.entries.items) h.in_order;
  in_order = h.in_order;
}

pub found_default : (entries : List Entry) (i : ℕ) (e : Entry) → i < length entries → e ≡ get_or entries i e → e.rank ≡ (get_or entries i no_entry).rank
found_default entries i e i_in is = ap (λ (x : Entry). x.rank) (is ∙ get_or_default entries i e no_entry i_in)

-- the entry that was found has the triple's rank
pub found_rank :
    (n : ℕ) (entries : List Entry) (p : ℕ) (b : List ℕ) (q i : ℕ) (o : Option ℕ)
    → AreTriplesInOrder (entry_triples n entries)
    → IsTripleAt n entries p b q i
    → o ≡ (get_or entries i no_entry).rank
    → IfNone o ((r : ℕ) → HasRank (entry_triples n entries) b p q r → ⊥)
found_rank n entries p b q i (Some r) order found is = tt
found_rank n entries p b q i None order found is = λ r h. none_some r (is ∙ once_in_order (entry_triples n entries) order b p q (get_or entries i no_entry).rank (Some r) found.1 h)
  where
    none_some : (r : ℕ) → None ≡ Some r → ⊥
    none_some r e = cc
