-- Entries put in, one by one.
use Rattle.std.proofs.Common.{◌≡◌, ℕ, ◌+◌, ◌-◌, ◌<◌, ◌≤◌, ◌⊎◌, ◌↔◌, inl, inr, Option, None, List, [], ◌∷◌, ◌++◌, length, map, take, drop, get_or, Contains, sym, ap, ◌∙◌, subst, arith}
use Rattle.std.specs.List.{insert}
use Rattle.std.specs.Ordering.{ordering_reverse}
use Rattle.std.proofs.lemmas.Bool.{cases_eq, cases_order}
use Rattle.std.proofs.lemmas.List.{get_or_default, map-append, take-map, drop-map}
use Rattle.std.proofs.lemmas.List.Edits.{length-insert, get_or-insert_below, get_or-insert_at, get_or-insert_above}
use Rattle.std.proofs.lemmas.List.Sorted.{Contains-permutation, IsPermutation-insert, IsPermutation-sym}
use Rattle.auto_core.specs.Delayed.{RankedTriples, AreTriplesOf}
use Rattle.auto_core.proofs.PathLemmas.{Contains-here, Contains-later, Contains-cons_cases, none_in_nil}
use Rattle.delayed_sim.specs.declared.entries.Entry.{Entry}
use Rattle.delayed_sim.specs.declared.delayed.RankedTriple.{RankedTriple}
use Rattle.delayed_sim.specs.Rankings.{Triple, IsTripleBefore, AreTriplesInOrder, ranked_triple, AreTriplesGiven, DifferInTriples, HasJust}
use Rattle.delayed_sim.specs.Stored.{triple_of, entry_triples, no_entry, IsBetween, IsPutIn}
use Rattle.delayed_sim.proofs.OrderLemmas.{triple_total}
use Rattle.delayed_sim.proofs.EntryLemmas.{entry_triple, entry_count}

-- the triples after an entry is put in
pub triples_insert : (n : ℕ) (entries : List Entry) (at : ℕ) (e : Entry) → entry_triples n (insert entries at e) ≡ insert (entry_triples n entries) at (triple_of n e)
triples_insert n entries at e =
    map-append (triple_of n) (take at entries) (e ∷ drop at entries)
    ∙ ap (λ xs. xs ++ triple_of n e ∷ map (triple_of n) (drop at entries)) (sym (take-map (triple_of n) at entries))
    ∙ ap (λ ys. take at (entry_triples n entries) ++ triple_of n e ∷ ys) (sym (drop-map (triple_of n) at entries))

-- a list in order stays so where the new triple stands between those before it and those behind
order_insert :
    (T : RankedTriples) (at : ℕ) (t : Triple)
    → at ≤ length T
    → AreTriplesInOrder T
    → ((k : ℕ) (d : Triple) → k < at → IsTripleBefore (get_or T k d) t)
    → ((k : ℕ) (d : Triple) → at ≤ k → k < length T → IsTripleBefore t (get_or T k d))
    → AreTriplesInOrder (insert T at t)
order_insert T at t upto order before behind i j d lt j_in =
    let len = length-insert T at t upto in
    elim (cases_order j at) [
      | inl e ↦
          let P : ℕ → Type 0 = λ k. IsTripleBefore (get_or (insert T at t) i d) (get_or (insert T at t) k d) in
          subst P (sym e) (subst (λ y. IsTripleBefore (get_or (insert T at t) i d) y) (sym (get_or-insert_at T at t d upto))
          (subst (λ x. IsTripleBefore x t) (sym (get_or-insert_below T at t d i (omega arith) upto)) (before i d (omega arith))))
      | inr (inl below) ↦
          subst (λ x. IsTripleBefore x (get_or (insert T at t) j d)) (sym (get_or-insert_below T at t d i (omega arith) upto))
          (subst (λ y. IsTripleBefore (get_or T i d) y) (sym (get_or-insert_below T at t d j below upto)) (order i j d lt (omega arith)))
      | inr (inr above) ↦ later above (j - 1) (omega arith)
    ]
  where
    later : at < j → (m : ℕ) → j ≡ m + 1 → IsTripleBefore (get_or (insert T at t) i d) (get_or (insert T at t) j d)
    later higher m e =
        let len = length-insert T at t upto in
        let from : at ≤ m = omega arith in
        let m_in : m < length T = omega arith in
        let there : get_or (insert T at t) j d ≡ get_or T m d = ap (λ k. get_or (insert T at t) k d) e ∙ get_or-insert_above T at t d m from upto in
        subst (λ y. IsTripleBefore (get_or (insert T at t) i d) y) (sym there) (elim (cases_order i at) [
          | inl f ↦
              let P : ℕ → Type 0 = λ k. IsTripleBefore (get_or (insert T at t) k d) (get_or T m d) in
              subst P (sym f) (subst (λ x. IsTripleBefore x (get_or T m d)) (sym (get_or-insert_at T at t d upto)) (behind m d from m_in))
          | inr (inl below) ↦ subst (λ x. IsTripleBefore x (get_or T m d)) (sym (get_or-insert_below T at t d i below upto)) (order i m d (omega arith) m_in)
          | inr (inr above) ↦ last above (i - 1) (omega arith)
        ])
      where
        last : at < i → (k : ℕ) → i ≡ k + 1 → IsTripleBefore (get_or (insert T at t) i d) (get_or T m d)
        last upper k f =
            let len = length-insert T at t upto in
            let here : get_or (insert T at t) i d ≡ get_or T k d = ap (λ x. get_or (insert T at t) x d) f ∙ get_or-insert_above T at t d k (omega arith) upto in
            subst (λ x. IsTripleBefore x (get_or T m d)) (sym here) (order k m d (omega arith) (omega arith))

-- the triples are the old ones and the new one
contains_insert : (T : RankedTriples) (at : ℕ) (t x : Triple) → at ≤ length T → Contains (insert T at t) x ↔ (Contains T x ⊎ (t ≡ x))
contains_insert T at t x upto = (
  λ h. elim (Contains-cons_cases t x T (Contains-permutation (insert T at t) (t ∷ T) x (IsPermutation-sym (t ∷ T) (insert T at t) (IsPermutation-insert T at t)) h)) [
    | inl e ↦ inr e
    | inr there ↦ inl there
  ],
  λ either. Contains-permutation (t ∷ T) (insert T at t) x (IsPermutation-insert T at t) (elim either [
    | inl there ↦ Contains-later t x T there
    | inr e ↦ Contains-here t x T e
  ]),
)

pub put_in : (n : ℕ) (entries : List Entry) (at : ℕ) (e : Entry) → AreTriplesInOrder (entry_triples n entries) → IsBetween n entries (triple_of n e) at at → IsPutIn n entries (insert entries at e) e
put_in n entries at e order gap =
    let T = entry_triples n entries in
    let t = triple_of n e in
    let within = gap.within in
    let upto : at ≤ length T = omega (arith, entry_count n entries) in
    let is = triples_insert n entries at e in
    record {
      in_order = subst AreTriplesInOrder (sym is) (order_insert T at t upto order
          (λ k d lt. subst (λ x. IsTripleBefore x t) (sym (entry_triple n entries k d (omega arith))) (gap.below k lt))
          (λ k d from k_in.
          let k_entry : k < length entries = omega (arith, entry_count n entries) in
          subst (λ x. IsTripleBefore t x) (sym (entry_triple n entries k d k_entry))
          (triple_total.antisymm t (triple_of n (get_or entries k no_entry)) ∙ ap ordering_reverse (gap.above k from k_entry))));
      triples = λ x. subst (λ X. Contains X x ↔ (Contains T x ⊎ (t ≡ x))) (sym is) (contains_insert T at t x upto);
    }

-- ---- a list of given triples

-- The given triple with this number.
abbrev pub given : List RankedTriple → ℕ → RankedTriple
given triples k = get_or triples k (ranked_triple 0 [] 0 None)

abbrev pub as_triple : RankedTriple → Triple
as_triple x = (x.left, x.ahead, x.right, x.rank)

-- The list has just the first i given triples, in order.
pub record IsFilled (triples : List RankedTriple) (i : ℕ) (T : RankedTriples) : Type 0 where
  pub each : (t : Triple) → Contains T t → (k : ℕ) × (k < i) × (as_triple (given triples k) ≡ t)
  pub all : (k : ℕ) → k < i → Contains T (as_triple (given triples k))
  pub in_order : AreTriplesInOrder T

pub filled_none : (triples : List RankedTriple) → IsFilled triples 0 []
filled_none triples = record {
  each = λ t h. absurd (none_in_nil t h);
  all = λ k lt. absurd (omega arith);
  in_order = λ i j d lt j_in. absurd (omega arith);
}

pub filled_more : (n : ℕ) (triples : List RankedTriple) (i : ℕ) (old new : List Entry) (e : Entry) → IsFilled triples i (entry_triples n old) → triple_of n e ≡ as_triple (given triples i) → IsPutIn n old new e → IsFilled triples (i + 1) (entry_triples n new)
filled_more n triples i old new e h is put = record {
  each = λ t has. elim ((put.triples t).0 has) [
    | inl was ↦ let (k, lt, at) = h.each t was in (k, omega arith, at)
    | inr here ↦ (i, omega arith, sym is ∙ here)
  ];
  all = λ k lt. elim (cases_eq k i) [
    | inl f ↦ subst (λ j. Contains (entry_triples n new) (as_triple (given triples j))) (sym f) ((put.triples (as_triple (given triples i))).1 (inr is))
    | inr apart ↦ (put.triples (as_triple (given triples k))).1 (inl (h.all k (omega arith)))
  ];
  in_order = put.in_order;
}

-- the next triple is not there
pub filled_lacks : (triples : List RankedTriple) (i : ℕ) (T : RankedTriples) (rank : Option ℕ) → DifferInTriples triples → i < length triples → IsFilled triples i T → Contains T ((given triples i).left, (given triples i).ahead, (given triples i).right, rank) → ⊥
filled_lacks triples i T rank differ i_in h has =
    let (k, lt, is) = h.each ((given triples i).left, (given triples i).ahead, (given triples i).right, rank) has in
    let same : k ≡ i = differ k i (ranked_triple 0 [] 0 None) (omega arith) i_in (ap (λ (t : Triple). t.0) is) (ap (λ (t : Triple). t.1) is) (ap (λ (t : Triple). t.2) is) in
    omega arith

whole : (x : RankedTriple) (p : ℕ) (b : List ℕ) (q : ℕ) (o : Option ℕ) → as_triple x ≡ (p, b, q, o) → x ≡ ranked_triple p b q o
whole x p b q o e = ap (λ (t : Triple). ranked_triple t.0 t.1 t.2 t.3) e

pub filled_all : (triples : List RankedTriple) (i : ℕ) (T : RankedTriples) → i ≡ length triples → IsFilled triples i T → HasJust T triples
filled_all triples i T all h p b q o = (
  λ has.
      let (k, lt, is) = h.each (p, b, q, o) has in
      let k_in : k < length triples = omega arith in
      (k, k_in, get_or_default triples k (ranked_triple p b q o) (ranked_triple 0 [] 0 None) k_in ∙ whole (given triples k) p b q o is),
  λ (k, k_in, is).
      let at : given triples k ≡ ranked_triple p b q o = get_or_default triples k (ranked_triple 0 [] 0 None) (ranked_triple p b q o) k_in ∙ is in
      subst (λ t. Contains T t) (ap as_triple at) (h.all k (omega arith)),
)

-- what is filled is of the states and labels
pub filled_range : (states labels n : ℕ) (triples : List RankedTriple) (i : ℕ) (T : RankedTriples) → AreTriplesGiven states labels n triples → i ≤ length triples → IsFilled triples i T → AreTriplesOf states labels n T
filled_range states labels n triples i T range upto h b p q (o, has) =
    let (k, lt, is) = h.each (p, b, q, o) has in
    let k_in : k < length triples = omega arith in
    range p b q o (k, k_in, get_or_default triples k (ranked_triple p b q o) (ranked_triple 0 [] 0 None) k_in ∙ whole (given triples k) p b q o is)
