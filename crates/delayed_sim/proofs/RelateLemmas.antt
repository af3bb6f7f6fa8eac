-- Which states are related whatever the word.
use Rattle.std.proofs.Common.{◌≡◌, ℕ, suc, ◌+◌, ◌<◌, ◌≤◌, ◌⊎◌, ◌↔◌, inl, inr, Bool, None, List, [], ◌∷◌, ◌++◌, length, Contains, refl, sym, ap, ◌∙◌, subst, arith, length-append}
use Rattle.std.specs.Prelude.{IsTrue}
use Rattle.std.specs.Cmp.{nat_cmp_is}
use Rattle.std.specs.Cmp.Lexicographic.{slice_cmp}
use Rattle.std.specs.Ordering.{nat_cmp, is_lt, ordering_then}
use Rattle.std.specs.declared.cmp.Ordering.{Ordering}
use Rattle.std.specs.declared.cmp.Ordering.TheVariants.{Less, Equal, Greater}
use Rattle.std.proofs.lemmas.Bool.{cases_eq, cases_lt, false≢true}
use Rattle.std.proofs.lemmas.Cmp.{nat_list_cmp_total, ranked, tied_itself}
use Rattle.std.proofs.lemmas.List.{append-nil, append_assoc, get_or_default, nil_from_length}
use Rattle.std.proofs.lemmas.List.Elements.{Contains-get_or, All-cons, All-head, All-tail}
use Rattle.auto_core.specs.Game.{Holds}
use Rattle.auto_core.specs.Rows.{bit_of, HasBit}
use Rattle.auto_core.specs.Delayed.{RankedTriples, HoldsTriple, AreStateRelated}
use Rattle.bit_rel.specs.Relation.{Relation, Adds}
use Rattle.delayed_sim.specs.Rankings.{Triple, Ranking, IsRanking, IsTripleBefore, IsTripleFrom, row_key, triple_cmp, triple_at}
use Rattle.delayed_sim.specs.Related.{HoldsEach}
use Rattle.delayed_sim.proofs.EntryLemmas.{same_list}

-- all letters are chosen
pub each_whole : (R : Ranking) (word : List ℕ) (p q : ℕ) (t : Bool) → suc (length word) ≡ R.letters → (IsTrue t ↔ HoldsTriple R.triples word p q) → IsTrue t ↔ HoldsEach R word p q
each_whole R word p q t len told = (
  λ yes rest all_len below.
      let none : length rest ≡ 0 = omega arith in
      subst (λ l. HoldsTriple R.triples (word ++ l) p q) (sym (nil_from_length rest none)) (subst (λ l. HoldsTriple R.triples l p q) (sym (append-nil word)) (told.0 yes)),
  λ all. told.1 (subst (λ l. HoldsTriple R.triples l p q) (append-nil word) (all [] (omega arith) (λ i d i_in. absurd (omega arith)))),
)

-- ---- the triples of one left state and word stand together

in_row :
    (x : Triple) (p : ℕ) (b : List ℕ) (size : ℕ) (o : Ordering)
    → slice_cmp nat_cmp (row_key x) (p ∷ b) ≡ o
    → ordering_then o (nat_cmp x.2 size) ≡ Less
    → (ordering_then o (nat_cmp x.2 0) ≡ Less → ⊥)
    → row_key x ≡ p ∷ b
in_row x p b size Less is lt past = absurd (past refl)
in_row x p b size Equal is lt past = same_list (row_key x) (p ∷ b) is
in_row x p b size Greater is lt past = absurd (false≢true (ap is_lt lt))

whole_triple : (x : Triple) (p : ℕ) (b : List ℕ) (q : ℕ) → row_key x ≡ p ∷ b → x.2 ≡ q → ◌≡◌ {A = Triple} x (p, b, q, x.3)
whole_triple (l, w, r, o) p b q key right = cc

-- One of the triples with the numbers from `begin` up to `end`, and below `at`, has this right state.
abbrev pub IsPlaced : RankedTriples → ℕ → ℕ → ℕ → ℕ → Type 0
IsPlaced X begin end at q = (i : ℕ) × (begin ≤ i) × (i < end) × (i < at) × ((triple_at X i).2 ≡ q)

module _ (X : RankedTriples) (p : ℕ) (b : List ℕ) (size begin end : ℕ) (first : IsTripleFrom X (p, b, 0, None) begin) (last : IsTripleFrom X (p, b, size, None) end) where
  pub placed_held : (q : ℕ) (at : ℕ) → IsPlaced X begin end at q → HoldsTriple X b p q
  placed_held q at (i, from, lt, done, right) =
      let upto = last.upto in
      let x = triple_at X i in
      let key : row_key x ≡ p ∷ b = in_row x p b size (slice_cmp nat_cmp (row_key x) (p ∷ b)) refl (last.below i lt) (first.from i from (omega arith)) in
      let has : Contains X x = Contains-get_or X i (0, [], 0, None) (omega arith) in
      let is : x ≡ (p, b, q, x.3) = whole_triple x p b q key right in
      (x.3, subst (λ y. Contains X y) is has)

  pub held_placed : (q : ℕ) (at : ℕ) → q < size → end ≤ at → HoldsTriple X b p q → IsPlaced X begin end at q
  held_placed q at q_in all (o, (i, i_in, is)) =
      let x : triple_at X i ≡ (p, b, q, o) = get_or_default X i (0, [], 0, None) (p, b, q, o) i_in ∙ is in
      let keys : slice_cmp nat_cmp (p ∷ b) (p ∷ b) ≡ Equal = tied_itself nat_list_cmp_total (p ∷ b) in
      let then_is : (s : ℕ) → triple_cmp (p, b, q, o) (p, b, s, None) ≡ nat_cmp q s = λ s. ap (λ r. ordering_then r (nat_cmp q s)) keys in
      let inside : IsTripleBefore (p, b, q, o) (p, b, size, None) = then_is size ∙ sym (nat_cmp_is q size Less q_in) in
      let past : IsTripleBefore (p, b, q, o) (p, b, 0, None) → ⊥ = λ before. let lt : q < 0 = ranked q 0 Less (sym before ∙ then_is 0) in omega arith in
      let from : begin ≤ i = elim (cases_lt i begin) [
        | inl lt ↦ absurd (past (subst (λ y. IsTripleBefore y (p, b, 0, None)) x (first.below i lt)))
        | inr le ↦ le
      ] in
      let lt : i < end = elim (cases_lt i end) [
        | inl lt ↦ lt
        | inr le ↦ absurd (last.from i le i_in (subst (λ y. IsTripleBefore y (p, b, size, None)) (sym x) inside))
      ] in
      (i, from, lt, omega arith, ap (λ (t : Triple). t.2) x)

-- one more place is marked
pub placed_more :
    (X : RankedTriples) (begin end at q : ℕ) (old now new : List ℕ)
    → begin ≤ at
    → at < end
    → q ≡ (triple_at X at).2
    → ((s : ℕ) → HasBit now s ↔ (HasBit old s ⊎ IsPlaced X begin end at s))
    → HasBit new q
    → ((s : ℕ) → ¬ (s ≡ q) → bit_of new s ≡ bit_of now s)
    → (s : ℕ)
    → HasBit new s ↔ (HasBit old s ⊎ IsPlaced X begin end (at + 1) s)
placed_more X begin end at q old now new from lt right h here others s = elim (cases_eq s q) [
  | inl e ↦ (
    λ bit. inr (at, from, lt, omega arith, sym right ∙ sym e),
    λ either. subst (λ x. HasBit new x) (sym e) here,
  )
  | inr apart ↦ (
    λ bit. elim ((h s).0 (sym (others s apart) ∙ bit)) [
      | inl was ↦ inl was
      | inr (i, le, i_lt, done, is) ↦ inr (i, le, i_lt, omega arith, is)
    ],
    λ either. others s apart ∙ (h s).1 (elim either [
      | inl was ↦ inl was
      | inr (i, le, i_lt, done, is) ↦ elim (cases_eq i at) [
        | inl e ↦ absurd (apart (sym is ∙ ap (λ k. (triple_at X k).2) e ∙ sym right))
        | inr off ↦ inr (i, le, i_lt, omega arith, is)
      ]
    ]),
  )
]

-- The next letter below a number is tried.
abbrev pub HoldsUpto : Ranking → List ℕ → ℕ → ℕ → ℕ → Type 0
HoldsUpto R word p q upto = (a : ℕ) → a < upto → HoldsEach R (word ++ a ∷ []) p q

-- each next letter was tried
pub each_of_all : (R : Ranking) (word : List ℕ) (p q upto : ℕ) → suc (length word) < R.letters → R.labels ≤ upto → HoldsUpto R word p q upto → HoldsEach R word p q
each_of_all R word p q upto short all h [] len below = absurd (omega arith)
each_of_all R word p q upto short all h (a ∷ rest) len below =
    let first : a < R.labels = All-head (λ x. x < R.labels) a rest below in
    subst (λ l. HoldsTriple R.triples l p q) (append_assoc word (a ∷ []) rest)
    (h a (omega arith) rest (omega (arith, length-append word (a ∷ []))) (All-tail (λ x. x < R.labels) a rest below))

-- one next letter
pub one_of_each : (R : Ranking) (word : List ℕ) (p q a : ℕ) → a < R.labels → HoldsEach R word p q → HoldsEach R (word ++ a ∷ []) p q
one_of_each R word p q a a_in h rest len below =
    subst (λ l. HoldsTriple R.triples l p q) (sym (append_assoc word (a ∷ []) rest))
    (h (a ∷ rest) (omega (arith, length-append word (a ∷ []))) (All-cons (λ x. x < R.labels) a rest a_in below))

-- with no letter chosen it is the state relation
pub each_related : (R : Ranking) (p q : ℕ) → HoldsEach R [] p q ↔ AreStateRelated R.labels R.letters R.triples p q
each_related R p q = (
  λ h b is_word. h b (let len = is_word.0 in omega arith) is_word.1,
  λ h rest len below. h rest (omega arith, below),
)

-- with one letter there is but the empty word
pub related_alone : (R : Ranking) (p q : ℕ) → R.letters ≡ 1 → AreStateRelated R.labels 1 R.triples p q ↔ HoldsTriple R.triples [] p q
related_alone R p q alone = (
  λ h. h [] (refl, λ i d i_in. absurd (omega arith)),
  λ h b is_word. let len = is_word.0 in subst (λ l. HoldsTriple R.triples l p q) (sym (nil_from_length b (omega arith))) h,
)

-- The states of the first triples are related.
abbrev pub AreRelatedFrom : Ranking → ℕ → ℕ → ℕ → Type 0
AreRelatedFrom R upto p q = (i : ℕ) × (i < upto) × ((triple_at R.triples i).0 ≡ p) × ((triple_at R.triples i).2 ≡ q)

-- with one letter the related pairs are those of the triples
pub pairs_of_triples :
    (R : Ranking) (p q upto : ℕ)
    → IsRanking R
    → R.letters ≡ 1
    → upto ≡ length R.triples
    → AreRelatedFrom R upto p q ↔ ((p < R.states) × (q < R.states) × AreStateRelated R.labels 1 R.triples p q)
pairs_of_triples R p q upto valid alone all = (
  λ (i, i_in, left, right).
      let t = triple_at R.triples i in
      let has : Contains R.triples t = (i, omega arith, sym (get_or_default R.triples i (0, [], 0, None) t (omega arith))) in
      let range = valid.in_range t.1 t.0 t.2 (t.3, has) in
      let word : t.1 ≡ [] = let len = range.0.0 in nil_from_length t.1 (omega arith) in
      let here : HoldsTriple R.triples [] p q =
      (t.3, subst (λ b. Contains R.triples (p, b, q, t.3)) word (subst (λ x. Contains R.triples (x, t.1, q, t.3)) left (subst (λ y. Contains R.triples (t.0, t.1, y, t.3)) right has))) in (
        subst (λ x. x < R.states) left range.1,
        subst (λ x. x < R.states) right range.2,
        (related_alone R p q alone).1 here,
      ),
  λ (p_in, q_in, related).
      let (o, (i, i_in, is)) = (related_alone R p q alone).0 related in
      let at : triple_at R.triples i ≡ (p, [], q, o) = get_or_default R.triples i (0, [], 0, None) (p, [], q, o) i_in ∙ is in
      (i, omega arith, ap (λ (t : Triple). t.0) at, ap (λ (t : Triple). t.2) at),
)

-- ---- the relation as it is filled

module _ (old now new : Relation) (p q : ℕ) (E : ℕ → Type 0) (h : (r s : ℕ) → Holds now.pairs r s ↔ (Holds old.pairs r s ⊎ ((r ≡ p) × (s < q) × E s))) where
  pub row_added : Adds now new p q → E q → (r s : ℕ) → Holds new.pairs r s ↔ (Holds old.pairs r s ⊎ ((r ≡ p) × (s < q + 1) × E s))
  row_added adds is r s = (
    λ held. elim ((adds.pairs r s).0 held) [
      | inl was ↦ elim ((h r s).0 was) [
        | inl first ↦ inl first
        | inr row ↦ let lt = row.1 in inr (row.0, omega arith, row.2)
      ]
      | inr both ↦ let e = both.1 in inr (both.0, omega arith, subst E (sym both.1) is)
    ],
    λ either. (adds.pairs r s).1 (elim either [
      | inl first ↦ inl ((h r s).1 (inl first))
      | inr row ↦ elim (cases_eq s q) [
        | inl e ↦ inr (row.0, e)
        | inr apart ↦ let lt = row.1 in inl ((h r s).1 (inr (row.0, omega arith, row.2)))
      ]
    ]),
  )

  pub row_passed : (E q → ⊥) → (r s : ℕ) → Holds now.pairs r s ↔ (Holds old.pairs r s ⊎ ((r ≡ p) × (s < q + 1) × E s))
  row_passed none r s = (
    λ held. elim ((h r s).0 held) [
      | inl first ↦ inl first
      | inr row ↦ let lt = row.1 in inr (row.0, omega arith, row.2)
    ],
    λ either. (h r s).1 (elim either [
      | inl first ↦ inl first
      | inr row ↦ elim (cases_eq s q) [
        | inl e ↦ absurd (none (subst E e row.2))
        | inr apart ↦ let lt = row.1 in inr (row.0, omega arith, row.2)
      ]
    ]),
  )

-- one more row
pub rows_more :
    (now new : Relation) (p size : ℕ) (E : ℕ → ℕ → Type 0)
    → ((r s : ℕ) → Holds now.pairs r s ↔ ((r < p) × (s < size) × E r s))
    → ((r s : ℕ) → Holds new.pairs r s ↔ (Holds now.pairs r s ⊎ ((r ≡ p) × (s < size) × E p s)))
    → (r s : ℕ)
    → Holds new.pairs r s ↔ ((r < p + 1) × (s < size) × E r s)
rows_more now new p size E h more r s = (
  λ held. elim ((more r s).0 held) [
    | inl was ↦ let is = (h r s).0 was in let lt = is.0 in (omega arith, is.1, is.2)
    | inr row ↦ let e = row.0 in (omega arith, row.1, subst (λ x. E x s) (sym row.0) row.2)
  ],
  λ is. (more r s).1 (elim (cases_eq r p) [
    | inl e ↦ inr (e, is.1, subst (λ x. E x s) e is.2)
    | inr apart ↦ let lt = is.0 in inl ((h r s).1 (omega arith, is.1, is.2))
  ]),
)

-- one more triple
pub triples_more :
    (R : Ranking) (now new : Relation) (i p q : ℕ)
    → ((r s : ℕ) → Holds now.pairs r s ↔ AreRelatedFrom R i r s)
    → p ≡ (triple_at R.triples i).0
    → q ≡ (triple_at R.triples i).2
    → Adds now new p q
    → (r s : ℕ)
    → Holds new.pairs r s ↔ AreRelatedFrom R (i + 1) r s
triples_more R now new i p q h left right adds r s = (
  λ held. elim ((adds.pairs r s).0 held) [
    | inl was ↦ let (j, lt, a, b) = (h r s).0 was in (j, omega arith, a, b)
    | inr both ↦ (i, omega arith, sym left ∙ sym both.0, sym right ∙ sym both.1)
  ],
  λ (j, lt, a, b). (adds.pairs r s).1 (elim (cases_eq j i) [
    | inl e ↦ inr (sym a ∙ ap (λ k. (triple_at R.triples k).0) e ∙ sym left, sym b ∙ ap (λ k. (triple_at R.triples k).2) e ∙ sym right)
    | inr apart ↦ inl ((h r s).1 (j, omega arith, a, b))
  ]),
)

-- one more of a whole row
pub row_filled :
    (old now new : Relation) (p q : ℕ)
    → ((r s : ℕ) → Holds now.pairs r s ↔ (Holds old.pairs r s ⊎ ((r ≡ p) × (s < q))))
    → Adds now new p q
    → (r s : ℕ)
    → Holds new.pairs r s ↔ (Holds old.pairs r s ⊎ ((r ≡ p) × (s < q + 1)))
row_filled old now new p q h adds r s = (
  λ held. elim ((adds.pairs r s).0 held) [
    | inl was ↦ elim ((h r s).0 was) [
      | inl first ↦ inl first
      | inr row ↦ let lt = row.1 in inr (row.0, omega arith)
    ]
    | inr both ↦ let e = both.1 in inr (both.0, omega arith)
  ],
  λ either. (adds.pairs r s).1 (elim either [
    | inl first ↦ inl ((h r s).1 (inl first))
    | inr row ↦ elim (cases_eq s q) [
      | inl e ↦ inr (row.0, e)
      | inr apart ↦ let lt = row.1 in inl ((h r s).1 (inr (row.0, omega arith)))
    ]
  ]),
)
