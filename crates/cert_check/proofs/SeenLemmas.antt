-- Elements that are seen, by their keys.
use Rattle.std.proofs.Common.{◌≡◌, ◌↔◌, ◌⊎◌, ℕ, ◌+◌, ◌<◌, Bool, true, false, not, List, length, slice_index_or, slice_set, inl, inr, refl, sym, ap, ◌∙◌, subst, arith, length-set, get_or-set_same, get_or-set_other}
use Rattle.std.proofs.lemmas.Bool.{cases_lt, cases_eq, false≢true}
use Rattle.std.proofs.Math.Nat.{mod-lt}
use Rattle.cert_check.specs.Supers.{Key, has_key, HasKey}
use Rattle.cert_check.specs.Seen.{key_place, at_place, IsFirstAt, HaveSeen, IsUnlikeEarlier}
use Rattle.cert_check.specs.declared.seen.Seen.{Seen}

-- What is told of a key is whether it was not there.
pub not_there : (has is : Bool) → is ≡ not has → is ≡ true → has ≡ true → ⊥
not_there false is told new there = false≢true there
not_there true is told new there = false≢true (sym told ∙ new)

pub there_before : (has is : Bool) → is ≡ not has → is ≡ false → has ≡ true
there_before true is told old = refl
there_before false is told old = absurd (false≢true (sym old ∙ told))

-- The next element, with its key.
module _ (keys : ℕ → Key) (e : ℕ) (old : Seen) (were : HaveSeen keys e old) (key : Key) (made : key ≡ keys e) where
  abbrev places : List ℕ
  places = old.places.items

  abbrev place : ℕ
  place = key_place (length places) key

  -- Its place is free.
  no_earlier_there : at_place old key ≡ 0 → (d : ℕ) → d < e → key_place (length places) (keys d) ≡ place → ⊥
  no_earlier_there free d before same =
      let here : at_place old (keys d) ≡ at_place old key = ap (λ p. slice_index_or places p 0) same in
      elim (were.each d before) [
        | inl (j, there, is) ↦ absurd (omega (arith, here, there, free))
        | inr has ↦ let taken = were.taken (keys d) has in absurd (omega (arith, here, taken, free))
      ]

  pub unlike_where_free : at_place old key ≡ 0 → IsUnlikeEarlier keys e
  unlike_where_free free d before same = no_earlier_there free d before (ap (key_place (length places)) (same ∙ sym made))

  module _ (new : Seen) (free : at_place old key ≡ 0) (put : new.places.items ≡ slice_set places place (e + 1)) (same_others : new.others ≡ old.others) where
    within : place < length places
    within = mod-lt _ were.not_empty

    size : length new.places.items ≡ length places
    size = ap length put ∙ length-set places place (e + 1)

    at_new : (other : Key) → at_place new other ≡ slice_index_or (slice_set places place (e + 1)) (key_place (length places) other) 0
    at_new other = ap (λ n. slice_index_or new.places.items (key_place n other) 0) size ∙ ap (λ l. slice_index_or l (key_place (length places) other) 0) put

    here : at_place new key ≡ e + 1
    here = at_new key ∙ get_or-set_same places place (e + 1) 0 within

    stays : (other : Key) → 0 < at_place old other → at_place new other ≡ at_place old other
    stays other taken = at_new other ∙ get_or-set_other places place (key_place (length places) other) (e + 1) 0 (λ same.
        let one : at_place old other ≡ at_place old key = ap (λ p. slice_index_or places p 0) same in
        omega (arith, one, taken, free))

    pub seen_at_place : HaveSeen keys (e + 1) new
    seen_at_place = record {
      not_empty = let old_some = were.not_empty in omega (arith, size, old_some);
      each = λ d below. elim (cases_lt d e) [
        | inl before ↦ elim (were.each d before) [
          | inl (j, there, is) ↦ inl (j, stays (keys d) (omega (arith, there)) ∙ there, is)
          | inr has ↦ inr (ap (λ s. has_key s (keys d)) same_others ∙ has)
        ]
        | inr last ↦ let is : d ≡ e = omega (arith, below, last) in inl (e, ap (at_place new) (ap keys is ∙ sym made) ∙ here, ap keys (sym is))
      ];
      earlier = λ p d there. elim (cases_eq p place) [
        | inl same ↦
            let now : slice_index_or new.places.items p 0 ≡ e + 1 = ap (λ l. slice_index_or l p 0) put ∙ ap (λ q. slice_index_or (slice_set places place (e + 1)) q 0) same ∙ get_or-set_same places place (e + 1) 0 within in
            omega (arith, now, there)
        | inr other ↦
            let was : slice_index_or places p 0 ≡ d + 1 = sym (ap (λ l. slice_index_or l p 0) put ∙ get_or-set_other places place p (e + 1) 0 other) ∙ there in
            let before = were.earlier p d was in
            omega (arith, before)
      ];
      first = λ p d there. subst (λ n. IsFirstAt keys n p d) (sym size) (elim (cases_eq p place) [
        | inl same ↦
            let now : slice_index_or new.places.items p 0 ≡ e + 1 = ap (λ l. slice_index_or l p 0) put ∙ ap (λ q. slice_index_or (slice_set places place (e + 1)) q 0) same ∙ get_or-set_same places place (e + 1) 0 within in
            let is : d ≡ e = omega (arith, now, there) in
            subst (IsFirstAt keys (length places) p) (sym is) (ap (key_place (length places)) (sym made) ∙ sym same, λ c before there'. no_earlier_there free c before (there' ∙ same))
        | inr other ↦ were.first p d (sym (ap (λ l. slice_index_or l p 0) put ∙ get_or-set_other places place p (e + 1) 0 other) ∙ there)
      ]);
      others = λ other has. let (d, before, is) = were.others other (sym (ap (λ s. has_key s other) same_others) ∙ has) in (d, omega (arith, before), is);
      taken = λ other has.
          let taken = were.taken other (sym (ap (λ s. has_key s other) same_others) ∙ has) in
          let same = stays other taken in
          omega (arith, same, taken);
    }

  -- An element stands there.
  module _ (d : ℕ) (there : at_place old key ≡ d + 1) where
    pub stands_before : d < e
    stands_before = were.earlier place d there

    pub alike_at_place : keys d ≡ key → IsUnlikeEarlier keys e → ⊥
    alike_at_place same unlike = unlike d stands_before (same ∙ made)

    pub unlike_others : (keys d ≡ key → ⊥) → (HasKey old.others key → ⊥) → IsUnlikeEarlier keys e
    unlike_others differs none c before same = elim (were.each c before) [
      | inl (j, at, is) ↦
          let one : at_place old (keys c) ≡ at_place old key = ap (at_place old) (same ∙ sym made) in
          let number : j ≡ d = omega (arith, one, at, there) in
          differs (sym (ap keys number) ∙ is ∙ same ∙ sym made)
      | inr has ↦ none (ap (has_key old.others) (made ∙ sym same) ∙ has)
    ]

    pub seen_among_others : (new : Seen) → new.places ≡ old.places → ((other : Key) → HasKey new.others other ↔ (HasKey old.others other ⊎ (other ≡ key))) → HaveSeen keys (e + 1) new
    seen_among_others new same_places added = record {
      not_empty = subst (λ v. 0 < length v.items) (sym same_places) were.not_empty;
      each = λ c below. elim (cases_lt c e) [
        | inl before ↦ elim (were.each c before) [
          | inl (j, at, is) ↦ inl (j, same_at (keys c) ∙ at, is)
          | inr has ↦ inr ((added (keys c)).1 (inl has))
        ]
        | inr last ↦ let is : c ≡ e = omega (arith, below, last) in inr ((added (keys c)).1 (inr (ap keys is ∙ sym made)))
      ];
      earlier = λ p c at. let before = were.earlier p c (sym (ap (λ v. slice_index_or v.items p 0) same_places) ∙ at) in omega (arith, before);
      first = subst (λ v. (p d : ℕ) → slice_index_or v.items p 0 ≡ d + 1 → IsFirstAt keys (length v.items) p d) (sym same_places) were.first;
      others = λ other has. elim ((added other).0 has) [
        | inl was ↦ let (c, before, is) = were.others other was in (c, omega (arith, before), is)
        | inr is ↦ (e, omega arith, is ∙ made)
      ];
      taken = λ other has. elim ((added other).0 has) [
        | inl was ↦ let taken = were.taken other was in let one = same_at other in omega (arith, taken, one)
        | inr is ↦ let one : at_place new other ≡ at_place old key = same_at other ∙ ap (at_place old) is in omega (arith, one, there)
      ];
    }
      where
        same_at : (other : Key) → at_place new other ≡ at_place old other
        same_at other = ap (λ v. slice_index_or v.items (key_place (length v.items) other) 0) same_places

  -- Its key is among the others.
  pub alike_others : HasKey old.others key → IsUnlikeEarlier keys e → ⊥
  alike_others has unlike = let (d, before, is) = were.others key has in unlike d before (sym is ∙ made)
