-- Places that are not answered, or want a rank and have none, are dropped until there are none: what is left, with the least ranks,
-- is the greatest delayed relation.
use Rattle.std.proofs.Common.{◌≡◌, ℕ, zero, suc, ◌<◌, ◌≤◌, List, length, map, Contains, Option, Some, None, refl, sym, ap, subst, ◌∙◌, inl, inr, arith}
use Rattle.std.proofs.lemmas.Bool.{cases_eq}
use Rattle.auto_core.specs.Automaton.{Automaton, Moves, IsAccepting}
use Rattle.auto_core.specs.Delayed.{RankedTriples, HoldsTriple, HasRank, Announces, IsTripleWord, AreTriplesOf, IsRight, IsGreatestDelayed}
use Rattle.auto_laws.specs.Greatest.{GreatestDelayedIsThere}
use Rattle.auto_laws.proofs.DecisionLemmas.{Decided, decide_both, decide_then, decide_number, keep}
use Rattle.auto_laws.proofs.MoveLemmas.{contains_map, map_contains}
use Rattle.auto_laws.proofs.WordLemmas.{Place, Has, IsAnsweredAll, decide_has, decide_answered, all_places, places_have, places_below}
use Rattle.auto_laws.proofs.RankLemmas.{IsRankedBy, RankCase, ranking, ranked_held, decide_rank}

module _ (A : Automaton) (n : ℕ) where
  -- The list has each triple of each right list of triples.
  abbrev HasEachRight : List Place → Type 0
  HasEachRight S = (Y : RankedTriples) → AreTriplesOf A.states A.labels n Y → IsRight A Y → (b : List ℕ) (p q : ℕ) → HoldsTriple Y b p q → Has S b p q

  -- Each move of the place's left state is answered in the list.
  abbrev IsAnsweredWithin : List Place → Place → Type 0
  IsAnsweredWithin S x = IsAnsweredAll A (Has S) x.0 x.1 x.2

  -- The place has a rank in the list if its left state is accepting.
  abbrev HasWantedRank : List Place → Place → Type 0
  HasWantedRank S x = IsAccepting A x.1 → (r : ℕ) × IsRankedBy A S r x.0 x.1 x.2

  -- The place stays.
  abbrev Stays : List Place → Place → Type 0
  Stays S x = IsAnsweredWithin S x × HasWantedRank S x

  decide_stays : (S : List Place) (x : Place) → Decided (Stays S x)
  decide_stays S x =
      decide_both (IsAnsweredWithin S x) (HasWantedRank S x) (decide_answered A (Has S) (decide_has S) x.0 x.1 x.2)
      (decide_then (IsAccepting A x.1) ((r : ℕ) × IsRankedBy A S r x.0 x.1 x.2) (decide_number A.accepting x.1) (decide_rank A S x.0 x.1 x.2))

  module _ (S : List Place) (each : HasEachRight S) (Y : RankedTriples) (range : AreTriplesOf A.states A.labels n Y) (right : IsRight A Y) where
    -- The ranks of a right list are ranks in the list of places.
    right_ranked : (m r : ℕ) (b : List ℕ) (p q : ℕ) → r ≤ m → HasRank Y b p q r → IsRankedBy A S m b p q
    right_ranked zero r b p q le h =
        let e : r ≡ 0 = omega arith in
        (each Y range right b p q (Some r, h), right.at_zero b p q (subst (λ x. HasRank Y b p q x) e h))
    right_ranked (suc m) r b p q le h = elim (cases_eq r (suc m)) [
      | inl e ↦ inr (
        each Y range right b p q (Some r, h),
        λ more a c p' lt is move.
            let on = right.above_zero b p q r more a c p' h (omega arith) lt is move in
            (on.0, on.2, right_ranked m on.1 c p' on.0 (let lt = on.4 in omega arith) on.3),
      )
      | inr differ ↦ inl (right_ranked m r b p q (omega arith) h)
    ]

    right_stays : (b : List ℕ) (p q : ℕ) → HoldsTriple Y b p q → Stays S (b, p, q)
    right_stays b p q h = (
      λ more a c p' lt is move. let on = right.answers b p q more a c p' h lt is move in (on.0, on.1, each Y range right c p' on.0 on.2),
      λ accepting. let has = right.ranked b p q h accepting in (has.0, right_ranked has.0 has.0 b p q (omega arith) has.1),
    )

  -- Each place of the list is one of the automaton's.
  abbrev ArePlaces : List Place → Type 0
  ArePlaces S = (b : List ℕ) (p q : ℕ) → Has S b p q → IsTripleWord A.labels n b × (p < A.states) × (q < A.states)

  -- A list of places that all stay, with each right list of triples inside.
  abbrev LastPlaces : Type 0
  LastPlaces = (S : List Place) × ArePlaces S × HasEachRight S × ((b : List ℕ) (p q : ℕ) → Has S b p q → Stays S (b, p, q))

  last_places_from : (fuel : ℕ) (S : List Place) → length S < fuel → ArePlaces S → HasEachRight S → LastPlaces
  last_places_from zero S short below each = absurd (omega arith)
  last_places_from (suc fuel) S short below each =
      let kept = keep Place (Stays S) (decide_stays S) S in
      elim kept.less [
        | inl same ↦ (S, below, each, λ b p q h. (kept.each (b, p, q) (subst (λ l. Contains l (b, p, q)) (sym same) h)).1)
        | inr less ↦ last_places_from fuel kept.items (omega arith)
            (λ b p q h. below b p q (kept.each (b, p, q) h).0)
            (λ Y range right b p q h. kept.all (b, p, q) (each Y range right b p q h) (right_stays S each Y range right b p q h))
      ]

  last_places : LastPlaces
  last_places =
      last_places_from (suc (length (all_places A.states A.labels n))) (all_places A.states A.labels n) (omega arith) (places_below A.states A.labels n)
      (λ Y range right b p q h. let r = range b p q h in places_have A.states A.labels n b p q r.0 r.1 r.2)

  module _ (S : List Place) (below : ArePlaces S) (each : HasEachRight S) (good : (b : List ℕ) (p q : ℕ) → Has S b p q → Stays S (b, p, q)) where
    -- The rank that is told.
    abbrev rank_told : (b : List ℕ) (p q : ℕ) → RankCase A S b p q → Option ℕ
    rank_told b p q (inl least) = Some least.0
    rank_told b p q (inr none) = None

    abbrev rank_at : List ℕ → ℕ → ℕ → Option ℕ
    rank_at b p q = rank_told b p q (ranking A S b p q)

    abbrev ranked_place : Place → ℕ × List ℕ × ℕ × Option ℕ
    ranked_place x = (x.1, x.0, x.2, rank_at x.0 x.1 x.2)

    -- The places with their least ranks.
    abbrev X : RankedTriples
    X = map ranked_place S

    from_X : (b : List ℕ) (p q : ℕ) (o : Option ℕ) → Contains X (p, b, q, o) → Has S b p q × (o ≡ rank_at b p q)
    from_X b p q o h =
        let r = contains_map ranked_place S (p, b, q, o) h in
        let left : r.0.1 ≡ p = ap (λ z. z.0) r.2 in
        let word : r.0.0 ≡ b = ap (λ z. z.1) r.2 in
        let right : r.0.2 ≡ q = ap (λ z. z.2) r.2 in
        (subst (Contains S) (λ i. (word i, left i, right i)) r.1, sym (ap (λ z. z.3) r.2) ∙ (λ i. rank_at (word i) (left i) (right i)))

    to_X : (b : List ℕ) (p q : ℕ) → Has S b p q → Contains X (p, b, q, rank_at b p q)
    to_X b p q h = map_contains ranked_place S (b, p, q) h

    abbrev value_of : Option ℕ → ℕ
    value_of None = 0
    value_of (Some n) = n

    -- A rank that is told is the least one.
    told_least : (b : List ℕ) (p q r : ℕ) (d : RankCase A S b p q) → Some r ≡ rank_told b p q d → IsRankedBy A S r b p q × ((t : ℕ) → IsRankedBy A S t b p q → r ≤ t)
    told_least b p q r (inl least) e =
        let same : least.0 ≡ r = sym (ap value_of e) in
        (subst (λ x. IsRankedBy A S x b p q) same least.1, λ t h. let le = least.2 t h in omega arith)
    told_least b p q r (inr none) e = cc

    -- Where there is a rank, one is told that is not greater.
    told_at : (b : List ℕ) (p q r : ℕ) (d : RankCase A S b p q) → IsRankedBy A S r b p q → (l : ℕ) × (rank_told b p q d ≡ Some l) × (l ≤ r)
    told_at b p q r (inl least) h = (least.0, refl, least.2 r h)
    told_at b p q r (inr none) h = absurd (none r h)

    has_rank : (b : List ℕ) (p q r : ℕ) → Has S b p q → IsRankedBy A S r b p q → (l : ℕ) × HasRank X b p q l × (l ≤ r)
    has_rank b p q r held h =
        let told = told_at b p q r (ranking A S b p q) h in
        (told.0, subst (λ o. Contains X (p, b, q, o)) told.1 (to_X b p q held), told.2)

    rank_least : (b : List ℕ) (p q r : ℕ) → HasRank X b p q r → IsRankedBy A S r b p q × ((t : ℕ) → IsRankedBy A S t b p q → r ≤ t)
    rank_least b p q r h = told_least b p q r (ranking A S b p q) (from_X b p q (Some r) h).1

    above :
        (b : List ℕ) (p q r more a : ℕ) (c : List ℕ) (p' : ℕ)
        → IsRankedBy A S r b p q
        → ((t : ℕ) → IsRankedBy A S t b p q → r ≤ t)
        → 0 < r
        → more < A.labels
        → Announces b more a c
        → Moves A p a p'
        → (q' s : ℕ) × Moves A q a q' × HasRank X c p' q' s × (s < r)
    above b p q zero more a c p' h least some lt is move = absurd (omega arith)
    above b p q (suc r) more a c p' h least some lt is move = elim h [
      | inl less ↦ absurd (let le = least r less in omega arith)
      | inr now ↦
          let on = now.1 more a c p' lt is move in
          let has = has_rank c p' on.0 r (ranked_held A S r c p' on.0 on.2) on.2 in
          (on.0, has.0, on.1, has.1, let le = has.2 in omega arith)
    ]

    X_right : IsRight A X
    X_right =
        record {
          answers = λ b p q more a c p' h lt is move.
              let on = (good b p q (from_X b p q h.0 h.1).0).0 more a c p' lt is move in
              (on.0, on.1, (rank_at c p' on.0, to_X c p' on.0 on.2));
          ranked = λ b p q h accepting.
              let held = (from_X b p q h.0 h.1).0 in
              let has = (good b p q held).1 accepting in
              let rank = has_rank b p q has.0 held has.1 in
              (rank.0, rank.1);
          at_zero = λ b p q h. (rank_least b p q 0 h).0.1;
          above_zero = λ b p q r more a c p' h some lt is move. let least = rank_least b p q r h in above b p q r more a c p' least.0 least.1 some lt is move;
        }

    X_greatest : IsGreatestDelayed A n X
    X_greatest =
        record {
          in_range = λ b p q h. below b p q (from_X b p q h.0 h.1).0;
          once = λ b p q o m h g. (from_X b p q o h).1 ∙ sym (from_X b p q m g).1;
          right = X_right;
          has_each = λ Y range right b p q h. (rank_at b p q, to_X b p q (each Y range right b p q h));
          least = λ Y range right b p q s h. has_rank b p q s (each Y range right b p q (Some s, h)) (right_ranked S each Y range right s s b p q (omega arith) h);
        }

pub greatest_delayed_is_there : GreatestDelayedIsThere
greatest_delayed_is_there A n some = let f = last_places A n in (X A n f.0 f.1 f.2 f.3, X_greatest A n f.0 f.1 f.2 f.3)
