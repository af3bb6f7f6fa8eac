-- What holds while the pairs of a row, and the rows one after another, are tried.
use Rattle.std.proofs.Common.{◌≡◌, ℕ, ◌+◌, ◌<◌, ◌≤◌, ◌↔◌, inl, inr, Bool, true, false, [], refl, sym, ◌∙◌, subst, arith}
use Rattle.std.proofs.lemmas.Bool.{cases_eq, cases_lt, false≢true}
use Rattle.auto_core.proofs.PathLemmas.{none_in_nil}
use Rattle.auto_core.specs.Game.{Round, Holds, IsGreatest}
use Rattle.bit_rel.specs.Relation.{Relation, IsRelation, Adds, Removes}
use Rattle.look_round.specs.Words.{IsBound}
use Rattle.look_game.specs.Taking.{AddsMatching, IsMatching, TakesAway, TakesSome, KeepsOthers, HasRounds, HasStable}
use Rattle.look_game.specs.Near.{IsReachedWithin}
use Rattle.look_game.proofs.TakingLemmas.{round_near, takes_none, takes_then, takes_one, takes_upto, takes_some}

-- Pairs of one state are added as far as they match.
pub add_none : (ok : ℕ → ℕ → Type 0) (p : ℕ) (R : Relation) → IsRelation R → AddsMatching ok 0 p R R
add_none ok p R valid = record {
  size = refl;
  valid = valid;
  pairs = λ r s. (λ h. inl h, λ either. elim either [ inl h ↦ h | inr new ↦ let lt = new.1 in absurd (omega arith) ]);
}

pub add_match :
    (ok : ℕ → ℕ → Type 0) (n p : ℕ) (R S T : Relation)
    → AddsMatching ok n p R S
    → ok p n
    → Adds S T p n
    → IsRelation T
    → AddsMatching ok (n + 1) p R T
add_match ok n p R S T h match adds valid = record {
  size = adds.size ∙ h.size;
  valid = valid;
  pairs = λ r s. (
    λ held. elim ((adds.pairs r s).0 held) [
      | inl was ↦ elim ((h.pairs r s).0 was) [
        | inl first ↦ inl first
        | inr new ↦ let lt = new.1 in inr (new.0, omega arith, new.2)
      ]
      | inr same ↦
          let e = same.1 in
          let P : ℕ → Type 0 = λ x. ok x s in
          let Q : ℕ → Type 0 = λ y. ok p y in
          inr (same.0, omega arith, subst P (sym same.0) (subst Q (sym same.1) match))
    ],
    λ either. elim either [
      | inl first ↦ (adds.pairs r s).1 (inl ((h.pairs r s).1 (inl first)))
      | inr new ↦ elim (cases_eq s n) [
        | inl e ↦ (adds.pairs r s).1 (inr (new.0, e))
        | inr apart ↦ let lt = new.1 in (adds.pairs r s).1 (inl ((h.pairs r s).1 (inr (new.0, omega arith, new.2))))
      ]
    ],
  );
}

pub add_passed :
    (ok : ℕ → ℕ → Type 0) (n p : ℕ) (R S : Relation)
    → AddsMatching ok n p R S
    → (ok p n → ⊥)
    → AddsMatching ok (n + 1) p R S
add_passed ok n p R S h none = record {
  size = h.size;
  valid = h.valid;
  pairs = λ r s. (
    λ held. elim ((h.pairs r s).0 held) [
      | inl first ↦ inl first
      | inr new ↦ let lt = new.1 in inr (new.0, omega arith, new.2)
    ],
    λ either. elim either [
      | inl first ↦ (h.pairs r s).1 (inl first)
      | inr new ↦ elim (cases_eq s n) [
        | inl e ↦
            let P : ℕ → Type 0 = λ x. ok x n in
            let Q : ℕ → Type 0 = λ y. ok r y in
            absurd (none (subst P new.0 (subst Q e new.2)))
        | inr apart ↦ let lt = new.1 in (h.pairs r s).1 (inr (new.0, omega arith, new.2))
      ]
    ],
  );
}

-- the relation without pairs
pub empty_valid : (n : ℕ) (R : Relation) → R ≡ record { size = n; pairs = [] } → IsRelation R
empty_valid n R is =
    let P : Relation → Type 0 = λ S. IsRelation S in
    subst P (sym is) (record { in_range = λ p q h. absurd (none_in_nil (p, q) h); in_order = tt })

-- The rows below m have all pairs that match.
pub record HasRowsUpto (ok : ℕ → ℕ → Type 0) (n m : ℕ) (R : Relation) : Type 0 where
  pub size : R.size ≡ n
  pub pairs : (p q : ℕ) → Holds R.pairs p q ↔ ((p < m) × (q < n) × ok p q)

pub no_rows : (ok : ℕ → ℕ → Type 0) (n : ℕ) (R : Relation) → R ≡ record { size = n; pairs = [] } → HasRowsUpto ok n 0 R
no_rows ok n R is =
    let P : Relation → Type 0 = λ S. HasRowsUpto ok n 0 S in
    subst P (sym is) (record { size = refl; pairs = λ p q. (λ h. absurd (none_in_nil (p, q) h), λ is. let lt = is.0 in absurd (omega arith)) })

pub row_added :
    (ok : ℕ → ℕ → Type 0) (n m : ℕ) (R S : Relation)
    → HasRowsUpto ok n m R
    → AddsMatching ok n m R S
    → HasRowsUpto ok n (m + 1) S
row_added ok n m R S h adds = record {
  size = adds.size ∙ h.size;
  pairs = λ p q. (
    λ held. elim ((adds.pairs p q).0 held) [
      | inl was ↦ let is = (h.pairs p q).0 was in let lt = is.0 in (omega arith, is.1, is.2)
      | inr new ↦ let e = new.0 in (omega arith, new.1, new.2)
    ],
    λ is. elim (cases_eq p m) [
      | inl e ↦ (adds.pairs p q).1 (inr (e, is.1, is.2))
      | inr apart ↦ let lt = is.0 in (adds.pairs p q).1 (inl ((h.pairs p q).1 (omega arith, is.1, is.2)))
    ],
  );
}

module _ (M : ℕ → ℕ → ℕ → Type 0) (ok : ℕ → ℕ → Type 0) (k : ℕ) where
  -- Of the pairs of p those whose right state is below n were tried.
  pub record IsVisiting (p : ℕ) (old now : Relation) (changed : Bool) (n : ℕ) : Type 0 where
    pub takes : TakesAway M ok k old now
    pub some : changed ≡ true → TakesSome old now
    pub same : changed ≡ false → now ≡ old
    pub rounds : changed ≡ false → (q : ℕ) → q < n → Holds now.pairs p q → Round M M ok k (Holds now.pairs) p q
    pub others : KeepsOthers p old now
    pub apart : (IsReachedWithin M k p p → ⊥) → (q : ℕ) → q < n → Holds now.pairs p q → Round M M ok k (Holds now.pairs) p q

  -- The rows below n were tried.
  pub record IsPassing (old now : Relation) (changed : Bool) (n : ℕ) : Type 0 where
    pub valid : IsRelation old
    pub takes : TakesAway M ok k old now
    pub some : changed ≡ true → TakesSome old now
    pub rounds : changed ≡ false → (p : ℕ) → p < n → HasRounds M ok k now p

  pub visiting_begins : (p : ℕ) (R : Relation) → IsRelation R → IsVisiting p R R false 0
  visiting_begins p R valid = record {
    takes = takes_none M ok k R valid;
    some = λ e. absurd (false≢true e);
    same = λ e. refl;
    rounds = λ e q q_in. absurd (omega arith);
    others = λ r s apart h. h;
    apart = λ free q q_in. absurd (omega arith);
  }

  -- the pair has no round
  pub pair_taken :
      (p q : ℕ) (old now new : Relation) (changed : Bool)
      → IsVisiting p old now changed q
      → IsRelation old
      → IsRelation now
      → Holds now.pairs p q
      → (Round M M ok k (Holds now.pairs) p q → ⊥)
      → Removes now new p q
      → IsRelation new
      → IsVisiting p old new true (q + 1)
  pair_taken p q old now new changed h first valid held none removes after =
      let takes = takes_then M ok k old now new h.takes (takes_one M ok k now new p q after removes none) in
      let fewer : TakesSome now new = takes_some now new p q valid after removes held in
      let upto = takes_upto M ok k old now first h.takes in
      record {
        takes = takes;
        some = λ e. omega arith;
        same = λ e. absurd (false≢true (sym e));
        rounds = λ e. absurd (false≢true (sym e));
        others = λ r s apart was. (removes.pairs r s).1 (h.others r s apart was, λ is. apart is.0);
        apart = λ free r r_in stays.
            let was = (removes.pairs p r).0 stays in
            let behind : r < q = elim (cases_eq r q) [ inl e ↦ absurd (was.1 ((refl, e))) | inr apart ↦ omega arith ] in
            round_near M ok (Holds now.pairs) (Holds new.pairs) k p r
            (λ u v reached is. (removes.pairs u v).1 (is, λ e. free (subst (λ x. IsReachedWithin M k p x) e.0 reached)))
            (h.apart free r behind was.0);
      }

  -- it has one, or is not held
  pub pair_stays :
      (p q : ℕ) (old now : Relation) (changed : Bool)
      → IsVisiting p old now changed q
      → (Holds now.pairs p q → Round M M ok k (Holds now.pairs) p q)
      → IsVisiting p old now changed (q + 1)
  pair_stays p q old now changed h round = record {
    takes = h.takes;
    some = h.some;
    same = h.same;
    rounds = λ e r r_in held. elim (cases_eq r q) [
      | inl f ↦ here r f held
      | inr apart ↦ h.rounds e r (omega arith) held
    ];
    others = h.others;
    apart = λ free r r_in held. elim (cases_eq r q) [
      | inl f ↦ here r f held
      | inr apart ↦ h.apart free r (omega arith) held
    ];
  }
    where
      here : (r : ℕ) → r ≡ q → Holds now.pairs p r → Round M M ok k (Holds now.pairs) p r
      here r f = let P : ℕ → Type 0 = λ x. Holds now.pairs p x → Round M M ok k (Holds now.pairs) p x in subst P (sym f) round

  -- the pairs of a range are not held
  pub visit_skips :
      (p : ℕ) (old now : Relation) (changed : Bool) (n m : ℕ)
      → IsVisiting p old now changed n
      → ((q : ℕ) → n ≤ q → q < m → Holds now.pairs p q → ⊥)
      → IsVisiting p old now changed m
  visit_skips p old now changed n m h none = record {
    takes = h.takes;
    some = h.some;
    same = h.same;
    rounds = λ e q q_in held. elim (cases_lt q n) [
      | inl before ↦ h.rounds e q before held
      | inr from ↦ absurd (none q from q_in held)
    ];
    others = h.others;
    apart = λ free q q_in held. elim (cases_lt q n) [
      | inl before ↦ h.apart free q before held
      | inr from ↦ absurd (none q from q_in held)
    ];
  }

  pub passing_begins : (R : Relation) → IsRelation R → IsPassing R R false 0
  passing_begins R valid = record {
    valid = valid;
    takes = takes_none M ok k R valid;
    some = λ e. absurd (false≢true e);
    rounds = λ e p p_in. absurd (omega arith);
  }

  -- pairs of the row were taken
  pub row_taken :
      (p : ℕ) (old now new : Relation) (changed : Bool)
      → IsPassing old now changed p
      → TakesAway M ok k now new
      → TakesSome now new
      → IsPassing old new true (p + 1)
  row_taken p old now new changed h takes fewer =
      let upto = takes_upto M ok k old now h.valid h.takes in
      record {
        valid = h.valid;
        takes = takes_then M ok k old now new h.takes takes;
        some = λ e. omega arith;
        rounds = λ e. absurd (false≢true (sym e));
      }

  -- none was
  pub row_stays :
      (p : ℕ) (old now new : Relation) (changed : Bool)
      → IsPassing old now changed p
      → new ≡ now
      → HasRounds M ok k new p
      → IsPassing old new changed (p + 1)
  row_stays p old now new changed h same rounds =
      let P : Relation → Type 0 = λ R. IsPassing old R changed (p + 1) in
      let Q : Relation → Type 0 = λ R. HasRounds M ok k R p in
      let here : HasRounds M ok k now p = subst Q same rounds in
      subst P (sym same)
      (record {
        valid = h.valid;
        takes = h.takes;
        some = h.some;
        rounds = λ e r r_in. elim (cases_eq r p) [
          | inl f ↦ let T : ℕ → Type 0 = λ x. HasRounds M ok k now x in subst T (sym f) here
          | inr apart ↦ h.rounds e r (omega arith)
        ];
      })

  -- A relation that was made from all matching pairs, and each of whose pairs has its round, is the greatest.
  pub is_greatest :
      (n : ℕ) (first R : Relation)
      → IsMatching ok n first
      → TakesAway M ok k first R
      → ((p : ℕ) → HasRounds M ok k R p)
      → IsGreatest M M ok k n n R.pairs
  is_greatest n first R matching takes rounds = record {
    in_range = λ p q h. let is = (matching.pairs p q).0 (takes.within p q h) in (is.0, is.1);
    stable = λ p q h. (((matching.pairs p q).0 (takes.within p q h)).2, rounds p q h);
    has_each = λ T below stable.
        takes.leaves T stable (λ p q h.
        let lt = below p q h in
        (matching.pairs p q).1 (lt.0, lt.1, (stable p q h).0));
  }

  -- A bound has each stable list inside.
  pub bound_has_stable : (n : ℕ) (R : Relation) → 1 ≤ k → IsBound M ok n R → HasStable M ok k n R.pairs
  bound_has_stable n R some bound = record {
    in_range = λ p q h. let is = bound.matching p q h in (is.0, is.1);
    matching = λ p q h. (bound.matching p q h).2;
    has_each = λ T below stable. bound.has_each k some T below stable;
  }

  -- A relation that was made from one with each stable list inside, and each of whose pairs has its round, is the greatest.
  pub is_greatest_within :
      (n : ℕ) (first R : Relation)
      → HasStable M ok k n first.pairs
      → TakesAway M ok k first R
      → ((p : ℕ) → HasRounds M ok k R p)
      → IsGreatest M M ok k n n R.pairs
  is_greatest_within n first R has takes rounds = record {
    in_range = λ p q h. has.in_range p q (takes.within p q h);
    stable = λ p q h. (has.matching p q (takes.within p q h), rounds p q h);
    has_each = λ T below stable. takes.leaves T stable (has.has_each T below stable);
  }
