-- Taking pairs away, row by row.
use Rattle.std.proofs.Common.{◌≡◌, ℕ, ◌+◌, ◌<◌, ◌≤◌, ◌↔◌, inl, inr, Bool, true, false, List, length, get_or, refl, sym, ap, ◌∙◌, subst, arith}
use Rattle.std.proofs.lemmas.Bool.{cases_eq, cases_lt, false≢true}
use Rattle.auto_core.specs.Automaton.{Automaton, Moves, trans_at}
use Rattle.auto_core.specs.Rows.{bit_of, HasBit}
use Rattle.auto_core.specs.Game.{Holds}
use Rattle.delayed_game.specs.Across.{HoldsPlacePair}
use Rattle.delayed_game.specs.Pairings.{Pairing, IsPairing, IsNarrowed, Removes}
use Rattle.delayed_game.proofs.BoardLemmas.{fewer_pairs}
use Rattle.bit_rows.specs.Walks.{IsNextBit}
use Rattle.delayed_game.specs.Settling.{AnswersAll, TakesAway, IsFiltered, IsAnsweredIn, IsAnsweredInto, IsAnsweredBesides, IsPlaceUnderWay, Tries}

-- what a bit of the row of p says of a pair
pub pair_below : (R : Pairing) (row : List ℕ) (n p q : ℕ) → R.states ≡ n → IsPairing R → HasBit row q → HasBit row q ↔ Holds R.pairs p q → q < n
pair_below R row n p q size valid bit both = let lt = (valid.in_range p q (both.0 bit)).1 in omega arith

-- The pairs of p whose right state is below a place were tried.
pub record HasTried (old now : Pairing) (p : ℕ) (P : ℕ → Type 0) (changed : Bool) (at : ℕ) : Type 0 where
  pub places : now.places ≡ old.places
  pub states : now.states ≡ old.states
  pub valid : IsPairing now
  pub pairs : (r s : ℕ) → Holds now.pairs r s ↔ (Holds old.pairs r s × (r ≡ p → s < at → P s))
  pub upto : length now.pairs ≤ length old.pairs
  pub some : changed ≡ true → length now.pairs < length old.pairs
  pub same : changed ≡ false → now ≡ old

module _ (old : Pairing) (p : ℕ) (P : ℕ → Type 0) where
  pub tried_none : IsPairing old → HasTried old old p P false 0
  tried_none valid = record {
    places = refl;
    states = refl;
    valid = valid;
    pairs = λ r s. (λ h. (h, λ e lt. absurd (omega arith)), λ both. both.0);
    upto = omega arith;
    some = λ e. absurd (false≢true e);
    same = λ e. refl;
  }

  -- the next pair of the row passes
  pub tried_passed :
      (now : Pairing) (changed : Bool) (row : List ℕ) (at q : ℕ)
      → HasTried old now p P changed at
      → ((s : ℕ) → HasBit row s ↔ Holds now.pairs p s)
      → IsNextBit row at q
      → P q
      → HasTried old now p P changed (q + 1)
  tried_passed now changed row at q h bits next passes = record {
    places = h.places;
    states = h.states;
    valid = h.valid;
    pairs = λ r s. (
      λ held. let was = (h.pairs r s).0 held in (
        was.0,
        λ e lt. elim (cases_eq s q) [
          | inl f ↦ subst P (sym f) passes
          | inr apart ↦ elim (cases_lt s at) [
            | inl before ↦ was.1 e before
            | inr from ↦ absurd (false≢true (sym (next.none_between s from (omega arith)) ∙ (bits s).1 (subst (λ x. Holds now.pairs x s) e held)))
          ]
        ],
      ),
      λ both. (h.pairs r s).1 (both.0, λ e lt. let le = next.behind in both.1 e (omega arith)),
    );
    upto = h.upto;
    some = h.some;
    same = h.same;
  }

  -- it does not, and goes
  pub tried_taken :
      (now new : Pairing) (changed : Bool) (row : List ℕ) (at q : ℕ)
      → HasTried old now p P changed at
      → ((s : ℕ) → HasBit row s ↔ Holds now.pairs p s)
      → IsNextBit row at q
      → (P q → ⊥)
      → Removes now new p q
      → IsPairing new
      → HasTried old new p P true (q + 1)
  tried_taken now new changed row at q h bits next fails removes valid =
      let held : Holds now.pairs p q = (bits q).0 next.here in
      let fell = fewer_pairs now new p q h.valid valid (λ r s k. ((removes.pairs r s).0 k).0) held (λ k. ((removes.pairs p q).0 k).1 (refl, refl)) in
      let upto = h.upto in
      record {
        places = removes.places ∙ h.places;
        states = removes.states ∙ h.states;
        valid = valid;
        pairs = λ r s. (
          λ k.
              let two = (removes.pairs r s).0 k in
              let was = (h.pairs r s).0 two.0 in (
                was.0,
                λ e lt. elim (cases_eq s q) [
                  | inl f ↦ absurd (two.1 (e, f))
                  | inr apart ↦ elim (cases_lt s at) [
                    | inl before ↦ was.1 e before
                    | inr from ↦ absurd (false≢true (sym (next.none_between s from (omega arith)) ∙ (bits s).1 (subst (λ x. Holds now.pairs x s) e two.0)))
                  ]
                ],
              ),
          λ both. (removes.pairs r s).1 (
            (h.pairs r s).1 (both.0, λ e lt. let le = next.behind in both.1 e (omega arith)),
            λ is. let f = is.1 in fails (subst P is.1 (both.1 is.0 (omega arith))),
          ),
        );
        upto = omega arith;
        some = λ e. omega arith;
        same = λ e. absurd (false≢true (sym e));
      }

  pub tried_all :
      (now : Pairing) (changed : Bool) (row : List ℕ) (at : ℕ)
      → HasTried old now p P changed at
      → ((s : ℕ) → HasBit row s ↔ Holds now.pairs p s)
      → ((s : ℕ) → at ≤ s → bit_of row s ≡ false)
      → IsFiltered old now p P changed
  tried_all now changed row at h bits none = record {
    places = h.places;
    states = h.states;
    valid = h.valid;
    pairs = λ r s. (
      λ held. let was = (h.pairs r s).0 held in (
        was.0,
        λ e. elim (cases_lt s at) [
          | inl before ↦ was.1 e before
          | inr from ↦ absurd (false≢true (sym (none s from) ∙ (bits s).1 (subst (λ x. Holds now.pairs x s) e held)))
        ],
      ),
      λ both. (h.pairs r s).1 (both.0, λ e lt. both.1 e),
    );
    some = h.some;
    same = h.same;
  }

-- the row of p was narrowed, and had a state more
pub row_filtered :
    (R S : Pairing) (p q : ℕ) (row : List ℕ)
    → IsPairing R
    → IsPairing S
    → IsNarrowed R S p row
    → Holds R.pairs p q
    → bit_of row q ≡ false
    → IsFiltered R S p (λ s. HasBit row s) true
row_filtered R S p q row was valid narrowed held out = record {
  places = narrowed.places;
  states = narrowed.states;
  valid = valid;
  pairs = narrowed.pairs;
  some = λ yes. fewer_pairs R S p q was valid (λ r s k. ((narrowed.pairs r s).0 k).0) held (λ k. false≢true (sym out ∙ ((narrowed.pairs p q).0 k).1 refl));
  same = λ no. absurd (false≢true (sym no));
}

-- it has all the states of p
pub row_passes : (R : Pairing) (p : ℕ) (row : List ℕ) → IsPairing R → ((q : ℕ) → Holds R.pairs p q → HasBit row q) → IsFiltered R R p (λ s. HasBit row s) false
row_passes R p row valid passes = record {
  places = refl;
  states = refl;
  valid = valid;
  pairs = λ r s. (λ held. (held, λ e. passes s (subst (λ x. Holds R.pairs x s) e held)), λ both. both.0);
  some = λ yes. absurd (false≢true yes);
  same = λ no. refl;
}

module _ (L A : Automaton) where
  pub takes_none : (R : Pairing) → IsPairing R → TakesAway L A R R
  takes_none R valid = record { places = refl; states = refl; valid = valid; within = λ p q h. h; leaves = λ X right inside. inside }

  pub takes_then : (R S T : Pairing) → TakesAway L A R S → TakesAway L A S T → TakesAway L A R T
  takes_then R S T first second = record {
    places = second.places ∙ first.places;
    states = second.states ∙ first.states;
    valid = second.valid;
    within = λ p q h. first.within p q (second.within p q h);
    leaves = λ X right inside. second.leaves X right (first.leaves X right inside);
  }

  -- the pairs of p went from whose right state no move by the letter a answers one of p to p' by a pair of an older relation
  pub filter_takes :
      (old R S : Pairing) (p a p' : ℕ) (row : List ℕ) (changed : Bool)
      → Moves L p a p'
      → ((q : ℕ) → Holds R.pairs p' q → Holds old.pairs p' q)
      → ((q : ℕ) → Holds R.pairs p q → HasBit row q ↔ IsAnsweredIn A (Holds old.pairs) q a p')
      → IsFiltered R S p (λ q. HasBit row q) changed
      → TakesAway L A R S
  filter_takes old R S p a p' row changed move within answers f = record {
    places = f.places;
    states = f.states;
    valid = f.valid;
    within = λ r s h. ((f.pairs r s).0 h).0;
    leaves = λ X right inside r s h. (f.pairs r s).1 (
      inside r s h,
      λ e.
          let answer = right.answers p s a p' (subst (λ x. HoldsPlacePair X x s) e h) move in
          (answers s (subst (λ x. Holds R.pairs x s) e (inside r s h))).1 (answer.0, answer.1, within answer.0 (inside p' answer.0 answer.2)),
    );
  }

  -- moves to a state stay answered as long as its row keeps its pairs
  pub into_stays :
      (R S : Pairing) (x : ℕ)
      → ((p q : ℕ) → Holds S.pairs p q → Holds R.pairs p q)
      → ((q : ℕ) → Holds R.pairs x q → Holds S.pairs x q)
      → IsAnsweredInto L A (Holds R.pairs) x
      → IsAnsweredInto L A (Holds S.pairs) x
  into_stays R S x within keeps h p a q move held = let answer = h p a q move (within p q held) in (answer.0, answer.1, keeps answer.0 answer.2)

  pub all_answered : (R : Pairing) (marks : List ℕ) → ((x : ℕ) → x < L.states → bit_of marks x ≡ false) → IsAnsweredBesides L A (Holds R.pairs) marks → ((p a p' : ℕ) → Moves L p a p' → p' < L.states) → (p q : ℕ) → Holds R.pairs p q → AnswersAll L A (Holds R.pairs) p q
  all_answered R marks clear besides range p q held a p' move = besides p' (range p a p' move) (clear p' (range p a p' move)) p a q move held

  pub tries_none : (R : Pairing) (marks : List ℕ) → IsPairing R → Tries L A R R marks marks false
  tries_none R marks valid = record {
    takes = takes_none R valid;
    upto = omega arith;
    some = λ yes. absurd (false≢true yes);
    same = λ no. refl;
    marked = λ x clear. clear;
  }

  -- tried again, and pairs went now
  pub tries_more :
      (R S T : Pairing) (m m' m'' : List ℕ) (any : Bool)
      → Tries L A R S m m' any
      → TakesAway L A S T
      → length T.pairs < length S.pairs
      → ((x : ℕ) → bit_of m'' x ≡ false → bit_of m' x ≡ false)
      → Tries L A R T m m'' true
  tries_more R S T m m' m'' any h takes fell marked =
      let upto = h.upto in
      record {
        takes = takes_then R S T h.takes takes;
        upto = omega arith;
        some = λ yes. omega arith;
        same = λ no. absurd (false≢true (sym no));
        marked = λ x clear. h.marked x (marked x clear);
      }

  -- none went now
  pub tries_same :
      (R S T : Pairing) (m m' m'' : List ℕ) (any : Bool)
      → Tries L A R S m m' any
      → TakesAway L A S T
      → length T.pairs ≤ length S.pairs
      → m'' ≡ m'
      → Tries L A R T m m'' any
  tries_same R S T m m' m'' any h takes less marks =
      let upto = h.upto in
      record {
        takes = takes_then R S T h.takes takes;
        upto = omega arith;
        some = λ yes. let fell = h.some yes in omega arith;
        same = λ no. marks ∙ h.same no;
        marked = λ x clear. h.marked x (sym (ap (λ m. bit_of m x) marks) ∙ clear);
      }

  -- Rows that lost pairs are marked: moves to the others stay answered.
  pub under_way_stays :
      (to : ℕ) (old R S : Pairing) (marks marks' : List ℕ)
      → IsPlaceUnderWay L A to old R marks
      → ((p q : ℕ) → Holds S.pairs p q → Holds R.pairs p q)
      → ((x : ℕ) → bit_of marks' x ≡ false → (bit_of marks x ≡ false) × ((q : ℕ) → Holds R.pairs x q → Holds S.pairs x q))
      → IsPlaceUnderWay L A to old S marks'
  under_way_stays to old R S marks marks' h within marked = record {
    others = λ x x_in apart clear. let m = marked x clear in into_stays R S x within m.1 (h.others x x_in apart m.0);
    still = λ clear q held. let m = marked to clear in m.1 q (h.still m.0 q held);
  }

-- The first n moves into the state are answered by pairs of an older relation.
abbrev pub HasAnswered : Automaton → Automaton → ℕ → List ℕ → Pairing → Pairing → ℕ → Type 0
HasAnswered L A to ns old R n =
    (k q : ℕ) → k < n → Holds R.pairs (trans_at L (get_or ns k 0)).source q → IsAnsweredIn A (Holds old.pairs) q (trans_at L (get_or ns k 0)).label to

-- The row of the i-th move's source was filtered.
pub answered_more :
    (L A : Automaton) (to : ℕ) (ns row : List ℕ) (old R S : Pairing) (i : ℕ) (b : Bool)
    → HasAnswered L A to ns old R i
    → IsFiltered R S (trans_at L (get_or ns i 0)).source (λ q. HasBit row q) b
    → ((q : ℕ) → Holds R.pairs (trans_at L (get_or ns i 0)).source q → HasBit row q ↔ IsAnsweredIn A (Holds old.pairs) q (trans_at L (get_or ns i 0)).label to)
    → HasAnswered L A to ns old S (i + 1)
answered_more L A to ns row old R S i b h f answers k q lt held = elim (cases_eq k i) [
  | inl e ↦
      let both = (f.pairs (trans_at L (get_or ns i 0)).source q).0 (subst (λ j. Holds S.pairs (trans_at L (get_or ns j 0)).source q) e held) in
      subst (λ j. IsAnsweredIn A (Holds old.pairs) q (trans_at L (get_or ns j 0)).label to) (sym e) ((answers q both.0).0 (both.1 refl))
  | inr apart ↦ h k q (omega arith) ((f.pairs (trans_at L (get_or ns k 0)).source q).0 held).0
]
