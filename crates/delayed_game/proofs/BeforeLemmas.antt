-- Rows of states before a row, and rows of ranks.
use Rattle.std.proofs.Common.{◌≡◌, ℕ, ◌+◌, ◌*◌, ◌<◌, ◌≤◌, ◌⊎◌, ◌↔◌, inl, inr, true, List, Some, suc, length, get_or, set, refl, sym, ap, ◌∙◌, subst, arith}
use Rattle.std.proofs.lemmas.Bool.{cases_eq, cases_lt, false≢true}
use Rattle.std.proofs.lemmas.Nat.{same_from_place, mul-add-lt}
use Rattle.std.proofs.Math.Nat.{mul_comm}
use Rattle.std.proofs.lemmas.List.{get_or-set_same, get_or-set_other}
use Rattle.auto_core.specs.Automaton.{Automaton, Moves, trans_at}
use Rattle.auto_core.specs.Rows.{bit_of, cell_of, HasBit, HasCell}
use Rattle.auto_core.specs.Game.{Holds}
use Rattle.auto_core.proofs.BitLemmas.{bit_past}
use Rattle.delayed_game.specs.Pairings.{Pairing, IsPairing, Removes}
use Rattle.delayed_game.proofs.BoardLemmas.{fewer_pairs, no_more_pairs}
use Rattle.bit_rows.specs.Walks.{IsNextBit}
use Rattle.delayed_game.specs.Levels.{rank_in_table}
use Rattle.auto_core.specs.Delayed.{rank_in_code}
use Rattle.delayed_game.specs.Before.{LeadsTo}
use Rattle.delayed_game.specs.Boards.{row_words, IsRanked, GivesRank}

-- past its words a row has no bit
pub bit_near : (row : List ℕ) (w q : ℕ) → length row ≡ w → HasBit row q → q < w * 64
bit_near row w q len bit = elim (cases_lt q (w * 64)) [
  | inl near ↦ near
  | inr past ↦ absurd (false≢true (sym (bit_past row q (omega arith)) ∙ bit))
]

-- One of the first of these transitions leaves q by the letter a.
abbrev pub HasFound : Automaton → List ℕ → ℕ → ℕ → ℕ → Type 0
HasFound A ns n a q = (k : ℕ) × (k < n) × ((trans_at A (get_or ns k 0)).label ≡ a) × ((trans_at A (get_or ns k 0)).source ≡ q)

both_or_not : (a q b r : ℕ) → ((a ≡ b) × (q ≡ r)) ⊎ ¬ ((a ≡ b) × (q ≡ r))
both_or_not a q b r = elim (cases_eq a b) [
  | inl e ↦ elim (cases_eq q r) [ inl f ↦ inl (e, f) | inr g ↦ inr (λ both. g both.1) ]
  | inr g ↦ inr (λ both. g both.0)
]

-- one more transition is marked
pub found_more :
    (A : Automaton) (ns : List ℕ) (i : ℕ) (old now new : List ℕ) (w a q label source : ℕ)
    → (trans_at A (get_or ns i 0)).label ≡ label
    → (trans_at A (get_or ns i 0)).source ≡ source
    → (HasCell now w a q ↔ (HasCell old w a q ⊎ HasFound A ns i a q))
    → cell_of new w label source ≡ true
    → (¬ ((a ≡ label) × (q ≡ source)) → cell_of new w a q ≡ cell_of now w a q)
    → HasCell new w a q ↔ (HasCell old w a q ⊎ HasFound A ns (i + 1) a q)
found_more A ns i old now new w a q label source by from was here others = elim (both_or_not a q label source) [
  | inl both ↦ (
    λ cell. inr (i, omega arith, by ∙ sym both.0, from ∙ sym both.1),
    λ either. subst (λ x. cell_of new w x q ≡ true) (sym both.0) (subst (λ x. cell_of new w label x ≡ true) (sym both.1) here),
  )
  | inr apart ↦ (
    λ cell. elim (was.0 (sym (others apart) ∙ cell)) [
      | inl first ↦ inl first
      | inr found ↦ let lt = found.1 in inr (found.0, omega arith, found.2, found.3)
    ],
    λ either. others apart ∙ was.1 (elim either [
      | inl first ↦ inl first
      | inr found ↦ elim (cases_eq found.0 i) [
        | inl f ↦ absurd (apart (
          sym found.2 ∙ ap (λ k. (trans_at A (get_or ns k 0)).label) f ∙ by,
          sym found.3 ∙ ap (λ k. (trans_at A (get_or ns k 0)).source) f ∙ from,
        ))
        | inr far ↦ let lt = found.1 in inr (found.0, omega arith, found.2, found.3)
      ]
    ]),
  )
]

-- the row of a letter by which a move leads to the state
pub row_leads :
    (L A : Automaton) (to : ℕ) (made ends row : List ℕ) (w p a label : ℕ)
    → Moves L p a to
    → label ≡ a
    → length row ≡ w
    → ((q : ℕ) → q < w * 64 → bit_of row q ≡ cell_of made w label q)
    → ((p a q : ℕ) → Moves L p a to → q < w * 64 → HasCell made w a q ↔ LeadsTo A a ends q)
    → ((q a q' : ℕ) → Moves A q a q' → q < w * 64)
    → (q : ℕ)
    → HasBit row q ↔ LeadsTo A a ends q
row_leads L A to made ends row w p a label move e len bits are room q = (
  λ bit. let near = bit_near row w q len bit in (are p a q move near).0 (subst (λ x. HasCell made w x q) e (sym (bits q near) ∙ bit)),
  λ leads. let near = room q a leads.0 leads.1 in bits q near ∙ subst (λ x. HasCell made w x q) (sym e) ((are p a q move near).1 leads),
)

-- Of the left state the pairs with states of the row below a place got the rank.
pub record HasGiven (unranked : Pairing) (ranks : List ℕ) (p : ℕ) (row : List ℕ) (rank : ℕ) (unranked' : Pairing) (ranks' : List ℕ) (at : ℕ) : Type 0 where
  pub places : unranked'.places ≡ unranked.places
  pub states : unranked'.states ≡ unranked.states
  pub valid : IsPairing unranked'
  pub len : length ranks' ≡ length ranks
  pub pairs : (r s : ℕ) → Holds unranked'.pairs r s ↔ (Holds unranked.pairs r s × ((r ≡ p) × (s < at) × HasBit row s → ⊥))
  pub table : (r s : ℕ) → r < unranked.places → s < unranked.states
      → ((r ≡ p) × (s < at) × HasBit row s × (rank_in_table ranks' unranked.states r s ≡ Some rank))
      ⊎ (((r ≡ p) × (s < at) × HasBit row s → ⊥) × (rank_in_table ranks' unranked.states r s ≡ rank_in_table ranks unranked.states r s))

-- The rank of one pair of the table is set.
pub rank_set :
    (ranks : List ℕ) (m n p q rank held at : ℕ)
    → held ≡ suc rank
    → length ranks ≡ m * n
    → p < m
    → q < n
    → at ≡ p * n + q
    → (r s : ℕ)
    → r < m
    → s < n
    → ((r ≡ p) × (s ≡ q) × (rank_in_table (set ranks at held) n r s ≡ Some rank))
    ⊎ (((r ≡ p) × (s ≡ q) → ⊥) × (rank_in_table (set ranks at held) n r s ≡ rank_in_table ranks n r s))
rank_set ranks m n p q rank held at next len p_in q_in is r s r_in s_in = elim (cases_eq (r * n + s) at) [
  | inl e ↦
      let same = same_from_place r s p q n s_in q_in (e ∙ is) in
      let inside : at < length ranks = omega (arith, mul-add-lt p n q m p_in q_in, mul_comm n m, len, is) in
      inl (same.0, same.1, ap (λ i. rank_in_code (get_or (set ranks at held) i 0)) e ∙ ap (λ h. rank_in_code h) (get_or-set_same ranks at held 0 inside ∙ next))
  | inr far ↦ inr (
    λ these. far (ap (λ x. x * n + s) these.0 ∙ ap (λ y. p * n + y) these.1 ∙ sym is),
    ap (λ h. rank_in_code h) (get_or-set_other ranks at (r * n + s) held 0 far),
  )
]

pub given_none : (unranked : Pairing) (ranks : List ℕ) (p : ℕ) (row : List ℕ) (rank : ℕ) → IsPairing unranked → HasGiven unranked ranks p row rank unranked ranks 0
given_none unranked ranks p row rank valid = record {
  places = refl;
  states = refl;
  valid = valid;
  len = refl;
  pairs = λ r s. (λ h. (h, λ is. let lt = is.1 in absurd (omega arith)), λ both. both.0);
  table = λ r s r_in s_in. inr (λ is. let lt = is.1 in absurd (omega arith), refl);
}

pub given_more :
    (unranked now new : Pairing) (ranks ranks' ranks'' : List ℕ) (p : ℕ) (row : List ℕ) (rank at q : ℕ)
    → HasGiven unranked ranks p row rank now ranks' at
    → IsNextBit row at q
    → Removes now new p q
    → IsPairing new
    → length ranks'' ≡ length ranks'
    → ((r s : ℕ) → r < unranked.places → s < unranked.states
    → ((r ≡ p) × (s ≡ q) × (rank_in_table ranks'' unranked.states r s ≡ Some rank)) ⊎ (((r ≡ p) × (s ≡ q) → ⊥) × (rank_in_table ranks'' unranked.states r s ≡ rank_in_table ranks' unranked.states r s)))
    → HasGiven unranked ranks p row rank new ranks'' (q + 1)
given_more unranked now new ranks ranks' ranks'' p row rank at q h next removes valid len sets = record {
  places = removes.places ∙ h.places;
  states = removes.states ∙ h.states;
  valid = valid;
  len = len ∙ h.len;
  pairs = λ r s. (
    λ held.
        let two = (removes.pairs r s).0 held in
        let was = (h.pairs r s).0 two.0 in (
          was.0,
          λ is. elim (cases_eq s q) [
            | inl e ↦ two.1 (is.0, e)
            | inr apart ↦ elim (cases_lt s at) [
              | inl before ↦ was.1 (is.0, before, is.2)
              | inr from ↦ let lt = is.1 in false≢true (sym (next.none_between s from (omega arith)) ∙ is.2)
            ]
          ],
        ),
    λ both. (removes.pairs r s).1 (
      (h.pairs r s).1 (both.0, λ is. let lt = is.1 in let le = next.behind in both.1 (is.0, omega arith, is.2)),
      λ is. let e = is.1 in both.1 (is.0, omega arith, subst (λ x. HasBit row x) (sym is.1) next.here),
    ),
  );
  table = λ r s r_in s_in. elim (sets r s r_in s_in) [
    | inl here ↦ let e = here.1 in inl (here.0, omega arith, subst (λ x. HasBit row x) (sym here.1) next.here, here.2)
    | inr far ↦ elim (h.table r s r_in s_in) [
      | inl given ↦ let lt = given.1 in let le = next.behind in inl (given.0, omega arith, given.2, far.1 ∙ given.3)
      | inr kept ↦ inr (
        λ is. elim (cases_eq s q) [
          | inl e ↦ far.0 (is.0, e)
          | inr apart ↦ elim (cases_lt s at) [
            | inl before ↦ kept.0 (is.0, before, is.2)
            | inr from ↦ let lt = is.1 in false≢true (sym (next.none_between s from (omega arith)) ∙ is.2)
          ]
        ],
        far.1 ∙ kept.1,
      )
    ]
  ];
}

module _ (L A : Automaton) (S : ℕ → ℕ → Type 0) (rank : ℕ) (unranked : Pairing) (ranks : List ℕ) where
  -- The rows below p are done.
  pub record GivesUpto (unranked' : Pairing) (ranks' : List ℕ) (fresh : List ℕ) (p : ℕ) : Type 0 where
    pub places : unranked'.places ≡ unranked.places
    pub states : unranked'.states ≡ unranked.states
    pub valid : IsPairing unranked'
    pub len : length ranks' ≡ length ranks
    pub pairs : (r s : ℕ) → Holds unranked'.pairs r s ↔ (Holds unranked.pairs r s × ((r < p) × S r s → ⊥))
    pub table : (r s : ℕ) → r < L.states → s < A.states
        → ((r < p) × S r s × IsRanked A ranks' r s rank) ⊎ (((r < p) × S r s → ⊥) × (rank_in_table ranks' A.states r s ≡ rank_in_table ranks A.states r s))
    pub rows : (r s : ℕ) → r < p → s < A.states → HasCell fresh (row_words A) r s ↔ S r s
    pub columns : (r s : ℕ) → r < p → s < row_words A * 64 → HasCell fresh (row_words A) r s → s < A.states

  pub gives_none : (fresh : List ℕ) → IsPairing unranked → GivesUpto unranked ranks fresh 0
  gives_none fresh valid = record {
    places = refl;
    states = refl;
    valid = valid;
    len = refl;
    pairs = λ r s. (λ h. (h, λ is. let lt = is.0 in absurd (omega arith)), λ both. both.0);
    table = λ r s r_in s_in. inr (λ is. let lt = is.0 in absurd (omega arith), refl);
    rows = λ r s below. absurd (omega arith);
    columns = λ r s below. absurd (omega arith);
  }

  pub gives_row :
      (now new : Pairing) (ranks' ranks'' : List ℕ) (fresh fresh' row : List ℕ) (p : ℕ)
      → unranked.places ≡ L.states
      → unranked.states ≡ A.states
      → p < L.states
      → A.states ≤ row_words A * 64
      → GivesUpto now ranks' fresh p
      → ((q : ℕ) → HasBit row q ↔ S p q)
      → ((q : ℕ) → S p q → q < A.states)
      → ((q : ℕ) → q < row_words A * 64 → cell_of fresh' (row_words A) p q ≡ bit_of row q)
      → ((r q : ℕ) → q < row_words A * 64 → ¬ (r ≡ p) → cell_of fresh' (row_words A) r q ≡ cell_of fresh (row_words A) r q)
      → new.places ≡ now.places
      → new.states ≡ now.states
      → IsPairing new
      → length ranks'' ≡ length ranks'
      → ((r s : ℕ) → Holds new.pairs r s ↔ (Holds now.pairs r s × ((r ≡ p) × HasBit row s → ⊥)))
      → ((r s : ℕ) → r < now.places → s < now.states
      → ((r ≡ p) × HasBit row s × (rank_in_table ranks'' now.states r s ≡ Some rank))
      ⊎ (((r ≡ p) × HasBit row s → ⊥) × (rank_in_table ranks'' now.states r s ≡ rank_in_table ranks' now.states r s)))
      → GivesUpto new ranks'' fresh' (p + 1)
  gives_row now new ranks' ranks'' fresh fresh' row p places size p_in room h bits right here others same_places same valid len opens gives = record {
    places = same_places ∙ h.places;
    states = same ∙ h.states;
    valid = valid;
    len = len ∙ h.len;
    pairs = λ r s. (
      λ held.
          let two = (opens r s).0 held in
          let was = (h.pairs r s).0 two.0 in (
            was.0,
            λ is. elim (cases_eq r p) [
              | inl e ↦ two.1 (e, (bits s).1 (subst (λ x. S x s) e is.1))
              | inr apart ↦ let lt = is.0 in was.1 (omega arith, is.1)
            ],
          ),
      λ both. (opens r s).1 (
        (h.pairs r s).1 (both.0, λ is. let lt = is.0 in both.1 (omega arith, is.1)),
        λ is. let e = is.0 in both.1 (omega arith, subst (λ x. S x s) (sym is.0) ((bits s).0 is.1)),
      ),
    );
    table = λ r s r_in s_in. elim (at_states r s r_in s_in) [
      | inl given ↦ let e = given.0 in inl (omega arith, subst (λ x. S x s) (sym given.0) ((bits s).0 given.1), given.2)
      | inr kept ↦ elim (h.table r s r_in s_in) [
        | inl old ↦ let lt = old.0 in inl (omega arith, old.1, kept.1 ∙ old.2)
        | inr out ↦ inr (
          λ is. elim (cases_eq r p) [
            | inl e ↦ kept.0 (e, (bits s).1 (subst (λ x. S x s) e is.1))
            | inr apart ↦ let lt = is.0 in out.0 (omega arith, is.1)
          ],
          kept.1 ∙ out.1,
        )
      ]
    ];
    rows = λ r s below s_in. elim (cases_eq r p) [
      | inl e ↦
          let P : ℕ → Type 0 = λ x. HasCell fresh' (row_words A) x s ↔ S x s in
          subst P (sym e) (λ cell. (bits s).0 (sym (here s (omega arith)) ∙ cell), λ is. here s (omega arith) ∙ (bits s).1 is)
      | inr apart ↦
          let was = h.rows r s (omega arith) s_in in
          (λ cell. was.0 (sym (others r s (omega arith) apart) ∙ cell), λ is. others r s (omega arith) apart ∙ was.1 is)
    ];
    columns = λ r s below near cell. elim (cases_eq r p) [
      | inl e ↦ right s ((bits s).0 (sym (here s near) ∙ subst (λ x. HasCell fresh' (row_words A) x s) e cell))
      | inr apart ↦ h.columns r s (omega arith) near (sym (others r s near apart) ∙ cell)
    ];
  }
    where
      at_states : (r s : ℕ) → r < L.states → s < A.states
          → ((r ≡ p) × HasBit row s × IsRanked A ranks'' r s rank)
          ⊎ (((r ≡ p) × HasBit row s → ⊥) × (rank_in_table ranks'' A.states r s ≡ rank_in_table ranks' A.states r s))
      at_states r s r_in s_in =
          let n_is : now.states ≡ A.states = h.states ∙ size in
          let m_is : now.places ≡ L.states = h.places ∙ places in
          let P : ℕ → Type 0 = λ n. ((r ≡ p) × HasBit row s × (rank_in_table ranks'' n r s ≡ Some rank)) ⊎ (((r ≡ p) × HasBit row s → ⊥) × (rank_in_table ranks'' n r s ≡ rank_in_table ranks' n r s)) in
          subst P n_is (gives r s (omega arith) (omega arith))

  pub gives_all :
      (unranked' : Pairing) (ranks' : List ℕ) (fresh : List ℕ) (p : ℕ)
      → L.states ≤ p
      → ((r s : ℕ) → S r s → r < L.states)
      → GivesUpto unranked' ranks' fresh p
      → GivesRank L A S rank unranked ranks unranked' ranks' fresh
  gives_all unranked' ranks' fresh p all below h = record {
    places = h.places;
    states = h.states;
    valid = h.valid;
    len = h.len;
    pairs = λ r s. (
      λ held. let was = (h.pairs r s).0 held in (was.0, λ is. let lt = below r s is in was.1 (omega arith, is)),
      λ both. (h.pairs r s).1 (both.0, λ is. both.1 is.1),
    );
    table = λ r s r_in s_in. elim (h.table r s r_in s_in) [
      | inl given ↦ inl (given.1, given.2)
      | inr kept ↦ inr (λ is. kept.0 (omega arith, is), kept.1)
    ];
    rows = λ r s r_in s_in. h.rows r s (omega arith) s_in;
    columns = λ r s r_in. h.columns r s (omega arith);
  }

  pub gives_fewer :
      (now new : Pairing) (p q : ℕ)
      → IsPairing now
      → IsPairing new
      → (row : List ℕ)
      → HasBit row q
      → Holds now.pairs p q
      → ((r s : ℕ) → Holds new.pairs r s ↔ (Holds now.pairs r s × ((r ≡ p) × HasBit row s → ⊥)))
      → length new.pairs < length now.pairs
  gives_fewer now new p q valid after row bit held opens = fewer_pairs now new p q valid after (λ r s h. ((opens r s).0 h).0) held (λ h. ((opens p q).0 h).1 (refl, bit))

  pub gives_no_more :
      (now new : Pairing) (p : ℕ) (row : List ℕ)
      → IsPairing now
      → IsPairing new
      → ((r s : ℕ) → Holds new.pairs r s ↔ (Holds now.pairs r s × ((r ≡ p) × HasBit row s → ⊥)))
      → length new.pairs ≤ length now.pairs
  gives_no_more now new p row valid after opens = no_more_pairs now new valid after (λ r s h. ((opens r s).0 h).0)
