-- Short words that states have, and the bound that they give on what a stable list can relate.
use Rattle.std.specs.Prelude.{◌≡◌, ℕ, ◌*◌, ◌<◌, ◌≤◌, ◌↔◌, List, [], ◌∷◌}
use Rattle.auto_core.specs.Rows.{cell_of, HasBit, HasCell}
use Rattle.auto_core.specs.Game.{Stable, Holds, ArePairsBelow, IsWithin}
use Rattle.bit_rel.specs.Relation.{Relation, IsRelation}

-- An *asked word* is a list of letters, each with the state that the one it leads to has to match.
-- From p the moves M go on by the letters of such a word, through states that match.
abbrev pub GoesByWord : (ℕ → ℕ → ℕ → Type 0) → (ℕ → ℕ → Type 0) → ℕ → List (ℕ × ℕ) → Type 0
GoesByWord M ok p [] = Unit {0}
GoesByWord M ok p (x ∷ w) = (r : ℕ) × M p x.0 r × ok x.1 r × GoesByWord M ok r w

-- Row i of the table, a column of bits on states, is on just those of the n states that have one
-- asked word.
abbrev pub IsColumn : (ℕ → ℕ → ℕ → Type 0) → (ℕ → ℕ → Type 0) → ℕ → List ℕ → ℕ → ℕ → Type 0
IsColumn M ok n table width i =
    (w : List (ℕ × ℕ)) × ((q : ℕ) → q < n → HasCell table width i q ↔ GoesByWord M ok q w)

-- The first rows of the table are such columns, so many of them.
abbrev pub AreColumns : (ℕ → ℕ → ℕ → Type 0) → (ℕ → ℕ → Type 0) → ℕ → List ℕ → ℕ → ℕ → Type 0
AreColumns M ok n table width count = (i : ℕ) → i < count → IsColumn M ok n table width i

-- The first m rows of the table hold just those of the n states that match the row's own.
abbrev pub AreMatches : (ℕ → ℕ → Type 0) → ℕ → List ℕ → ℕ → ℕ → Type 0
AreMatches ok n table width m =
    (p q : ℕ) → p < m → q < width * 64 → HasCell table width p q ↔ ((q < n) × ok p q)

-- Each of the first places is on just those of the n states that have one asked word; place j of
-- state q is bit j of the word of q, one of its 64 places.
abbrev pub AreWordPlaces : (ℕ → ℕ → ℕ → Type 0) → (ℕ → ℕ → Type 0) → ℕ → List ℕ → ℕ → Type 0
AreWordPlaces M ok n places used =
    (j : ℕ) → j < used
    → (w : List (ℕ × ℕ)) × ((q : ℕ) → q < n → HasCell places 1 q j ↔ GoesByWord M ok q w)

-- Each of the first places is on just those of the n states that one of the first columns is on.
abbrev pub AreColumnPlaces : ℕ → List ℕ → ℕ → List ℕ → ℕ → ℕ → Type 0
AreColumnPlaces n places used columns width count =
    (j : ℕ) → j < used
    → (i : ℕ) × (i < count) × ((q : ℕ) → q < n → HasCell places 1 q j ↔ HasCell columns width i q)

-- A move from q by the letter a leads to a state of the row that place j is on.
abbrev pub LeadsToPlace : (ℕ → ℕ → ℕ → Type 0) → List ℕ → List ℕ → ℕ → ℕ → ℕ → Type 0
LeadsToPlace M places asked a j q = (r : ℕ) × M q a r × HasBit asked r × HasCell places 1 r j

-- Columns were added, each one of the first rows of `made`, and the others stay.
pub record AddsColumns (old new : List ℕ) (width count more : ℕ) (made : List ℕ)
    (used : ℕ) : Type 0 where
  pub upward : count ≤ more
  pub kept : (i q : ℕ) → i < count → q < width * 64 → cell_of new width i q ≡ cell_of old width i q
  pub each : (i : ℕ) → count ≤ i → i < more
      → (a : ℕ) × (a < used)
      × ((q : ℕ) → q < width * 64 → cell_of new width i q ≡ cell_of made width a q)

-- Row p lost just what one of the first n columns has not that has p.
abbrev pub IsRowNarrowed : List ℕ → List ℕ → ℕ → List ℕ → ℕ → ℕ → Type 0
IsRowNarrowed old now width columns p n =
    (q : ℕ) → q < width * 64
    → HasCell now width p q
    ↔ (HasCell old width p q
    × ((k : ℕ) → k < n → HasCell columns width k p → HasCell columns width k q))

-- Row q of the table `had` is on just those of the first n columns that are on q.
abbrev pub HasColumns : List ℕ → ℕ → ℕ → List ℕ → ℕ → ℕ → Type 0
HasColumns columns width n had span q =
    (k : ℕ) → k < span * 64 → HasCell had span q k ↔ ((k < n) × HasCell columns width k q)

-- The relation is on n states and holds the pairs of the table's n rows.
pub record HoldsTable (table : List ℕ) (n width : ℕ) (R : Relation) : Type 0 where
  pub size : R.size ≡ n
  pub valid : IsRelation R
  pub pairs : (p q : ℕ) → Holds R.pairs p q ↔ ((p < n) × (q < width * 64) × HasCell table width p q)

-- The pairs are of states below n and match, and each stable list of pairs of such states is
-- inside, at any lookahead.
pub record IsBound (M : ℕ → ℕ → ℕ → Type 0) (ok : ℕ → ℕ → Type 0) (n : ℕ)
    (R : Relation) : Type 0 where
  pub size : R.size ≡ n
  pub valid : IsRelation R
  pub matching : (p q : ℕ) → Holds R.pairs p q → (p < n) × (q < n) × ok p q
  pub has_each : (k : ℕ) → 1 ≤ k → (T : List (ℕ × ℕ)) → ArePairsBelow n n T
      → Stable M M ok k (Holds T) → IsWithin T R.pairs
