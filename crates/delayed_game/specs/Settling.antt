-- Taking pairs away that can be in no right relation.
use Rattle.std.specs.Prelude.{◌≡◌, ℕ, ◌*◌, ◌<◌, ◌≤◌, ◌↔◌, Bool, false, true, List, length, Some}
use Rattle.auto_core.specs.Automaton.{Automaton, Moves, IsAccepting}
use Rattle.auto_core.specs.Game.{Holds, IsWithin}
use Rattle.auto_core.specs.Rows.{bit_of, HasBit, HasCell}
use Rattle.delayed_game.specs.Across.{RankedPlacePairs, HoldsPlacePair, IsRightAcross}
use Rattle.delayed_game.specs.Pairings.{Pairing, IsPairing}
use Rattle.delayed_game.specs.Levels.{rank_in_table}

-- q answers the move by the letter a to the place y with a pair that R holds.
abbrev pub IsAnsweredIn : Automaton → (ℕ → ℕ → Type 0) → ℕ → ℕ → ℕ → Type 0
IsAnsweredIn A R q a y = (q' : ℕ) × Moves A q a q' × R y q'

-- q answers each move of the place x with a pair that R holds.
abbrev pub AnswersAll : Automaton → Automaton → (ℕ → ℕ → Type 0) → ℕ → ℕ → Type 0
AnswersAll L A R x q = (a y : ℕ) → Moves L x a y → IsAnsweredIn A R q a y

-- The pairs of the list of each right relation that were in the old one are in the new one.
abbrev pub LeavesRight : Automaton → Automaton → Pairing → Pairing → Type 0
LeavesRight L A old new =
    (X : RankedPlacePairs) → IsRightAcross L A X
    → ((x q : ℕ) → HoldsPlacePair X x q → Holds old.pairs x q)
    → (x q : ℕ) → HoldsPlacePair X x q → Holds new.pairs x q

-- The relation lost pairs, but none that is in a right relation inside the old one.
pub record TakesAway (L A : Automaton) (old new : Pairing) : Type 0 where
  pub places : new.places ≡ old.places
  pub states : new.states ≡ old.states
  pub valid : IsPairing new
  pub within : IsWithin new.pairs old.pairs
  pub leaves : LeavesRight L A old new

-- Of the pairs of p those stay whose right state passes, and all other pairs; `changed` tells
-- whether any went.
pub record IsFiltered (old new : Pairing) (p : ℕ) (P : ℕ → Type 0) (changed : Bool) : Type 0 where
  pub places : new.places ≡ old.places
  pub states : new.states ≡ old.states
  pub valid : IsPairing new
  pub pairs : (r s : ℕ) → Holds new.pairs r s ↔ (Holds old.pairs r s × (r ≡ p → P s))
  pub some : changed ≡ true → length new.pairs < length old.pairs
  pub same : changed ≡ false → new ≡ old

-- Each move to y is answered, from each state that R relates the source of the move to.
abbrev pub IsAnsweredInto : Automaton → Automaton → (ℕ → ℕ → Type 0) → ℕ → Type 0
IsAnsweredInto L A R y = (x a q : ℕ) → Moves L x a y → R x q → IsAnsweredIn A R q a y

-- So is each move to a place that is not marked.
abbrev pub IsAnsweredBesides : Automaton → Automaton → (ℕ → ℕ → Type 0) → List ℕ → Type 0
IsAnsweredBesides L A R marks =
    (y : ℕ) → y < L.states → bit_of marks y ≡ false → IsAnsweredInto L A R y

-- In the table the rows of the places in `tried` have states alone, and each move to one of these
-- places is answered by a move to a state that its row has.
pub record KeptRowsAnswer (L A : Automaton) (w : ℕ) (kept tried : List ℕ)
    (R : Pairing) : Type 0 where
  pub columns : (y q : ℕ) → y < L.states → HasBit tried y → q < w * 64 → HasCell kept w y q
      → q < A.states
  pub answered : (x a y q : ℕ) → y < L.states → HasBit tried y → Moves L x a y → Holds R.pairs x q
      → IsAnsweredIn A (HasCell kept w) q a y

-- While the moves to one place are tried: moves to the other places are answered, if they are not
-- marked, and this place lost no pair as long as it is not marked.
pub record IsPlaceUnderWay (L A : Automaton) (to : ℕ) (old R : Pairing)
    (marks : List ℕ) : Type 0 where
  pub others : (x : ℕ) → x < L.states → ¬ (x ≡ to) → bit_of marks x ≡ false
      → IsAnsweredInto L A (Holds R.pairs) x
  pub still : bit_of marks to ≡ false → (q : ℕ) → Holds old.pairs to q → Holds R.pairs to q

-- Pairs went, but none that is in a right relation inside the old one; `any` tells whether any
-- went, and else the marks stay. No mark went.
pub record Tries (L A : Automaton) (old new : Pairing) (marks marks' : List ℕ)
    (any : Bool) : Type 0 where
  pub takes : TakesAway L A old new
  pub upto : length new.pairs ≤ length old.pairs
  pub some : any ≡ true → length new.pairs < length old.pairs
  pub same : any ≡ false → marks' ≡ marks
  pub marked : (x : ℕ) → bit_of marks' x ≡ false → bit_of marks x ≡ false

-- The pair has a rank.
abbrev pub HasSomeRank : List ℕ → ℕ → ℕ → ℕ → Type 0
HasSomeRank ranks n p q = (r : ℕ) × (rank_in_table ranks n p q ≡ Some r)

-- The pairs went whose place is accepting and that have no rank, and the rows that lost pairs are
-- marked.
pub record Drops (L : Automaton) (n : ℕ) (ranks : List ℕ) (old new : Pairing)
    (marks marks' : List ℕ) : Type 0 where
  pub places : new.places ≡ old.places
  pub states : new.states ≡ old.states
  pub valid : IsPairing new
  pub within : IsWithin new.pairs old.pairs
  pub stays : (p q : ℕ) → Holds old.pairs p q → (IsAccepting L p → HasSomeRank ranks n p q)
      → Holds new.pairs p q
  pub ranked : (p q : ℕ) → Holds new.pairs p q → IsAccepting L p → HasSomeRank ranks n p q
  pub marked : (p : ℕ) → bit_of marks' p ≡ false
      → (bit_of marks p ≡ false) × ((q : ℕ) → Holds old.pairs p q → Holds new.pairs p q)
