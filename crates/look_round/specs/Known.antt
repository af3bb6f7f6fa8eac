-- What a round has found out: the replies of rows of states, and moves that these answer.
use Rattle.std.specs.Prelude.{◌≡◌, ℕ, ◌+◌, ◌*◌, ◌/◌, ◌<◌, ◌↔◌, ◌⊎◌, List, slice_index}
use Rattle.auto_core.specs.Rows.{bit_of, cell_of, HasBit, HasCell}
use Rattle.look_round.specs.Replies.{HasReply, HasReplyFrom, RoundAfter}
use Rattle.look_round.specs.declared.known.Known.{Known}

-- Of the numbers the one at place l is x now, and the others are as before.
abbrev pub IsSetAt : List ℕ → List ℕ → ℕ → ℕ → Type 0
IsSetAt old new l x =
    (slice_index new l ≡ x) × ((i : ℕ) → ¬ (i ≡ l) → slice_index new i ≡ slice_index old i)

-- Place l is for moves by the letter a where so many are left, and for the states of `row`; rows
-- have w words.
abbrev pub IsHeld : ℕ → Known → ℕ → ℕ → ℕ → List ℕ → Type 0
IsHeld w known l left a row =
    (slice_index known.lefts.items l ≡ left)
    × (slice_index known.letters.items l ≡ a)
    × ((q : ℕ) → q < w * 64 → cell_of known.held.items w l q ≡ bit_of row q)

-- Besides, it is in use, and for moves to a state that asks for the same as p.
pub record IsFor (ok : ℕ → ℕ → Type 0) (known : Known) (l left a p : ℕ) (row : List ℕ) : Type 0
  where
    pub used : HasBit known.used.items l
    pub held : IsHeld known.width known l left a row
    pub alike : (r : ℕ) → ok p r ↔ ok (slice_index known.targets.items l) r

-- Each place that is in use has the replies, below n, of the states of its row to a move to its
-- state, which is below n.
pub record AreReplies (M : ℕ → ℕ → ℕ → Type 0) (ok : ℕ → ℕ → Type 0) (n : ℕ) (known : Known)
    : Type 0 where
  pub targets : (l : ℕ) → HasBit known.used.items l → slice_index known.targets.items l < n
  pub each : (l r : ℕ) → HasBit known.used.items l
      → HasReply known.replies.items n known.width l r
      ↔ HasReplyFrom M ok (slice_index known.letters.items l) (slice_index known.targets.items l)
      (HasReply known.held.items n known.width l) r

-- Besides, rows are of n states each, and what a place has as answered is answered from its row.
pub record AreKnown (M : ℕ → ℕ → ℕ → Type 0) (ok W : ℕ → ℕ → Type 0) (n : ℕ) (known : Known)
    : Type 0 where
  pub width : known.width ≡ (n + 63) / 64
  pub replies : AreReplies M ok n known
  pub answered : (l p : ℕ) → HasBit known.used.items l → p < known.width * 64
      → HasCell known.answered.items known.width l p
      → RoundAfter M ok W (slice_index known.lefts.items l) (slice_index known.letters.items l) p
      (HasReply known.held.items n known.width l)

-- A place still stands for the same moves and the same states.
abbrev pub IsAsBefore : Known → Known → ℕ → Type 0
IsAsBefore old new l =
    (slice_index new.lefts.items l ≡ slice_index old.lefts.items l)
    × (slice_index new.letters.items l ≡ slice_index old.letters.items l)
    × ((q : ℕ) → q < old.width * 64
    → cell_of new.held.items old.width l q ≡ cell_of old.held.items old.width l q)

-- What is answered now was so before.
pub record KeepsAnswered (old new : Known) : Type 0 where
  pub width : new.width ≡ old.width
  pub each : (l q : ℕ) → q < old.width * 64 → HasBit new.used.items l
      → HasCell new.answered.items old.width l q
      → HasBit old.used.items l × HasCell old.answered.items old.width l q × IsAsBefore old new l

-- What is answered now was so before, or is the move by the letter a to p from the states of `row`.
pub record Notes (old new : Known) (left a p : ℕ) (row : List ℕ) : Type 0 where
  pub width : new.width ≡ old.width
  pub each : (l q : ℕ) → q < old.width * 64 → HasBit new.used.items l
      → HasCell new.answered.items old.width l q
      → ((q ≡ p) × IsHeld old.width new l left a row)
      ⊎ (HasBit old.used.items l × HasCell old.answered.items old.width l q × IsAsBefore old new l)
