-- Duplicator's replies, and a round from a set of states in which Duplicator may be.
use Rattle.std.specs.Prelude.{◌≡◌, ℕ, ◌+◌, ◌*◌, ◌<◌, ◌≤◌, List, ◌∷◌, length}
use Rattle.auto_core.specs.Rows.{cell_of, HasBit, HasCell}
use Rattle.auto_core.specs.Run.{PathBy}
use Rattle.auto_core.specs.Game.{MayShow, Answers}

-- From q Duplicator answers by r the move of Spoiler by the letter a to p.
abbrev pub IsReply : (ℕ → ℕ → ℕ → Type 0) → (ℕ → ℕ → Type 0) → ℕ → ℕ → ℕ → ℕ → Type 0
IsReply M ok a p q r = M q a r × ok p r

-- In the table whose rows have `width` words, row i has the state q, which is below n.
abbrev pub HasReply : List ℕ → ℕ → ℕ → ℕ → ℕ → Type 0
HasReply table n width i q = (q < n) × HasCell table width i q

-- The row has the state q, which is below n.
abbrev pub IsInRow : List ℕ → ℕ → ℕ → Type 0
IsInRow row n q = (q < n) × HasBit row q

-- Duplicator answers the path from one of the states of D.
abbrev pub AnswersFrom : (ℕ → ℕ → ℕ → Type 0) → (ℕ → ℕ → Type 0) → (ℕ → ℕ → Type 0) → (ℕ → Type 0)
    → List ℕ → List ℕ → Type 0
AnswersFrom M ok W D w ps = (q : ℕ) × D q × Answers M ok W q w ps

-- Each path of n moves from p, or shorter one to a dead end, is answered from one of the states of
-- D.
abbrev pub RoundFrom : (ℕ → ℕ → ℕ → Type 0) → (ℕ → ℕ → Type 0) → (ℕ → ℕ → Type 0) → ℕ → ℕ
    → (ℕ → Type 0) → Type 0
RoundFrom M ok W n p D =
    (w ps : List ℕ) → PathBy M p w ps → MayShow M n p w ps → AnswersFrom M ok W D w ps

-- The same for the paths whose first move is by the letter a to p.
abbrev pub RoundAfter : (ℕ → ℕ → ℕ → Type 0) → (ℕ → ℕ → Type 0) → (ℕ → ℕ → Type 0) → ℕ → ℕ → ℕ
    → (ℕ → Type 0) → Type 0
RoundAfter M ok W n a p D =
    (w ps : List ℕ) → PathBy M p w ps → MayShow M n p (a ∷ w) (p ∷ ps)
    → AnswersFrom M ok W D (a ∷ w) (p ∷ ps)

-- Each row up to row n fits into the table.
abbrev pub HasRows : List ℕ → ℕ → ℕ → Type 0
HasRows table width n = (i : ℕ) → i ≤ n → i * width + width ≤ length table

-- The rows up to row n are the same in both tables.
abbrev pub KeepsRows : List ℕ → List ℕ → ℕ → ℕ → Type 0
KeepsRows old new width n =
    (i q : ℕ) → i ≤ n → q < width * 64 → cell_of new width i q ≡ cell_of old width i q

-- One of the states of D answers by r.
abbrev pub HasReplyFrom : (ℕ → ℕ → ℕ → Type 0) → (ℕ → ℕ → Type 0) → ℕ → ℕ → (ℕ → Type 0) → ℕ
    → Type 0
HasReplyFrom M ok a p D r = (q : ℕ) × D q × IsReply M ok a p q r

-- One of the states of D from `low` on and below `high` answers by r.
abbrev pub HasReplyWithin : (ℕ → ℕ → ℕ → Type 0) → (ℕ → ℕ → Type 0) → ℕ → ℕ → (ℕ → Type 0) → ℕ → ℕ
    → ℕ → Type 0
HasReplyWithin M ok a p D low high r = (q : ℕ) × (low ≤ q) × (q < high) × D q × IsReply M ok a p q r
