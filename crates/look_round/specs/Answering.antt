-- Which states answer a move at once.
use Rattle.std.specs.Prelude.{◌≡◌, ℕ, ◌+◌, ◌*◌, ◌/◌, ◌<◌, ◌↔◌}
use Rattle.auto_core.specs.Rows.{HasCell}
use Rattle.look_round.specs.ReplyLists.{AreReplyLists}
use Rattle.look_round.specs.declared.answering.Answering.{Answering}

-- From q the move by the letter a to p is answered by a matched state that W relates p to: then no
-- further move is needed.
abbrev pub IsAnsweredAtOnce : (ℕ → ℕ → ℕ → Type 0) → (ℕ → ℕ → Type 0) → (ℕ → ℕ → Type 0) → ℕ → ℕ → ℕ
    → Type 0
IsAnsweredAtOnce M ok W a p q = (r : ℕ) × M q a r × ok p r × W p r

-- For each letter the row of p tells which states answer a move by it to p at once.
abbrev pub IsRowOfAnswers : (ℕ → ℕ → ℕ → Type 0) → (ℕ → ℕ → Type 0) → (ℕ → ℕ → Type 0) → Answering
    → ℕ → Type 0
IsRowOfAnswers M ok W rows p = (a q : ℕ) → a < rows.labels → q < rows.width * 64
    → HasCell rows.table.items (rows.labels * rows.width) p (a * rows.width * 64 + q)
    ↔ IsAnsweredAtOnce M ok W a p q

-- The rows are of n states each, and right for each state that has one; and so are the lists of
-- replies.
pub record AreRowsOfAnswers (M : ℕ → ℕ → ℕ → Type 0) (ok W : ℕ → ℕ → Type 0) (n : ℕ)
    (rows : Answering) : Type 0 where
  pub width : rows.width ≡ (n + 63) / 64
  pub each : (p : ℕ) → p < rows.kept → IsRowOfAnswers M ok W rows p
  pub lists : AreReplyLists M ok n rows.lists
