-- Covering, arc by arc.
use Rattle.std.specs.Prelude.{◌≡◌, ℕ, ◌+◌, ◌*◌, ◌/◌, ◌<◌, [], ◌∷◌}
use Rattle.auto_core.specs.Graph.{Graph}
use Rattle.auto_core.specs.Rows.{HasBit}

-- An arc to t has an answer among the states of Q: one that S relates t to.
abbrev pub IsTargetAnswered : (ℕ → ℕ → Type 0) → (ℕ → Type 0) → ℕ → Type 0
IsTargetAnswered S Q t = (u : ℕ) × Q u × S t u

-- Each arc of R has an answer in Q, from the same state.
abbrev pub AnswersArcs : (ℕ → ℕ → Type 0) → (ℕ → ℕ → Type 0) → (ℕ → ℕ → Type 0) → Type 0
AnswersArcs S R Q = (s t : ℕ) → R s t → IsTargetAnswered S (Q s) t

-- Each arc of R to a state of the word with this number, 64 states to a word, has an answer in Q.
abbrev pub AnswersWord : (ℕ → ℕ → Type 0) → (ℕ → ℕ → Type 0) → (ℕ → ℕ → Type 0) → ℕ → Type 0
AnswersWord S R Q word = (s t : ℕ) → t / 64 ≡ word → R s t → IsTargetAnswered S (Q s) t

-- The bits are of states of the word that S relates to themselves.
abbrev pub AreOwnAnswers : (ℕ → ℕ → Type 0) → ℕ → ℕ → Type 0
AreOwnAnswers S word bits = (j : ℕ) → HasBit (bits ∷ []) j → S (word * 64 + j) (word * 64 + j)

-- An arc of R out of s has no answer in Q: no arc of Q out of s leads to a state that S relates its
-- end to.
pub record LacksAnswer (S R Q : ℕ → ℕ → Type 0) (s : ℕ) : Type 0 where
  pub target : ℕ
  pub arc : R s target
  pub none : (u : ℕ) → Q s u → S target u → ⊥

-- The second graph has each arc of the first, of at least its value.
pub record HasEachArc (g h : Graph) : Type 0 where
  pub joined : (s t : ℕ) → g.joined s t → h.joined s t
  pub past : (s t : ℕ) → g.past s t → h.past s t

-- S relates each state below n to itself.
abbrev pub IsReflexiveBelow : ℕ → (ℕ → ℕ → Type 0) → Type 0
IsReflexiveBelow n S = (p : ℕ) → p < n → S p p
