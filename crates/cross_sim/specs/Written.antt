-- The cross relation that is written.
use Rattle.std.specs.Prelude.{◌≡◌, ℕ, ◌≤◌, length}
use Rattle.auto_core.specs.Game.{Holds, IsGreatestAcross}
use Rattle.ba_format.specs.declared.parts.Joined.{Joined}
use Rattle.cert_text.specs.declared.cross.Cross.{Cross}
use Rattle.cert_text.specs.CrossText.{CrossFormed}
use Rattle.cross_sim.specs.Rules.{HasCrossSizes, pairs_across, KeepsCrossRules}

-- The cross relation that is written: it has a text, the sizes of the two automata and this
-- lookahead, and its pairs are the greatest that are stable across.
pub record IsCrossOfGreatest (pair : Joined) (look : ℕ) (cross : Cross) : Type 0 where
  pub formed : CrossFormed cross
  pub sizes : HasCrossSizes pair cross
  pub look_is : cross.look ≡ look
  pub greatest : IsGreatestAcross pair.first pair.second look (pairs_across cross)

-- There is one at most.
abbrev pub CrossIsOne : Type 0
CrossIsOne =
    (pair : Joined) (look : ℕ) (c d : Cross) → IsCrossOfGreatest pair look c
    → IsCrossOfGreatest pair look d → c ≡ d

-- If it holds the pair of the initial states, it breaks no rule.
abbrev pub GreatestCrossKeepsRules : Type 0
GreatestCrossKeepsRules =
    (pair : Joined) (look : ℕ) (cross : Cross)
    → 1 ≤ look
    → look ≤ 6
    → IsCrossOfGreatest pair look cross
    → Holds (pairs_across cross) pair.first.initial pair.second.initial
    → KeepsCrossRules pair cross

-- There is one of automata that are small enough for a decision.
abbrev pub GreatestCrossIsThere : Type 0
GreatestCrossIsThere =
    (pair : Joined) (look : ℕ)
    → pair.first.states ≤ 2048
    → pair.second.states ≤ 512
    → length pair.labels ≤ 512
    → look ≤ 6
    → (cross : Cross) × IsCrossOfGreatest pair look cross
