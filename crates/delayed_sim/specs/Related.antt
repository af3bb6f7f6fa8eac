-- Which states are related whatever the word.
use Rattle.std.specs.Prelude.{◌≡◌, ℕ, suc, ◌+◌, ◌<◌, List, ◌++◌, length, All}
use Rattle.auto_core.specs.Delayed.{HoldsTriple}
use Rattle.delayed_sim.specs.Rankings.{Ranking}

-- Each triple of p and q whose word begins with these letters is held.
abbrev pub HoldsEach : Ranking → List ℕ → ℕ → ℕ → Type 0
HoldsEach R front p q =
    (rest : List ℕ)
    → suc (length front + length rest) ≡ R.letters
    → All (λ a. a < R.labels) rest
    → HoldsTriple R.triples (front ++ rest) p q
