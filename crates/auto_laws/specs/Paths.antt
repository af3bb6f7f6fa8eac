-- The laws of paths that go on and of paths read from their end.
use Rattle.std.specs.Prelude.{◌≡◌, ℕ, ◌<◌, ◌≤◌, ◌⊎◌, List, [], ◌∷◌, ◌++◌, length, reverse}
use Rattle.auto_core.specs.Automaton.{Automaton, Moves}
use Rattle.auto_core.specs.Run.{PathBy, Path, end_of}
use Rattle.auto_core.specs.Game.{BackwardMoves, IsDead}

-- The path from p on w through ps goes on until it has k moves or can go no further.
pub record Extension (M : ℕ → ℕ → ℕ → Type 0) (k p : ℕ) (w ps : List ℕ) : Type 0 where
  pub letters : List ℕ
  pub states : List ℕ
  pub path : PathBy M p (w ++ letters) (ps ++ states)
  pub shown : (length (w ++ letters) ≡ k)
      ⊎ ((length (w ++ letters) < k) × IsDead M (end_of p (ps ++ states)))

-- The states after each letter of the path from p through ps, read from its end.
abbrev pub turned : ℕ → List ℕ → List ℕ
turned p [] = []
turned p (q ∷ qs) = turned q qs ++ p ∷ []

-- A path of at most k moves goes on until it has k or can go no further.
abbrev pub PathsExtend : Type 0
PathsExtend =
    (A : Automaton) (k p : ℕ) (w ps : List ℕ) → Path A p w ps → length w ≤ k
    → Extension (Moves A) k p w ps

-- So does a path that is read backward.
abbrev pub BackwardPathsExtend : Type 0
BackwardPathsExtend =
    (A : Automaton) (k p : ℕ) (w ps : List ℕ) → PathBy (BackwardMoves A) p w ps → length w ≤ k
    → Extension (BackwardMoves A) k p w ps

-- A path read from its end is a path of the moves backward on the reversed word, and the other way
-- round.
abbrev pub PathsTurn : Type 0
PathsTurn = (A : Automaton) (p : ℕ) (w ps : List ℕ) →
    (Path A p w ps → PathBy (BackwardMoves A) (end_of p ps) (reverse w) (turned p ps))
    × (PathBy (BackwardMoves A) p w ps → Path A (end_of p ps) (reverse w) (turned p ps))

-- Reading from the end twice gives the path again.
abbrev pub TurningTwice : Type 0
TurningTwice =
    (p : ℕ) (ps : List ℕ)
    → (end_of (end_of p ps) (turned p ps) ≡ p) × (turned (end_of p ps) (turned p ps) ≡ ps)
