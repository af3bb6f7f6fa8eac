-- That there are greatest relations.
use Rattle.std.specs.Prelude.{ℕ, ◌≤◌, List}
use Rattle.auto_core.specs.Automaton.{Automaton}
use Rattle.auto_core.specs.Game.{IsGreatestForward, IsGreatestBackward, IsGreatestAcross}
use Rattle.auto_core.specs.Delayed.{RankedTriples, IsGreatestDelayed}

-- There is a greatest list that is stable forward, at each lookahead.
abbrev pub GreatestForwardIsThere : Type 0
GreatestForwardIsThere = (A : Automaton) (k : ℕ) → (S : List (ℕ × ℕ)) × IsGreatestForward A k S

-- There is a greatest list that is stable backward.
abbrev pub GreatestBackwardIsThere : Type 0
GreatestBackwardIsThere = (A : Automaton) (k : ℕ) → (S : List (ℕ × ℕ)) × IsGreatestBackward A k S

-- There is a greatest list that is stable across two automata.
abbrev pub GreatestAcrossIsThere : Type 0
GreatestAcrossIsThere = (A B : Automaton) (k : ℕ) → (S : List (ℕ × ℕ)) × IsGreatestAcross A B k S

-- There is a greatest delayed relation with n announced letters, with its least ranks.
abbrev pub GreatestDelayedIsThere : Type 0
GreatestDelayedIsThere =
    (A : Automaton) (n : ℕ) → 1 ≤ n → (X : RankedTriples) × IsGreatestDelayed A n X
