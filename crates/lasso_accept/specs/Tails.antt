-- Tables that are kept of a word's ends.
use Rattle.std.specs.Prelude.{ℕ, ◌+◌, ◌-◌, ◌/◌, ◌≤◌, List, All, length, drop}
use Rattle.auto_core.specs.Automaton.{Automaton}
use Rattle.lasso_accept.specs.Plane.{ArePlanes}
use Rattle.lasso_accept.specs.declared.tails.Tail.{Tail}
use Rattle.lasso_accept.specs.declared.tails.Tails.{Tails}

-- If the word has so many letters, the tables are those of its last ones.
abbrev pub IsTail : Automaton → List ℕ → Tail → Type 0
IsTail A w t =
    t.length ≤ length w
    → ArePlanes A (drop (length w - t.length) w) ((A.states + 63) / 64) t.planes.any.items
    t.planes.flagged.items

abbrev pub AreTails : Automaton → List ℕ → List Tail → Type 0
AreTails A w kept = All (IsTail A w) kept

-- The tables are of so many letters at most.
abbrev pub AreShort : ℕ → List Tail → Type 0
AreShort most kept = All (λ t. t.length ≤ most) kept

-- The tables are kept of the ends of the word.
abbrev pub HasTails : Automaton → Tails → Type 0
HasTails A tails = AreTails A tails.word.items tails.kept.items
