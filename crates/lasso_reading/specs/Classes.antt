-- Lassos of letters that read a lasso of classes, and automata over classes.
use Rattle.std.specs.Prelude.{ℕ, ◌≤◌, ◌↔◌, List, length}
use Rattle.auto_core.specs.Automaton.{Automaton}
use Rattle.auto_core.specs.Accept.{AcceptsLasso, SeparatesLasso}
use Rattle.map_laws.specs.Maps.{IsRenamed}
use Rattle.lasso_reading.specs.Reading.{ReadsLasso}

-- The automaton over classes accepts a lasso of classes exactly where A reads it by some lasso of
-- letters.
abbrev pub AcceptedClassesAreRead : Type 0
AcceptedClassesAreRead =
    (A C : Automaton) (classes cu cv : List ℕ)
    → IsRenamed A classes C
    → 1 ≤ length cv
    → AcceptsLasso C cu cv ↔ ((u v : List ℕ) × ReadsLasso A classes cu cv u v)

-- If B over classes rejects the lasso of classes, each lasso by which A reads it separates A from
-- B.
abbrev pub ReadLassosSeparate : Type 0
ReadLassosSeparate =
    (A B D : Automaton) (classes cu cv u v : List ℕ)
    → IsRenamed B classes D
    → 1 ≤ length cv
    → ReadsLasso A classes cu cv u v
    → (AcceptsLasso D cu cv → ⊥)
    → SeparatesLasso A B u v
