-- Infinite words as lassos spell them.
use Rattle.std.specs.Prelude.{◌≡◌, ℕ, ◌≤◌, List, ◌++◌, length, take}
use Rattle.auto_core.specs.Automaton.{Automaton}
use Rattle.auto_core.specs.Accept.{AcceptsLasso}
use Rattle.auto_core.specs.Run.{repeated}

-- The first n letters of the infinite word that is u and then v again and again; v has a letter.
abbrev pub first_letters : List ℕ → List ℕ → ℕ → List ℕ
first_letters u v n = take n (u ++ repeated v n)

-- Both lassos spell one infinite word: their first letters are the same, however many.
abbrev pub SpellSame : List ℕ → List ℕ → List ℕ → List ℕ → Type 0
SpellSame u v x y = (n : ℕ) → first_letters u v n ≡ first_letters x y n

-- Lassos that spell one infinite word are accepted alike.
abbrev pub SpelledAlikeAcceptedAlike : Type 0
SpelledAlikeAcceptedAlike =
    (A : Automaton) (u v x y : List ℕ) → 1 ≤ length y → SpellSame u v x y → AcceptsLasso A u v
    → AcceptsLasso A x y
