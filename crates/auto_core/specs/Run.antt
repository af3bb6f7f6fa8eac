-- Runs of an automaton on finite words, with the paths behind them.
use Rattle.std.specs.Prelude.{◌≡◌, ℕ, zero, suc, Bool, false, ◌||◌, List, [], ◌∷◌, ◌++◌}
use Rattle.auto_core.specs.Automaton.{Automaton, Moves, is_accepting}

-- A run on the word from p ends in q; the flag tells whether a state after the first is accepting.
abbrev pub Run : Automaton → ℕ → List ℕ → ℕ → Bool → Type 0
Run A p [] q flag = (p ≡ q) × (flag ≡ false)
Run A p (a ∷ w) q flag =
    (next : ℕ) × (later : Bool) × Moves A p a next × Run A next w q later
    × (flag ≡ (is_accepting A next || later))

-- A path by the moves M from p on the word: the list has the state after each letter.
abbrev pub PathBy : (ℕ → ℕ → ℕ → Type 0) → ℕ → List ℕ → List ℕ → Type 0
PathBy M p [] [] = Unit {0}
PathBy M p [] (q ∷ qs) = ⊥
PathBy M p (a ∷ w) [] = ⊥
PathBy M p (a ∷ w) (q ∷ qs) = M p a q × PathBy M q w qs

-- A path of the automaton.
abbrev pub Path : Automaton → ℕ → List ℕ → List ℕ → Type 0
Path A = PathBy (Moves A)

-- The state in which a path from p through these states ends.
abbrev pub end_of : ℕ → List ℕ → ℕ
end_of p [] = p
end_of p (q ∷ qs) = end_of q qs

-- Whether one of the states is accepting.
abbrev pub some_accepting : Automaton → List ℕ → Bool
some_accepting A [] = false
some_accepting A (q ∷ qs) = is_accepting A q || some_accepting A qs

-- The word n times.
abbrev pub repeated : List ℕ → ℕ → List ℕ
repeated v zero = []
repeated v (suc n) = v ++ repeated v n
