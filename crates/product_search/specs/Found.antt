-- Pairs of states that are found from one of them, move by move.
use Rattle.std.specs.Prelude.{◌≡◌, ℕ, ◌<◌, ◌≤◌, ◌⊎◌, Bool, true, false, List, [], ◌∷◌, ◌++◌, length, Contains, slice_index_or}
use Rattle.auto_core.specs.declared.parts.Trans.{Trans}
use Rattle.auto_core.specs.Automaton.{Automaton, Moves, is_accepting}
use Rattle.product_laws.specs.Reached.{GoesTo}
use Rattle.product_search.specs.declared.found.Step.{Step}

-- The pair with this number; there is none past the end, and then it is the pair of zeros.
abbrev pub pair_at : List (ℕ × ℕ) → ℕ → ℕ × ℕ
pair_at pairs i = slice_index_or pairs i (0, 0)

-- How the pair with this number was found.
abbrev pub step_at : List Step → ℕ → Step
step_at steps i = slice_index_or steps i (record { from = 0; letter = 0 })

-- The pair comes after the others, or is one of them; the flag tells which.
abbrev pub IsAdded : List (ℕ × ℕ) → ℕ × ℕ → List (ℕ × ℕ) → Bool → Type 0
IsAdded old x new flag =
    ((flag ≡ true) × (new ≡ old ++ x ∷ []) × (Contains old x → ⊥))
    ⊎ ((flag ≡ false) × (new ≡ old) × Contains old x)

-- Quiet ones are to no accepting state of B.
abbrev pub IsQuietEnough : Automaton → Bool → ℕ → Type 0
IsQuietEnough B quiet s = quiet ≡ true → is_accepting B s ≡ false

-- A moves from the first pair by the letter to the second, and so B goes.
abbrev pub Follows : Automaton → Automaton → Bool → ℕ × ℕ → ℕ → ℕ × ℕ → Type 0
Follows A B quiet x a y = Moves A x.0 a y.0 × GoesTo B x.1 a y.1 × IsQuietEnough B quiet y.1

-- The pair was found from one with a lesser number.
abbrev pub IsFoundBy : Automaton → Automaton → Bool → List (ℕ × ℕ) → Step → ℕ → Type 0
IsFoundBy A B quiet pairs step i =
    (step.from < i) × Follows A B quiet (pair_at pairs step.from) step.letter (pair_at pairs i)

-- Different pairs of states, the right one maybe none, each but the first found from one before it.
pub record AreFound (A B : Automaton) (quiet : Bool) (pairs : List (ℕ × ℕ))
    (steps : List Step) : Type 0 where
  pub some : 0 < length pairs
  pub size : length steps ≡ length pairs
  pub left : (i : ℕ) → i < length pairs → (pair_at pairs i).0 < A.states
  pub right : (i : ℕ) → i < length pairs → (pair_at pairs i).1 ≤ B.states
  pub different : (i j : ℕ) → i < j → j < length pairs → pair_at pairs i ≡ pair_at pairs j → ⊥
  pub found : (i : ℕ) → 0 < i → i < length pairs → IsFoundBy A B quiet pairs (step_at steps i) i

-- The second list begins with the first one.
abbrev pub Grows : List (ℕ × ℕ) → List (ℕ × ℕ) → Type 0
Grows old new = (more : List (ℕ × ℕ)) × (new ≡ old ++ more)

-- The pair and its step are noted, unless the pair is there.
abbrev pub IsNoted : List (ℕ × ℕ) → List Step → ℕ × ℕ → Step → List (ℕ × ℕ) → List Step → Type 0
IsNoted pairs steps x step new_pairs new_steps =
    ((new_pairs ≡ pairs ++ x ∷ []) × (new_steps ≡ steps ++ step ∷ []) × (Contains pairs x → ⊥))
    ⊎ ((new_pairs ≡ pairs) × (new_steps ≡ steps) × Contains pairs x)

-- The pair that the move leads to is noted, or is passed over.
abbrev pub Went : Automaton → Bool → ℕ → ℕ → Trans → List (ℕ × ℕ) → List Step → List (ℕ × ℕ)
    → List Step → Type 0
Went B quiet from right move pairs steps new_pairs new_steps =
    (s : ℕ)
    × GoesTo B right move.label s
    × (s ≤ B.states)
    × ((IsQuietEnough B quiet s
    × IsNoted pairs steps (move.target, s) (record { from = from; letter = move.label })
    new_pairs new_steps)
    ⊎ ((IsQuietEnough B quiet s → ⊥) × (new_pairs ≡ pairs) × (new_steps ≡ steps)))

-- Each step from the pair with this number leads to a pair.
abbrev pub IsClosedAt : Automaton → Automaton → Bool → List (ℕ × ℕ) → ℕ → Type 0
IsClosedAt A B quiet pairs i =
    (a : ℕ) (y : ℕ × ℕ) → Follows A B quiet (pair_at pairs i) a y → Contains pairs y

-- The pairs that are found are more. The flag tells whether they are at most `limit`, and then the
-- steps from the one with this number lead to them.
abbrev pub Expanded : Automaton → Automaton → Bool → ℕ → List (ℕ × ℕ) → ℕ → List (ℕ × ℕ) → List Step
    → Bool → Type 0
Expanded A B quiet limit old from pairs steps flag =
    AreFound A B quiet pairs steps
    × Grows old pairs
    × (((flag ≡ true) × (length pairs ≤ limit) × IsClosedAt A B quiet pairs from)
    ⊎ ((flag ≡ false) × (limit < length pairs)))

-- The same for all of them.
abbrev pub AllExpanded : Automaton → Automaton → Bool → ℕ → List (ℕ × ℕ) → List (ℕ × ℕ) → List Step
    → Bool → Type 0
AllExpanded A B quiet limit old pairs steps flag =
    AreFound A B quiet pairs steps
    × Grows old pairs
    × (((flag ≡ true) × (length pairs ≤ limit)
    × ((i : ℕ) → i < length pairs → IsClosedAt A B quiet pairs i))
    ⊎ ((flag ≡ false) × (limit < length pairs)))
