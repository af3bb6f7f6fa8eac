-- The product of an automaton with the positions of a lasso of classes.
use Rattle.std.specs.Prelude.{◌≡◌, ℕ, ◌+◌, ◌<◌, ◌≤◌, ◌↔◌, List, [], ◌∷◌, ◌++◌, length, slice_index, ◌==◌, if◌then◌else◌}
use Rattle.auto_core.specs.Automaton.{Automaton, IsAutomaton, Moves, IsAccepting}
use Rattle.auto_core.specs.Accept.{AcceptsLasso}
use Rattle.auto_core.specs.Quotient.{class_of}
use Rattle.map_laws.specs.Maps.{classes_in}
use Rattle.product_search.specs.Found.{pair_at}
use Rattle.lasso_reading.specs.Words.{SpellSame}

-- The position behind the position i: the next one, and behind the last the first of the loop.
abbrev pub next_position : List ℕ → List ℕ → ℕ → ℕ
next_position cu cv i = if i + 1 == length (cu ++ cv) then length cu else i + 1

-- A moves from one state to the other by a letter of the class that stands at the position; the
-- other position is the one behind it.
abbrev pub ReadsOn : Automaton → List ℕ → List ℕ → List ℕ → ℕ × ℕ → ℕ → ℕ × ℕ → Type 0
ReadsOn A classes cu cv x a y =
    Moves A x.0 a y.0 × (class_of classes a ≡ slice_index (cu ++ cv) x.1)
    × (y.1 ≡ next_position cu cv x.1)

-- The states of P are n pairs of a state and a position, that of the initial state and the first
-- position is its initial one, it moves as A reads on, and it accepts where A does.
pub record IsReadingProduct (A : Automaton) (classes cu cv : List ℕ) (n : ℕ) (pair : ℕ → ℕ × ℕ)
    (P : Automaton) : Type 0 where
  pub valid : IsAutomaton P
  pub states : P.states ≡ n
  pub initial : pair P.initial ≡ (A.initial, 0)
  pub positions : (x : ℕ) → x < n → (pair x).1 < length (cu ++ cv)
  pub sound : (x a y : ℕ) → Moves P x a y → ReadsOn A classes cu cv (pair x) a (pair y)
  pub full : (x a : ℕ) (to : ℕ × ℕ) → x < n → ReadsOn A classes cu cv (pair x) a to
      → (y : ℕ) × (pair y ≡ to) × Moves P x a y
  pub accepting : (x : ℕ) → x < n → IsAccepting P x ↔ IsAccepting A (pair x).0

-- A accepts the lasso, and its classes spell the same as the lasso of classes.
abbrev pub ReadsLasso : Automaton → List ℕ → List ℕ → List ℕ → List ℕ → List ℕ → Type 0
ReadsLasso A classes cu cv u v =
    AcceptsLasso A u v × SpellSame (classes_in classes u) (classes_in classes v) cu cv

-- P accepts just these lassos.
abbrev pub ReadsJust : Automaton → List ℕ → List ℕ → List ℕ → Automaton → Type 0
ReadsJust A classes cu cv P = (u v : List ℕ) → AcceptsLasso P u v ↔ ReadsLasso A classes cu cv u v

-- The product does.
abbrev pub ProductReadsJust : Type 0
ProductReadsJust =
    (A P : Automaton) (classes cu cv : List ℕ) (n : ℕ) (pair : ℕ → ℕ × ℕ)
    → 1 ≤ length cv
    → IsReadingProduct A classes cu cv n pair P
    → ReadsJust A classes cu cv P

-- Reading on by the letters of the word leads from one pair to the other.
abbrev pub ReadsAlong : Automaton → List ℕ → List ℕ → List ℕ → ℕ × ℕ → List ℕ → ℕ × ℕ → Type 0
ReadsAlong A classes cu cv x [] y = x ≡ y
ReadsAlong A classes cu cv x (a ∷ w) y =
    (z : ℕ × ℕ) × ReadsOn A classes cu cv x a z × ReadsAlong A classes cu cv z w y

-- The pair is reached from that of the initial state and the first position.
abbrev pub IsReadPair : Automaton → List ℕ → List ℕ → List ℕ → ℕ × ℕ → Type 0
IsReadPair A classes cu cv x = (w : List ℕ) × ReadsAlong A classes cu cv (A.initial, 0) w x

-- More than `limit` different pairs are reached.
abbrev pub AreMoreRead : Automaton → List ℕ → List ℕ → List ℕ → ℕ → Type 0
AreMoreRead A classes cu cv limit =
    (pairs : List (ℕ × ℕ))
    × (limit < length pairs)
    × ((i j : ℕ) → i < j → j < length pairs → pair_at pairs i ≡ pair_at pairs j → ⊥)
    × ((i : ℕ) → i < length pairs → IsReadPair A classes cu cv (pair_at pairs i))
