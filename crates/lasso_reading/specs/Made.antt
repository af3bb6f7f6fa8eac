-- The pairs that are reached, and the moves between them.
use Rattle.std.specs.Prelude.{◌≡◌, ℕ, ◌^◌, ◌<◌, ◌≤◌, ◌⊎◌, Bool, true, false, List, [], ◌∷◌, ◌++◌, length, AllPairs, Contains}
use Rattle.auto_core.specs.declared.parts.Trans.{Trans}
use Rattle.auto_core.specs.Automaton.{Automaton, is_accepting, trans}
use Rattle.product_search.specs.Found.{pair_at}
use Rattle.lasso_reading.specs.declared.factors.Factors.{Factors}
use Rattle.lasso_reading.specs.Reading.{ReadsOn, IsReadPair}

-- Each letter has a class, the loop is not empty, and each position has a number.
pub record AreFactors (f : Factors) : Type 0 where
  pub classes : length f.classes.now ≡ f.automaton.now.labels
  pub turn : 1 ≤ length f.turn.now
  pub few : length (f.prefix.now ++ f.turn.now) < 2 ^ 32

-- The pair has the number, and was put after the others unless it was one of them.
abbrev pub IsNumbered : List (ℕ × ℕ) → ℕ × ℕ → List (ℕ × ℕ) → ℕ → Type 0
IsNumbered old x new number =
    (number < length new) × (pair_at new number ≡ x)
    × ((new ≡ old) ⊎ ((new ≡ old ++ x ∷ []) × (Contains old x → ⊥)))

-- The pair that the transition leads to has a number. The flag tells whether the pairs are at most
-- `limit`, and then the move to it is there too.
abbrev pub IsFollowed : ℕ → ℕ → Trans → ℕ → List (ℕ × ℕ) → List Trans → List (ℕ × ℕ) → List Trans
    → Bool → Type 0
IsFollowed limit from step position pairs moves new_pairs new_moves flag =
    (number : ℕ)
    × IsNumbered pairs (step.target, position) new_pairs number
    × (((flag ≡ true) × (length new_pairs ≤ limit)
    × (new_moves ≡ moves ++ trans from step.label number ∷ []) × (length new_moves < 2 ^ 32))
    ⊎ ((flag ≡ false) × (limit < length new_pairs)))

-- The left states are states.
abbrev pub HasStatesOf : Automaton → List (ℕ × ℕ) → Type 0
HasStatesOf A pairs = (i : ℕ) → i < length pairs → (pair_at pairs i).0 < A.states

-- Different pairs that are reached, the first one that of the initial state and the first position.
pub record ArePairs (A : Automaton) (classes cu cv : List ℕ) (pairs : List (ℕ × ℕ)) : Type 0 where
  pub some : 0 < length pairs
  pub initial : pair_at pairs 0 ≡ (A.initial, 0)
  pub states : HasStatesOf A pairs
  pub positions : (i : ℕ) → i < length pairs → (pair_at pairs i).1 < length (cu ++ cv)
  pub different : (i j : ℕ) → i < j → j < length pairs → pair_at pairs i ≡ pair_at pairs j → ⊥
  pub reached : (i : ℕ) → i < length pairs → IsReadPair A classes cu cv (pair_at pairs i)

-- The move leads from one pair to another as A reads on, by a transition that is done there.
abbrev pub IsMove : Automaton → List ℕ → List ℕ → List ℕ → (ℕ → Trans → Type 0) → List (ℕ × ℕ)
    → Trans → Type 0
IsMove A classes cu cv Done pairs m =
    (m.source < length pairs)
    × (m.target < length pairs)
    × ReadsOn A classes cu cv (pair_at pairs m.source) m.label (pair_at pairs m.target)
    × Done m.source (trans (pair_at pairs m.source).0 m.label (pair_at pairs m.target).0)

-- The moves are those by the transitions that are done at the pairs with these numbers, and none is
-- there twice.
pub record AreMoves (A : Automaton) (classes cu cv : List ℕ) (Done : ℕ → Trans → Type 0)
    (pairs : List (ℕ × ℕ)) (moves : List Trans) : Type 0 where
  pub few : length moves < 2 ^ 32
  pub sound : (m : Trans) → Contains moves m → IsMove A classes cu cv Done pairs m
  pub full : (x a : ℕ) (to : ℕ × ℕ) → x < length pairs → Done x (trans (pair_at pairs x).0 a to.0)
      → ReadsOn A classes cu cv (pair_at pairs x) a to →
      (y : ℕ) × (y < length pairs) × (pair_at pairs y ≡ to) × Contains moves (trans x a y)
  pub once : AllPairs (λ m n. m ≡ n → ⊥) moves

-- All transitions are done at the first n pairs.
abbrev pub AreMade : Factors → ℕ → List (ℕ × ℕ) → List Trans → Type 0
AreMade f n pairs moves =
    ArePairs f.automaton.now f.classes.now f.prefix.now f.turn.now pairs
    × AreMoves f.automaton.now f.classes.now f.prefix.now f.turn.now (λ x t. x < n) pairs moves

-- The flag tells whether the pairs are at most `limit`, and then all transitions are done at the
-- first n of them.
abbrev pub IsMadeUpTo : Factors → ℕ → ℕ → List (ℕ × ℕ) → List Trans → Bool → Type 0
IsMadeUpTo f limit n pairs moves flag =
    ((flag ≡ true) × (n ≤ length pairs) × (length pairs ≤ limit) × AreMade f n pairs moves)
    ⊎ ((flag ≡ false) × (limit < length pairs)
    × ArePairs f.automaton.now f.classes.now f.prefix.now f.turn.now pairs)

-- Whether the left state of the pair with this number accepts.
abbrev pub accepts_at : Automaton → List (ℕ × ℕ) → ℕ → Bool
accepts_at A pairs i = is_accepting A (pair_at pairs i).0
