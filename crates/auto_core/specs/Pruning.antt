-- Pruning: transitions that have a better one are removed. What is better is said by one of four
-- approved pairs of relations, a backward one between the sources and a forward one between the
-- targets:
--
--   pair 1: the same source; the target strictly below
--   pair 2: the source strictly below; the same target
--   pair 3: the source below or equal; the target strictly below, at lookahead 1
--   pair 4: the source strictly below, at lookahead 1; the target below or equal
use Rattle.std.specs.Prelude.{◌≡◌, ℕ, ◌<◌, ◌⊎◌, ◌↔◌, List, length, Contains, if◌then◌else◌, ◌==◌}
use Rattle.auto_core.specs.Automaton.{Automaton, IsAutomaton, Moves, trans, trans_at}
use Rattle.auto_core.specs.Game.{Strict, Close, Holds, StableForward, StableBackward, IsGreatestForward, IsGreatestBackward}
use Rattle.auto_core.specs.declared.parts.Trans.{Trans}

-- How pair n relates the source of a transition to that of a better one, by the backward relation.
abbrev pub AtSource : ℕ → (ℕ → ℕ → Type 0) → ℕ → ℕ → Type 0
AtSource n back p q =
    ((n ≡ 1) × (p ≡ q))
    ⊎ ((n ≡ 2) × Strict back p q)
    ⊎ ((n ≡ 3) × back p q)
    ⊎ ((n ≡ 4) × Strict back p q)

-- How it relates the targets, by the forward relation.
abbrev pub AtTarget : ℕ → (ℕ → ℕ → Type 0) → ℕ → ℕ → Type 0
AtTarget n ahead p q =
    ((n ≡ 1) × Strict ahead p q)
    ⊎ ((n ≡ 2) × (p ≡ q))
    ⊎ ((n ≡ 3) × Strict ahead p q)
    ⊎ ((n ≡ 4) × ahead p q)

-- The transition u is better than t: it has the same letter, and pair n relates the ends of t to
-- those of u.
pub record IsBetter (n : ℕ) (back ahead : ℕ → ℕ → Type 0) (t u : Trans) : Type 0 where
  pub label : t.label ≡ u.label
  pub source : AtSource n back t.source u.source
  pub target : AtTarget n ahead t.target u.target

-- The transitions with these numbers are ones of A, and the second is better.
pub record IsBetterAt (A : Automaton) (n : ℕ) (back ahead : ℕ → ℕ → Type 0) (t u : ℕ) : Type 0 where
  pub is : t < length A.transitions
  pub by : u < length A.transitions
  pub better : IsBetter n back ahead (trans_at A t) (trans_at A u)

-- The transition has a better one.
abbrev pub HasBetter : Automaton → ℕ → (ℕ → ℕ → Type 0) → (ℕ → ℕ → Type 0) → ℕ → Type 0
HasBetter A n back ahead t = (u : ℕ) × IsBetterAt A n back ahead t u

-- B is A without the transitions that have these numbers.
pub record IsCut (A : Automaton) (gone : List ℕ) (B : Automaton) : Type 0 where
  pub valid : IsAutomaton B
  pub states : B.states ≡ A.states
  pub labels : B.labels ≡ A.labels
  pub initial : B.initial ≡ A.initial
  pub moves : (p a q : ℕ)
      → Moves B p a q
      ↔ ((t : ℕ) × (t < length A.transitions) × (trans_at A t ≡ trans p a q)
      × (Contains gone t → ⊥))
  pub accepting : B.accepting ≡ A.accepting

-- The lookahead of the backward relation in pair n where the reduction has lookahead k.
abbrev pub look_backward : ℕ → ℕ → ℕ
look_backward n k = if n == 4 then 1 else k

-- The lookahead of its forward relation.
abbrev pub look_forward : ℕ → ℕ → ℕ
look_forward n k = if n == 3 then 1 else k

-- Where the pair has a backward relation at all, the list is stable backward at its lookahead.
abbrev pub IsStableBack : Automaton → ℕ → ℕ → List (ℕ × ℕ) → Type 0
IsStableBack A n k S = ¬ (n ≡ 1) → StableBackward A (look_backward n k) S

-- Where the pair has a forward relation at all, the list is stable forward at its lookahead.
abbrev pub IsStableAhead : Automaton → ℕ → ℕ → List (ℕ × ℕ) → Type 0
IsStableAhead A n k S = ¬ (n ≡ 2) → StableForward A (look_forward n k) S

-- Where the pair has a backward relation at all, the list is the greatest one at its lookahead.
abbrev pub IsGreatestBack : Automaton → ℕ → ℕ → List (ℕ × ℕ) → Type 0
IsGreatestBack A n k S = ¬ (n ≡ 1) → IsGreatestBackward A (look_backward n k) S

-- Where the pair has a forward relation at all, the list is the greatest one at its lookahead.
abbrev pub IsGreatestAhead : Automaton → ℕ → ℕ → List (ℕ × ℕ) → Type 0
IsGreatestAhead A n k S = ¬ (n ≡ 2) → IsGreatestForward A (look_forward n k) S

-- The numbers are just those of the transitions that have a better one by pair n over the closures
-- of the lists.
abbrev pub AreRemovable : Automaton → ℕ → List (ℕ × ℕ) → List (ℕ × ℕ) → List ℕ → Type 0
AreRemovable A n back ahead gone =
    (t : ℕ) → Contains gone t ↔ HasBetter A n (Close (Holds back)) (Close (Holds ahead)) t

-- B is A without each transition that has a better one by pair n at lookahead k, the relations
-- being the greatest ones.
pub record IsPruned (A : Automaton) (n k : ℕ) (B : Automaton) : Type 0 where
  pub back : List (ℕ × ℕ)
  pub ahead : List (ℕ × ℕ)
  pub gone : List ℕ
  pub greatest_back : IsGreatestBack A n k back
  pub greatest_ahead : IsGreatestAhead A n k ahead
  pub removable : AreRemovable A n back ahead gone
  pub cut : IsCut A gone B
