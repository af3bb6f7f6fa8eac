-- Two automata side by side in one, and what is asked there across them.
use Rattle.std.specs.Prelude.{◌≡◌, ℕ, ◌+◌, ◌<◌, ◌≤◌, ◌↔◌, List}
use Rattle.auto_core.specs.Automaton.{Automaton, Moves, IsAccepting}
use Rattle.auto_core.specs.Game.{Holds, MatchesForward}
use Rattle.bit_rel.specs.Relation.{Relation}

-- U is A and B side by side: A's states with A's moves, and then B's states with B's.
pub record IsSideBySide (A B U : Automaton) : Type 0 where
  pub states : U.states ≡ A.states + B.states
  pub first_moves : (p a q : ℕ) → p < A.states → Moves U p a q ↔ Moves A p a q
  pub second_moves : (p a q : ℕ)
      → Moves U (A.states + p) a q ↔ ((r : ℕ) × (q ≡ A.states + r) × Moves B p a r)
  pub first_accepting : (p : ℕ) → p < A.states → IsAccepting U p ↔ IsAccepting A p
  pub second_accepting : (p : ℕ) → IsAccepting U (A.states + p) ↔ IsAccepting B p

-- R holds the pairs of S, the right numbers raised by n.
abbrev pub Raises : ℕ → List (ℕ × ℕ) → List (ℕ × ℕ) → Type 0
Raises n S R = (p q : ℕ) → Holds R p q ↔ ((r : ℕ) × (q ≡ n + r) × Holds S p r)

-- S holds the pairs of R whose right numbers are n or more, these lowered by n.
abbrev pub Lowers : ℕ → List (ℕ × ℕ) → List (ℕ × ℕ) → Type 0
Lowers n S R = (p r : ℕ) → Holds S p r ↔ Holds R p (n + r)

-- p is one of the first n states, and q is accepting if p is.
abbrev pub MatchesAcross : ℕ → Automaton → ℕ → ℕ → Type 0
MatchesAcross n U p q = (p < n) × MatchesForward U U p q

pub across_joins : (n : ℕ) (U : Automaton) (p q r : ℕ) → MatchesAcross n U p q
    → MatchesAcross n U q r → MatchesAcross n U p r
across_joins n U p q r h k = (h.0, λ accepting. k.1 (h.1 accepting))

-- The new relation is on the same states and has the pairs of the old one, but of those of p just
-- the ones whose right number is n or more.
pub record LeavesRowAcross (p n : ℕ) (old new : Relation) : Type 0 where
  pub size : new.size ≡ old.size
  pub pairs : (r s : ℕ) → Holds new.pairs r s ↔ (Holds old.pairs r s × (r ≡ p → n ≤ s))

-- So it is with the pairs of each of the first m states.
pub record LeavesAcross (m n : ℕ) (old new : Relation) : Type 0 where
  pub size : new.size ≡ old.size
  pub pairs : (p q : ℕ) → Holds new.pairs p q ↔ (Holds old.pairs p q × (p < m → n ≤ q))
