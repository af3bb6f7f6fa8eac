-- The union of two automata: a new initial state 0, then the first's states, then the second's.
use Rattle.std.specs.Prelude.{◌≡◌, ℕ, ◌+◌, ◌<◌, ◌⊎◌, ◌↔◌}
use Rattle.auto_core.specs.Automaton.{Automaton, IsAutomaton, Moves, IsAccepting}
use Rattle.auto_core.specs.declared.parts.Mode.{Mode}
use Rattle.auto_core.specs.declared.parts.Mode.TheVariants.{Finite}
use Rattle.auto_core.specs.declared.parts.Trans.{Trans}
use Rattle.auto_ops.specs.declared.limits.TheConstants.{MOST_STATES, MOST_TRANSITIONS, MOST_LABELS}
use Rattle.auto_ops.specs.Limits.{AreMoreThan}

-- Where the state r of A has the number offset + r: a move of A under these numbers, or a copy that
-- leaves the new state 0 of a move that leaves A's initial state.
abbrev pub IsMoveOfOne : Automaton → ℕ → ℕ → ℕ → ℕ → Type 0
IsMoveOfOne A offset p a q =
    (r s : ℕ) × Moves A r a s × ((p ≡ offset + r) ⊎ ((p ≡ 0) × (r ≡ A.initial))) × (q ≡ offset + s)

-- The number in the union of the second automaton's state 0, where the first is A.
abbrev pub second_offset : Automaton → ℕ
second_offset A = 1 + A.states

-- The moves of the union of A and B.
abbrev pub UnionMoves : Automaton → Automaton → ℕ → ℕ → ℕ → Type 0
UnionMoves A B p a q = IsMoveOfOne A 1 p a q ⊎ IsMoveOfOne B (second_offset A) p a q

-- An accepting state of A, where its state r has the number offset + r.
abbrev pub IsShiftedAccepting : Automaton → ℕ → ℕ → Type 0
IsShiftedAccepting A offset p = (r : ℕ) × IsAccepting A r × (p ≡ offset + r)

-- Over finite words one of the two initial states is accepting.
abbrev pub AcceptsAtOnce : Mode → Automaton → Automaton → Type 0
AcceptsAtOnce mode A B = (mode ≡ Finite) × (IsAccepting A A.initial ⊎ IsAccepting B B.initial)

-- U is the union of A and B.
pub record IsUnion (mode : Mode) (A B U : Automaton) : Type 0 where
  pub valid : IsAutomaton U
  pub states : U.states ≡ second_offset A + B.states
  pub labels : U.labels ≡ A.labels
  pub initial : U.initial ≡ 0
  pub moves : (p a q : ℕ) → Moves U p a q ↔ UnionMoves A B p a q
  pub accepting :
      (p : ℕ)
      → IsAccepting U p
      ↔ (IsShiftedAccepting A 1 p ⊎ IsShiftedAccepting B (second_offset A) p
      ⊎ ((p ≡ 0) × AcceptsAtOnce mode A B))

-- The union has more states, transitions or labels than a result may have.
abbrev pub IsUnionTooLarge : Automaton → Automaton → Type 0
IsUnionTooLarge A B =
    (MOST_LABELS < A.labels)
    ⊎ (MOST_STATES < second_offset A + B.states)
    ⊎ AreMoreThan MOST_TRANSITIONS (λ (t : Trans). UnionMoves A B t.source t.label t.target)
