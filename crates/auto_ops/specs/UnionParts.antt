-- The parts of a union as lists.
use Rattle.std.specs.Prelude.{ℕ, ◌+◌, ◌≤◌, Bool, false, ◌||◌, List, [], ◌∷◌, ◌++◌, length, map, filter, ◌==◌, if◌then◌else◌}
use Rattle.std.specs.List.{range_with_len}
use Rattle.auto_core.specs.Automaton.{Automaton, is_accepting, trans}
use Rattle.auto_core.specs.declared.parts.Mode.{Mode}
use Rattle.auto_core.specs.declared.parts.Mode.TheVariants.{Buchi, Finite}
use Rattle.auto_core.specs.declared.parts.Trans.{Trans}
use Rattle.auto_ops.specs.Union.{second_offset}
use Rattle.auto_ops.specs.declared.limits.TheConstants.{MOST_STATES, MOST_TRANSITIONS, MOST_LABELS}

-- The transition with both of its states shifted by the offset.
abbrev pub shifted : ℕ → Trans → Trans
shifted offset t = trans (offset + t.source) t.label (offset + t.target)

-- Its copy that leaves the new state.
abbrev pub copied : ℕ → Trans → Trans
copied offset t = trans 0 t.label (offset + t.target)

-- Whether the transition leaves the state.
abbrev pub leaves : ℕ → Trans → Bool
leaves p t = t.source == p

-- The transitions that leave the initial state.
abbrev pub first_moves : Automaton → List Trans
first_moves A = filter (leaves A.initial) A.transitions

-- All that the union has of one automaton: its transitions, shifted, and the copies.
abbrev pub transitions_of_one : Automaton → ℕ → List Trans
transitions_of_one A offset =
    map (shifted offset) A.transitions ++ map (copied offset) (first_moves A)

-- All transitions of the union.
abbrev pub union_transitions : Automaton → Automaton → List Trans
union_transitions A B = transitions_of_one A 1 ++ transitions_of_one B (second_offset A)

-- The accepting states below n, shifted.
abbrev pub accepting_of_one : Automaton → ℕ → ℕ → List ℕ
accepting_of_one A offset n = map (λ q. offset + q) (filter (is_accepting A) (range_with_len 0 n))

-- Whether the union's initial state is accepting.
abbrev pub accepts_at_once : Mode → Automaton → Automaton → Bool
accepts_at_once Buchi A B = false
accepts_at_once Finite A B = is_accepting A A.initial || is_accepting B B.initial

-- State 0 alone, or nothing.
abbrev pub start_if : Bool → List ℕ
start_if b = if b then 0 ∷ [] else []

-- All accepting states of the union.
abbrev pub union_accepting : Mode → Automaton → Automaton → List ℕ
union_accepting mode A B =
    start_if (accepts_at_once mode A B) ++ accepting_of_one A 1 A.states
    ++ accepting_of_one B (second_offset A) B.states

-- The union is not too large.
pub record IsSmallUnion (A B : Automaton) : Type 0 where
  pub labels : A.labels ≤ MOST_LABELS
  pub states : second_offset A + B.states ≤ MOST_STATES
  pub transitions : length (union_transitions A B) ≤ MOST_TRANSITIONS
