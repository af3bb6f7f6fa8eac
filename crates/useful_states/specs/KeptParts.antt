-- The parts of an automaton that keeps some states, as lists.
use Rattle.std.specs.Prelude.{◌≡◌, ℕ, ◌+◌, ◌≤◌, Bool, ◌&&◌, List, length, map, filter, ◌==◌, slice_index}
use Rattle.std.specs.List.{list_any, range_with_len}
use Rattle.auto_core.specs.Automaton.{Automaton, is_accepting, trans}
use Rattle.auto_core.specs.Useful.{new_number}
use Rattle.auto_core.specs.declared.parts.Trans.{Trans}

-- Whether the number is in the list.
abbrev pub has : List ℕ → ℕ → Bool
has kept q = list_any (λ x. x == q) kept

-- Whether both ends of the transition are kept.
abbrev pub joins : List ℕ → Trans → Bool
joins kept t = has kept t.source && has kept t.target

-- The transition under the new numbers.
abbrev pub renumbered : Automaton → List ℕ → Trans → Trans
renumbered A kept t = trans (new_number A kept t.source) t.label (new_number A kept t.target)

-- The transitions with both ends kept, under the new numbers.
abbrev pub kept_transitions : Automaton → List ℕ → List Trans
kept_transitions A kept = map (renumbered A kept) (filter (joins kept) A.transitions)

-- The kept accepting states, under the new numbers.
abbrev pub kept_accepting : Automaton → List ℕ → List ℕ
kept_accepting A kept =
    map (new_number A kept)
    (filter (λ q. has kept q && is_accepting A q) (range_with_len 0 A.states))

-- The list has the new number of each state, and behind them the number of states that stay.
pub record AreNumbers (A : Automaton) (kept numbers : List ℕ) : Type 0 where
  pub len : length numbers ≡ A.states + 1
  pub each : (q : ℕ) → q ≤ A.states → slice_index numbers q ≡ new_number A kept q
