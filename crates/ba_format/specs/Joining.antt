-- Two automata over the same labels.
use Rattle.std.specs.Prelude.{◌≡◌, ℕ, not, List, [], ◌++◌, length, map, filter, slice_index_or}
use Rattle.std.specs.List.{list_any}
use Rattle.auto_core.specs.declared.parts.Trans.{Trans}
use Rattle.auto_core.specs.Automaton.{Automaton, trans}
use Rattle.auto_core.specs.Build.{IsBuilt}
use Rattle.ba_format.specs.declared.parts.Named.{Named}
use Rattle.ba_format.specs.declared.parts.Joined.{Joined}
use Rattle.ba_format.specs.Sight.{same_text, place_in}

-- The first's labels, and then those of the second that the first does not have. Labels are
-- compared as bytes.
abbrev pub joined_labels : List (List ℕ) → List (List ℕ) → List (List ℕ)
joined_labels first second =
    first ++ filter (λ label. not (list_any (same_text label) first)) second

-- The transition with the number that its label's text has in the joined list.
abbrev pub relabelled : List (List ℕ) → List (List ℕ) → Trans → Trans
relabelled labels joined t =
    trans t.source (place_in same_text joined (slice_index_or labels t.label [])) t.target

-- The automaton B is A, with its labels numbered as in the joined list.
abbrev pub IsRelabelled : Automaton → List (List ℕ) → List (List ℕ) → Automaton → Type 0
IsRelabelled A labels joined B =
    IsBuilt A.states (length joined) A.initial (map (relabelled labels joined) A.transitions)
    A.accepting B

-- The two read automata over their joined labels.
pub record IsJoined (one two : Named) (joined : Joined) : Type 0 where
  pub labels : joined.labels ≡ joined_labels one.labels two.labels
  pub first : IsRelabelled one.auto one.labels joined.labels joined.first
  pub second : IsRelabelled two.auto two.labels joined.labels joined.second
