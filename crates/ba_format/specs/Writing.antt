-- The text that is written for an automaton.
use Rattle.std.specs.Prelude.{ℕ, List, [], ◌∷◌, ◌++◌, codes, length, slice_index_or, if◌then◌else◌, ◌==◌}
use Rattle.std.specs.Fmt.{decimal}
use Rattle.std.specs.List.{flat_map}
use Rattle.auto_core.specs.declared.parts.Trans.{Trans}
use Rattle.auto_core.specs.Automaton.{Automaton}

-- The name of state q: its number in square brackets.
abbrev pub name_text : ℕ → List ℕ
name_text q = codes "[" ++ (decimal q ++ codes "]")

-- The line of a state.
abbrev pub state_text : ℕ → List ℕ
state_text q = name_text q ++ codes "\n"

-- The line of a transition: label, source and target.
abbrev pub transition_text : List (List ℕ) → Trans → List ℕ
transition_text labels t =
    slice_index_or labels t.label []
    ++ (codes "," ++ (name_text t.source ++ (codes "->" ++ (name_text t.target ++ codes "\n"))))

-- The states of the accepting lines. If no state is accepting, it is one more state than there are,
-- since a text without an accepting line would make every state accepting.
abbrev pub accepting_written : Automaton → List ℕ
accepting_written A = if length A.accepting == 0 then A.states ∷ [] else A.accepting

-- The initial state's line, the transitions by source, label number and target, and the accepting
-- states' lines, ascending.
abbrev pub written : Automaton → List (List ℕ) → List ℕ
written A labels =
    state_text A.initial
    ++ (flat_map (transition_text labels) A.transitions
    ++ flat_map state_text (accepting_written A))
