-- The first fault of a `.ba` text, and the states, labels and transitions that its lines bring.
use Rattle.std.specs.Prelude.{ℕ, Bool, true, false, ◌&&◌, List, [], ◌∷◌, ◌++◌, length, map, if◌then◌else◌, ◌==◌, nat_lt, nat_le, Option, None, Some}
use Rattle.std.specs.Option.{option_or}
use Rattle.std.specs.List.{flat_map, list_all, range_with_len}
use Rattle.auto_core.specs.declared.parts.Trans.{Trans}
use Rattle.auto_core.specs.Automaton.{trans}
use Rattle.ba_format.specs.declared.parts.BaFault.{BaFault}
use Rattle.ba_format.specs.declared.parts.BaKind.{BaKind}
use Rattle.ba_format.specs.declared.parts.BaKind.TheVariants.{Empty, TwoInitial, TooManyStates, TooManyLabels, TooManyTransitions}
use Rattle.ba_format.specs.declared.parts.Limits.{Limits}
use Rattle.ba_format.specs.Grammar.{NumberedLine, LineContent, StateLine, TransitionLine, content_of, own_fault, lines_in}
use Rattle.ba_format.specs.Sight.{same_text, first_seen, place_in}

-- The states that a line names, a transition's source before its target.
abbrev pub states_in : LineContent → List (List ℕ)
states_in (StateLine name) = name ∷ []
states_in (TransitionLine label source target) = source ∷ target ∷ []

-- The label of a transition line.
abbrev pub labels_in : LineContent → List (List ℕ)
labels_in (StateLine name) = []
labels_in (TransitionLine label source target) = label ∷ []

-- The states' names, numbered in the order of first sight.
abbrev pub names_of : List LineContent → List (List ℕ)
names_of entries = first_seen same_text (flat_map states_in entries)

-- The labels, numbered in the order of first sight.
abbrev pub labels_of : List LineContent → List (List ℕ)
labels_of entries = first_seen same_text (flat_map labels_in entries)

-- The transition of a transition line, in the numbers of these names and labels.
abbrev pub transitions_in : List (List ℕ) → List (List ℕ) → LineContent → List Trans
transitions_in names labels (StateLine name) = []
transitions_in names labels (TransitionLine label source target) =
    trans (place_in same_text names source) (place_in same_text labels label)
    (place_in same_text names target) ∷ []

-- Whether two transitions are the same.
abbrev pub same_trans : Trans → Trans → Bool
same_trans t u = (t.source == u.source) && (t.label == u.label) && (t.target == u.target)

-- The different transitions, in the order of first sight.
abbrev pub transitions_of : List LineContent → List Trans
transitions_of entries =
    first_seen same_trans (flat_map (transitions_in (names_of entries) (labels_of entries)) entries)

abbrev pub is_state_line : LineContent → Bool
is_state_line (StateLine name) = true
is_state_line (TransitionLine label source target) = false

-- The line is the first transition line, and two or more lines, all of them state lines, stand
-- before it.
abbrev pub opens_twice : List LineContent → LineContent → Bool
opens_twice earlier (StateLine name) = false
opens_twice earlier (TransitionLine label source target) =
    list_all is_state_line earlier && nat_le 2 (length earlier)

-- What is wrong with a line after the lines before it: the least kind. None of those lines has a
-- fault.
abbrev pub later_fault : Limits → List LineContent → LineContent → Option BaKind
later_fault limits earlier entry =
    if opens_twice earlier entry then Some TwoInitial
    else if nat_lt limits.states (length (names_of (earlier ++ entry ∷ []))) then Some TooManyStates
    else if nat_lt limits.labels (length (labels_of (earlier ++ entry ∷ [])))
    then Some TooManyLabels
    else if nat_lt limits.transitions (length (transitions_of (earlier ++ entry ∷ [])))
    then Some TooManyTransitions
    else None

-- What is wrong with a line: the least kind.
abbrev pub kind_of_line : Limits → List LineContent → List ℕ → Option BaKind
kind_of_line limits earlier line =
    option_or (own_fault line) (later_fault limits earlier (content_of line))

-- The fault of a line with this number, or else a later one.
abbrev pub or_later : ℕ → Option BaKind → Option BaFault → Option BaFault
or_later number None later = later
or_later number (Some kind) later = Some (record { line = number; kind = kind })

-- The first fault of these lines, after lines without a fault that say these entries.
abbrev pub first_fault : Limits → List LineContent → List NumberedLine → Option BaFault
first_fault limits earlier [] = None
first_fault limits earlier (line ∷ lines) =
    or_later line.number (kind_of_line limits earlier line.text)
    (first_fault limits (earlier ++ content_of line.text ∷ []) lines)

-- The fault of a text's lines: a text without any is empty.
abbrev pub fault_of_lines : Limits → List NumberedLine → Option BaFault
fault_of_lines limits [] = Some (record { line = 0; kind = Empty })
fault_of_lines limits (line ∷ lines) = first_fault limits [] (line ∷ lines)

-- The fault of a text within limits: the first faulty line, and there the least kind.
abbrev pub fault_of : List ℕ → Limits → Option BaFault
fault_of text limits = fault_of_lines limits (lines_in text)

-- What the lines of a text say.
abbrev pub contents_of : List ℕ → List LineContent
contents_of text = map (λ line. content_of line.text) (lines_in text)

-- The name of the initial state: the state of the first line if that is a state line, and else the
-- source of the first line. (Exactly one state line before the first transition line is the first
-- line, since two of them there are a fault.)
abbrev pub initial_name : List LineContent → List ℕ
initial_name [] = []
initial_name (StateLine name ∷ entries) = name
initial_name (TransitionLine label source target ∷ entries) = source

-- The number of the initial state.
abbrev pub initial_of : List LineContent → ℕ
initial_of entries = place_in same_text (names_of entries) (initial_name entries)

-- The state of a state line.
abbrev pub state_lines : LineContent → List (List ℕ)
state_lines (StateLine name) = name ∷ []
state_lines (TransitionLine label source target) = []

-- The states of the accepting lines: of each state line after the first line.
abbrev pub accepting_names : List LineContent → List (List ℕ)
accepting_names [] = []
accepting_names (first ∷ entries) = flat_map state_lines entries

-- The numbers of those states, each once.
abbrev pub accepting_numbers : List LineContent → List ℕ
accepting_numbers entries =
    first_seen (λ a b. a == b)
    (map (place_in same_text (names_of entries)) (accepting_names entries))

-- The accepting states: all states if there is no accepting line.
abbrev pub accepting_of : List LineContent → List ℕ
accepting_of entries =
    if length (accepting_names entries) == 0 then range_with_len 0 (length (names_of entries))
    else accepting_numbers entries
