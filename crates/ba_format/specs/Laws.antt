-- Laws of reading, joining and writing.
use Rattle.std.specs.Prelude.{◌≡◌, ℕ, ◌+◌, ◌-◌, ◌^◌, ◌<◌, ◌≤◌, false, List, length, All, slice_index, None}
use Rattle.std.specs.List.{list_any}
use Rattle.auto_core.specs.Automaton.{Automaton, IsAutomaton}
use Rattle.auto_core.specs.Accept.{Same}
use Rattle.auto_core.specs.declared.parts.Mode.{Mode}
use Rattle.ba_format.specs.declared.parts.Limits.{Limits}
use Rattle.ba_format.specs.declared.parts.Named.{Named}
use Rattle.ba_format.specs.declared.parts.Joined.{Joined}
use Rattle.ba_format.specs.declared.lines.TheConstants.{TOKEN_LIMIT}
use Rattle.ba_format.specs.Sight.{AreDifferent}
use Rattle.ba_format.specs.Grammar.{is_bad, is_blank, is_comma, arrows}
use Rattle.ba_format.specs.Faults.{fault_of, contents_of, names_of, labels_of, transitions_of}
use Rattle.ba_format.specs.Reading.{Reads, IsWithinLimits}
use Rattle.ba_format.specs.Joining.{IsJoined}
use Rattle.ba_format.specs.Writing.{written}

-- A text reads as one automaton with names and labels at most.
abbrev pub ReadsAsOne : Type 0
ReadsAsOne =
    (text : List ℕ) (limits : Limits) (one two : Named) → Reads text limits one
    → Reads text limits two → one ≡ two

-- A text without a fault reads as some automaton with names and labels, if a u32 holds each of the
-- limits.
abbrev pub FaultlessReads : Type 0
FaultlessReads =
    (text : List ℕ) (limits : Limits)
    → limits.states < 2 ^ 32
    → limits.labels < 2 ^ 32
    → limits.transitions < 2 ^ 32
    → fault_of text limits ≡ None
    → (read : Named) × Reads text limits read

-- What a text reads as stays within the limits.
abbrev pub ReadIsWithin : Type 0
ReadIsWithin =
    (text : List ℕ) (limits : Limits) (named : Named) → Reads text limits named
    → IsWithinLimits limits named

-- Two read automata are joined in one way.
abbrev pub JoinsAsOne : Type 0
JoinsAsOne =
    (first second : Named) (one two : Joined) → IsJoined first second one
    → IsJoined first second two → one ≡ two

-- A text that a transition line can have as its label: 1 to 255 bytes that a token may hold,
-- without a comma, without `->`, without a blank at its ends.
pub record IsLabelText (text : List ℕ) : Type 0 where
  pub some : 0 < length text
  pub short : length text ≤ TOKEN_LIMIT
  pub good : list_any is_bad text ≡ false
  pub no_comma : list_any is_comma text ≡ false
  pub no_arrow : arrows text ≡ 0
  pub begins : is_blank (slice_index text 0) ≡ false
  pub ends : is_blank (slice_index text (length text - 1)) ≡ false

-- The labels of what a text reads as are label texts, all different: with them every automaton over
-- them can be written.
abbrev pub LabelsFit : Type 0
LabelsFit =
    (text : List ℕ) (limits : Limits) (read : Named) → Reads text limits read
    → All IsLabelText read.labels × AreDifferent read.labels

-- The automaton can be written with these labels.
pub record IsWritable (A : Automaton) (labels : List (List ℕ)) : Type 0 where
  pub valid : IsAutomaton A
  pub all_named : A.labels ≤ length labels
  pub different : AreDifferent labels
  pub fit : All IsLabelText labels

-- The states, labels and transitions that the text brings stay within the limits.
pub record CountsFit (text : List ℕ) (limits : Limits) : Type 0 where
  pub states : length (names_of (contents_of text)) ≤ limits.states
  pub labels : length (labels_of (contents_of text)) ≤ limits.labels
  pub transitions : length (transitions_of (contents_of text)) ≤ limits.transitions

-- A written text whose counts stay within the limits has no fault.
abbrev pub WrittenReads : Type 0
WrittenReads =
    (A : Automaton) (labels : List (List ℕ)) (limits : Limits) → IsWritable A labels
    → CountsFit (written A labels) limits → fault_of (written A labels) limits ≡ None

-- A written text brings no more labels and transitions than the automaton has, and at most one
-- state more: that of the extra accepting line.
abbrev pub WrittenCounts : Type 0
WrittenCounts =
    (A : Automaton) (labels : List (List ℕ))
    → IsWritable A labels
    → CountsFit (written A labels)
    (record { states = A.states + 1; labels = A.labels; transitions = length A.transitions })

-- So it has no fault within limits that leave room for the automaton and for one state more.
abbrev pub WrittenIsRead : Type 0
WrittenIsRead =
    (A : Automaton) (labels : List (List ℕ)) (limits : Limits)
    → IsWritable A labels
    → A.states + 1 ≤ limits.states
    → A.labels ≤ limits.labels
    → length A.transitions ≤ limits.transitions
    → fault_of (written A labels) limits ≡ None

-- What it reads as and the written automaton, joined by their labels' texts, accept the same lassos
-- and the same words.
abbrev pub WrittenReadsBack : Type 0
WrittenReadsBack =
    (A : Automaton) (labels names : List (List ℕ)) (limits : Limits) (read : Named)
    (joined : Joined) (mode : Mode)
    → IsWritable A labels
    → Reads (written A labels) limits read
    → IsJoined (record { auto = A; names = names; labels = labels }) read joined
    → Same joined.first joined.second mode
