-- Joins of automata that were read, and what a written automaton reads as.
use Rattle.std.specs.Prelude.{◌≡◌, ℕ, ◌+◌, ◌^◌, ◌<◌, ◌≤◌, List, length}
use Rattle.auto_core.specs.Automaton.{Automaton}
use Rattle.auto_core.specs.Accept.{Includes, Same}
use Rattle.auto_core.specs.declared.parts.Mode.{Mode}
use Rattle.ba_format.specs.declared.parts.Limits.{Limits}
use Rattle.ba_format.specs.declared.parts.Named.{Named}
use Rattle.ba_format.specs.declared.parts.Joined.{Joined}
use Rattle.ba_format.specs.Reading.{Reads}
use Rattle.ba_format.specs.Joining.{joined_labels, IsJoined}
use Rattle.ba_format.specs.Writing.{written}
use Rattle.ba_format.specs.Laws.{IsWritable, CountsFit}

-- Two automata that were read have a join, if a u32 counts the joined labels.
abbrev pub ReadAutomataJoin : Type 0
ReadAutomataJoin =
    (text other : List ℕ) (limits bounds : Limits) (one two : Named)
    → Reads text limits one
    → Reads other bounds two
    → length (joined_labels one.labels two.labels) < 2 ^ 32
    → (joined : Joined) × IsJoined one two joined

-- The joined labels are no more than the labels of both.
abbrev pub JoinedLabelsAreFew : Type 0
JoinedLabelsAreFew =
    (first second : List (List ℕ))
    → length (joined_labels first second) ≤ length first + length second

-- Both automata are valid, have just these labels, and can be written with them.
pub record AreOverLabels (labels : List (List ℕ)) (A B : Automaton) : Type 0 where
  pub first_labels : A.labels ≡ length labels
  pub second_labels : B.labels ≡ length labels
  pub first : IsWritable A labels
  pub second : IsWritable B labels

-- A join of two automata that were read is two automata over the joined labels.
abbrev pub JoinIsOverLabels : Type 0
JoinIsOverLabels =
    (text other : List ℕ) (limits bounds : Limits) (one two : Named) (joined : Joined)
    → Reads text limits one
    → Reads other bounds two
    → IsJoined one two joined
    → AreOverLabels joined.labels joined.first joined.second

-- Which of two read automata is joined as the first does not matter: where the one includes the
-- other, so it does over the labels of the other order.
abbrev pub JoinOrderDoesNotMatter : Type 0
JoinOrderDoesNotMatter =
    (text other : List ℕ) (limits bounds : Limits) (one two : Named) (joined converse : Joined)
    (mode : Mode)
    → Reads text limits one
    → Reads other bounds two
    → IsJoined one two joined
    → IsJoined two one converse
    → Includes joined.first joined.second mode
    → Includes converse.second converse.first mode

-- A written automaton has a join with what its text reads as, over its own labels, if a u32 counts
-- them.
abbrev pub WrittenJoins : Type 0
WrittenJoins =
    (A : Automaton) (labels names : List (List ℕ)) (limits : Limits) (read : Named)
    → IsWritable A labels
    → length labels < 2 ^ 32
    → Reads (written A labels) limits read
    → (joined : Joined) × IsJoined (record { auto = A; names = names; labels = labels }) read joined
    × (joined.labels ≡ labels)

-- The text that is written for A reads as an automaton that joins with A and accepts the same in
-- both modes.
pub record ReadsBack (A : Automaton) (labels names : List (List ℕ)) (limits : Limits) : Type 0 where
  pub read : Named
  pub joined : Joined
  pub reads : Reads (written A labels) limits read
  pub joins : IsJoined (record { auto = A; names = names; labels = labels }) read joined
  pub same_labels : joined.labels ≡ labels
  pub same : (mode : Mode) → Same joined.first joined.second mode

-- So it is with each automaton that can be written, if its text brings no more than the limits say
-- and a u32 holds the limits.
abbrev pub WrittenIsThere : Type 0
WrittenIsThere =
    (A : Automaton) (labels names : List (List ℕ)) (limits : Limits)
    → limits.states < 2 ^ 32
    → limits.labels < 2 ^ 32
    → limits.transitions < 2 ^ 32
    → IsWritable A labels
    → length labels < 2 ^ 32
    → CountsFit (written A labels) limits
    → ReadsBack A labels names limits
