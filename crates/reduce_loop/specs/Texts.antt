-- What the written text of an automaton tells of it.
use Rattle.std.specs.Prelude.{◌≡◌, ℕ, List, [], map, slice_index_or}
use Rattle.auto_core.specs.declared.parts.Trans.{Trans}
use Rattle.auto_core.specs.declared.parts.Mode.{Mode}
use Rattle.auto_core.specs.Automaton.{Automaton}
use Rattle.auto_core.specs.Useful.{IsTrimmed}
use Rattle.ba_format.specs.Joining.{relabelled}
use Rattle.ba_format.specs.Laws.{IsWritable}
use Rattle.ba_format.specs.Writing.{written}
use Rattle.reduce_loop.specs.declared.steps.Foresight.{Foresight}
use Rattle.reduce_loop.specs.Settled.{IsSettled}

-- The transition with the text of its label in place of the label's number.
abbrev pub with_text : List (List ℕ) → Trans → ℕ × List ℕ × ℕ
with_text labels t = (t.source, slice_index_or labels t.label [], t.target)

-- The automata have the same states, the same initial state and accepting states, and place by
-- place the same transitions, their labels compared by their texts.
pub record AreSameByTexts (A : Automaton) (labels : List (List ℕ)) (B : Automaton)
    (others : List (List ℕ)) : Type 0 where
  pub states : A.states ≡ B.states
  pub initial : A.initial ≡ B.initial
  pub accepting : A.accepting ≡ B.accepting
  pub transitions : map (with_text labels) A.transitions ≡ map (with_text others) B.transitions

-- Settled automata with the same text are the same by their labels' texts: at most they differ in
-- the numbers of the labels and in labels that no transition has.
abbrev pub SettledTextTells : Type 0
SettledTextTells =
    (A B : Automaton) (labels others : List (List ℕ)) (mode other : Mode)
    (sight farther : Foresight)
    → IsWritable A labels
    → IsWritable B others
    → IsSettled A mode sight
    → IsSettled B other farther
    → written A labels ≡ written B others
    → AreSameByTexts A labels B others

-- It is enough that both are their own trimmed automata.
abbrev pub TrimmedTextTells : Type 0
TrimmedTextTells =
    (A B : Automaton) (labels others : List (List ℕ)) (mode other : Mode)
    → IsWritable A labels
    → IsWritable B others
    → IsTrimmed A mode A
    → IsTrimmed B other B
    → written A labels ≡ written B others
    → AreSameByTexts A labels B others

-- Automata that are the same by their labels' texts have the same text.
abbrev pub SameByTextsIsWritten : Type 0
SameByTextsIsWritten =
    (A B : Automaton) (labels others : List (List ℕ))
    → AreSameByTexts A labels B others
    → written A labels ≡ written B others

-- The transitions of the second are then those of the first, each label with the number that its
-- text has among the second's labels.
abbrev pub SameByTextsRenumbers : Type 0
SameByTextsRenumbers =
    (A B : Automaton) (labels others : List (List ℕ))
    → IsWritable B others
    → AreSameByTexts A labels B others
    → map (relabelled labels others) A.transitions ≡ B.transitions

-- So with the same labels they are the same automaton.
abbrev pub SameByTextsIsSame : Type 0
SameByTextsIsSame =
    (A B : Automaton) (labels : List (List ℕ))
    → IsWritable A labels
    → IsWritable B labels
    → A.labels ≡ B.labels
    → AreSameByTexts A labels B labels
    → A ≡ B
