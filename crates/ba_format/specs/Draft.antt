-- What the reader holds after the lines so far.
use Rattle.std.specs.Prelude.{◌≡◌, ℕ, ◌^◌, ◌≤◌, ◌<◌, ◌==◌, true, false, List, [], ◌∷◌, ◌++◌, length, map, Option, None, Some, Result, MatchResult}
use Rattle.std.specs.List.{list_all}
use Rattle.auto_core.specs.declared.parts.Trans.{Trans}
use Rattle.auto_core.specs.Automaton.{trans}
use Rattle.ba_format.specs.declared.parts.BaKind.{BaKind}
use Rattle.ba_format.specs.declared.parts.BaFault.{BaFault}
use Rattle.ba_format.specs.declared.parts.ReadFault.{ReadFault}
use Rattle.ba_format.specs.declared.parts.ReadFault.TheVariants.{Ba, Memory as OutOfMemory}
use Rattle.ba_format.specs.declared.parts.Limits.{Limits}
use Rattle.ba_format.specs.declared.draft.Opening.{Opening}
use Rattle.ba_format.specs.declared.draft.Opening.TheVariants.{Nothing, OneState, States, Transitions}
use Rattle.ba_format.specs.declared.draft.NotTaken.{NotTaken}
use Rattle.ba_format.specs.declared.draft.NotTaken.TheVariants.{Line, Memory}
use Rattle.ba_format.specs.declared.draft.Draft.{Draft}
use Rattle.ba_format.specs.Grammar.{LineContent, content_of}
use Rattle.ba_format.specs.Sight.{noted}
use Rattle.ba_format.specs.Faults.{names_of, labels_of, transitions_of, accepting_numbers, is_state_line, same_trans, later_fault, kind_of_line}

-- The transition with these numbers of source, label and target.
abbrev pub trans_with : ℕ × ℕ × ℕ → Trans
trans_with t = trans t.0 t.1 t.2

-- How the lines begin.
abbrev pub Opens : Opening → List LineContent → Type 0
Opens Nothing entries = entries ≡ []
Opens OneState entries = (length entries ≡ 1) × (list_all is_state_line entries ≡ true)
Opens States entries = (2 ≤ length entries) × (list_all is_state_line entries ≡ true)
Opens Transitions entries = (0 < length entries) × (list_all is_state_line entries ≡ false)

-- The draft stands for what these lines say.
pub record Stands (draft : Draft) (entries : List LineContent) : Type 0 where
  pub names : draft.names ≡ names_of entries
  pub labels : draft.labels ≡ labels_of entries
  pub transitions : map trans_with draft.transitions.keys ≡ transitions_of entries
  pub accepting : draft.accepting.keys ≡ accepting_numbers entries
  pub opening : Opens draft.opening entries

-- No more states, labels and transitions than the limits say.
pub record Fits (limits : Limits) (entries : List LineContent) : Type 0 where
  pub states : length (names_of entries) ≤ limits.states
  pub labels : length (labels_of entries) ≤ limits.labels
  pub transitions : length (transitions_of entries) ≤ limits.transitions

-- How the lines begin, with one more state line.
abbrev pub after_state : Opening → Opening
after_state Nothing = OneState
after_state OneState = States
after_state States = States
after_state Transitions = Transitions

-- The accepting states, with one more state line: the first line is none.
abbrev pub accepting_after : Opening → List ℕ → ℕ → List ℕ
accepting_after Nothing accepting at = accepting
accepting_after OneState accepting at = noted (λ a b. a == b) accepting at
accepting_after States accepting at = noted (λ a b. a == b) accepting at
accepting_after Transitions accepting at = noted (λ a b. a == b) accepting at

-- One more state line was noted.
pub record NotesState (old : Draft) (at : ℕ) (new : Draft) : Type 0 where
  pub names : new.names ≡ old.names
  pub labels : new.labels ≡ old.labels
  pub transitions : new.transitions ≡ old.transitions
  pub opening : new.opening ≡ after_state old.opening
  pub accepting : new.accepting.keys ≡ accepting_after old.opening old.accepting.keys at

-- One more transition line was noted.
pub record NotesTransition (old : Draft) (t : ℕ × ℕ × ℕ) (new : Draft) : Type 0 where
  pub names : new.names ≡ old.names
  pub labels : new.labels ≡ old.labels
  pub transitions : map trans_with new.transitions.keys
      ≡ noted same_trans (map trans_with old.transitions.keys) (trans_with t)
  pub opening : new.opening ≡ Transitions
  pub accepting : new.accepting ≡ old.accepting

-- The line was not taken since there are more than the limit, or for want of memory.
abbrev pub PastLimit : BaKind → ℕ → ℕ → NotTaken → Type 0
PastLimit past limit count (Line kind) = (kind ≡ past) × (limit < count)
PastLimit past limit count Memory = Unit {0}

-- The line was not taken for this fault, or for want of memory.
abbrev pub TellsKind : Option BaKind → NotTaken → Type 0
TellsKind fault (Line kind) = fault ≡ Some kind
TellsKind fault Memory = Unit {0}

-- A line that says this entry was taken exactly if it has no fault after the lines before it.
abbrev pub Takes : Limits → List LineContent → LineContent → Draft → Result (Unit {0}) NotTaken
    → Type 0
Takes limits entries entry draft r =
    MatchResult r
    (λ _. (later_fault limits entries entry ≡ None) × Stands draft (entries ++ entry ∷ [])
    × Fits limits (entries ++ entry ∷ []))
    (TellsKind (later_fault limits entries entry))

-- The same of a trimmed line, which may have a fault of its own.
abbrev pub TakesLine : Limits → List LineContent → List ℕ → Draft → Result (Unit {0}) NotTaken
    → Type 0
TakesLine limits entries line draft r =
    MatchResult r
    (λ _. (kind_of_line limits entries line ≡ None) × Stands draft (entries ++ content_of line ∷ [])
    × Fits limits (entries ++ content_of line ∷ []))
    (TellsKind (kind_of_line limits entries line))

-- The draft stands for some lines, and has no more transitions than a u32 counts.
pub record IsReadyDraft (draft : Draft) : Type 0 where
  pub entries : List LineContent
  pub stands : Stands draft entries
  pub some : 0 < length entries
  pub few : length (transitions_of entries) < 2 ^ 32

-- The fault of the text is told, or want of memory.
abbrev pub TellsFault : Option BaFault → ReadFault → Type 0
TellsFault fault (Ba told) = fault ≡ Some told
TellsFault fault OutOfMemory = Unit {0}
