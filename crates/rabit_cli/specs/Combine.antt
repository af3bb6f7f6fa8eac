-- What `union` and `intersect` have in common: two automata are read, and one is printed.
use Rattle.std.specs.Prelude.{◌≡◌, ◌+◌, ◌⊎◌, List, [], ◌∷◌, ℕ}
use Rattle.shelf_io.specs.Shelf.{FileMap}
use Rattle.shelf_io.specs.Seen.{Call}
use Rattle.auto_core.specs.Automaton.{Automaton}
use Rattle.auto_ops.specs.declared.limits.TheConstants.{MOST_STATES, MOST_LABELS, MOST_TRANSITIONS}
use Rattle.auto_ops.specs.Limits.{IsSmallResult}
use Rattle.ba_format.specs.declared.parts.Limits.{Limits}
use Rattle.ba_format.specs.declared.parts.Named.{Named}
use Rattle.ba_format.specs.declared.parts.Joined.{Joined}
use Rattle.ba_format.specs.Joining.{IsJoined}
use Rattle.ba_format.specs.Reading.{Reads}
use Rattle.ba_format.specs.Writing.{written}
use Rattle.rabit_frame.specs.declared.parts.Value.{Value}
use Rattle.rabit_frame.specs.declared.parts.Value.TheVariants as value
use Rattle.rabit_frame.specs.declared.parts.Status.TheVariants as status
use Rattle.rabit_frame.specs.declared.parts.Reply.{Reply}
use Rattle.rabit_frame.specs.Reading.{only_said}
use Rattle.rabit_frame.specs.Ending.{Sends}
use Rattle.rabit_frame.specs.FileKinds.{ReadsPair}
use Rattle.rabit_frame.specs.Replies.{too_large_reply}

-- The reply to what was read, if this is the one to the two joined automata.
abbrev pub MeansCombined : (Joined → Reply → Type 0) → List Value → Reply → Type 0
MeansCombined replies values r =
    (one two : Named)
    × (values ≡ value.Automaton one ∷ value.Automaton two ∷ [])
    × ((pair : Joined) × IsJoined one two pair × replies pair r)

-- The reply of an operation whose results are these: the text of a result over the labels, or that
-- it would be too large.
abbrev pub IsCombinedReply : (Automaton → Type 0) → Type 0 → List (List ℕ) → Reply → Type 0
IsCombinedReply is_result is_too_large labels r =
    (is_too_large × (r ≡ too_large_reply))
    ⊎ ((C : Automaton) × is_result C × IsSmallResult C
    × (r ≡ only_said status.Done (written C labels)))

-- The status of a result for these files: 12 if that of the two automata would be too large, and
-- otherwise 0.
abbrev pub IsCombinedStatus : (Joined → Type 0) → FileMap → List ℕ → List ℕ → ℕ → Type 0
IsCombinedStatus is_too_large files a b status =
    (pair : Joined) × ReadsPair files a b pair
    × ((is_too_large pair × (status ≡ 12)) ⊎ (¬ is_too_large pair × (status ≡ 0)))

-- The automaton with the texts of its labels.
abbrev pub with_texts : Automaton → List (List ℕ) → Named
with_texts A labels = record { auto = A; names = []; labels = labels }

-- The most states, labels and transitions of the text of a result: one state more than a result may
-- have, for the line that keeps an automaton without accepting states from reading as one whose
-- states all are.
abbrev pub result_limits : Limits
result_limits =
    record { states = MOST_STATES + 1; labels = MOST_LABELS; transitions = MOST_TRANSITIONS }

-- The text reads as an automaton within these limits. Whatever it reads as, joined to the pair by
-- its labels' texts, so that the pair's labels keep their numbers, accepts what is asked.
pub record ReadsBackFor (pair : Joined) (accepts : Automaton → Type 0)
    (text : List ℕ) : Type 0 where
  pub reads : (again : Named) × Reads text result_limits again
  pub joined : (limits : Limits) (again : Named) (joined : Joined) → Reads text limits again
      → IsJoined (with_texts pair.first pair.labels) again joined → accepts joined.second

-- The named files read as two automata, and what was sent is the text of a result of the operation
-- on them. The result accepts what is asked, and so does what its text reads as.
pub record IsCombinedShown (files : FileMap) (a b : List ℕ)
    (is_result accepts : Joined → Automaton → Type 0) (call : Call) : Type 0 where
  pub pair : Joined
  pub combined : Automaton
  pub read : ReadsPair files a b pair
  pub is_result_of : is_result pair combined
  pub within : IsSmallResult combined
  pub accepts_so : accepts pair combined
  pub reads_back : ReadsBackFor pair (accepts pair) (written combined pair.labels)
  pub printed : Sends (written combined pair.labels) call.before.sink call.after.sink

-- What a status up to 2 shows: 0 a result, and 1 and 2 do not come.
pub record ShowsCombined (a b : List ℕ) (is_result accepts : Joined → Automaton → Type 0)
    (call : Call) (files : FileMap) : Type 0 where
  pub shown : call.status ≡ 0 → IsCombinedShown files a b is_result accepts call
  pub no_other : ¬ (call.status ≡ 1) × ¬ (call.status ≡ 2)
