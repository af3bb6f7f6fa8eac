-- `batch LIST`: the questions of a list are carried out one after the other, and a line is said of
-- each.
use Rattle.std.specs.Prelude.{◌≡◌, ◌≢◌, ℕ, ◌+◌, ◌-◌, ◌^◌, ◌≤◌, ◌==◌, ◌⊎◌, min, List, [], ◌∷◌, ◌++◌, length, take, map, All, Some, None, IfSome, true, decimal, if◌then◌else◌}
use Rattle.std.specs.FinMap as files
use Rattle.std.specs.List.{list_all}
use Rattle.shelf_io.specs.Counts.{Rose, counted}
use Rattle.shelf_io.specs.Shelf.{FileMap, WhichFile}
use Rattle.shelf_io.specs.Seen.{ShelfSeen, SinkSeen, Call, call as call_of}
use Rattle.auto_core.specs.declared.parts.Mode.TheVariants.{Buchi}
use Rattle.equal_batch.specs.declared.questions.Question.{Question}
use Rattle.equal_batch.specs.declared.questions.TheConstants.{MOST_LINES}
use Rattle.equal_batch.specs.Questions.{is_question, line_of}
use Rattle.rabit_frame.specs.declared.parts.FileKind.TheVariants as kind
use Rattle.rabit_frame.specs.declared.parts.Value.{Value}
use Rattle.rabit_frame.specs.declared.parts.Value.TheVariants as value
use Rattle.rabit_frame.specs.declared.parts.Reply.{Reply}
use Rattle.rabit_frame.specs.declared.parts.Ending.{Ending}
use Rattle.rabit_frame.specs.Files.{Input}
use Rattle.rabit_frame.specs.Request.{Request, request_with, only_reading}
use Rattle.rabit_frame.specs.Lines.{line_end}
use Rattle.rabit_frame.specs.Statuses.{status_number}
use Rattle.rabit_frame.specs.Reading.{FileReads}
use Rattle.rabit_frame.specs.Ending.{IsReplyFor, BeforeAndAfter, Leaves, Sends, filed, status_of}
use Rattle.rabit_frame.specs.Carrying.{EndsSo, IsCarriedOut, FaultsHaveCauses, BegunByStatus, MissesInTurn, CallsShelf, IfResult}
use Rattle.rabit_cli.specs.Include.{usual_terms, MeansInclude, ShowsInclude}
use Rattle.rabit_frame.specs.FileKinds.{pair_inputs}

-- ---- one question

-- A question is carried out as `include` with its three names, over lassos, with the usual
-- lookahead and limit.
abbrev pub question_inputs : Question → List Input
question_inputs q = pair_inputs q.first q.second

abbrev pub MeansQuestion : Question → List Value → Reply → Type 0
MeansQuestion q = MeansInclude q.cert (usual_terms Buchi)

abbrev pub question_request : Question → Request
question_request q = request_with (question_inputs q) (MeansQuestion q)

-- The statuses of questions: those of an inclusion's results, that of a faulty file, and those of
-- the outside and of want of memory.
abbrev pub IsQuestionStatus : ℕ → Type 0
IsQuestionStatus status = (status ≤ 2) ⊎ (status ≡ 4) ⊎ (status ≡ 6) ⊎ (status ≡ 7) ⊎ (status ≡ 8)

-- A sink that tells nothing, and to which nothing was given.
abbrev pub silent : SinkSeen
silent = record { sent = None; gives = 0; give_faults = 0 }

-- A call that says nothing, as that for a question.
abbrev pub unsaid : ℕ → ShelfSeen → ShelfSeen → Call
unsaid status old new = call_of old new silent silent status

-- The question, asked of the one files, ended with this status and left the others.
abbrev pub LeavesQuestion : Question → ℕ → FileMap → FileMap → Type 0
LeavesQuestion q status files files' =
    (end : Ending) × Leaves (question_request q) end files files' × (status_of end ≡ status)

-- Whatever is the right reply: its status is answered and its files are written, unless a call of
-- the shelf failed or memory was refused.
abbrev pub AnswersQuestion : Question → ℕ → ShelfSeen → ShelfSeen → FileMap → Type 0
AnswersQuestion q status old new files =
    (r : Reply)
    → IsReplyFor (question_request q) files r
    → ((status ≡ status_number r.status) × (new.files ≡ Some (filed files r.puts)))
    ⊎ Rose old.read_faults new.read_faults
    ⊎ Rose old.put_faults new.put_faults
    ⊎ (status ≡ 8)

-- What a status up to 2 of a question shows: what the same status of `include` does, with nothing
-- printed.
abbrev pub ShowsQuestion : Question → ℕ → ShelfSeen → ShelfSeen → Type 0
ShowsQuestion q status old new =
    IfResult (unsaid status old new)
    (ShowsInclude q.first q.second q.cert (usual_terms Buchi) (unsaid status old new))

-- The files of its automata are there.
abbrev pub AutomataAreThere : FileMap → Question → Type 0
AutomataAreThere held q =
    (files.contains_key held q.first ≡ true) × (files.contains_key held q.second ≡ true)

-- The three names of each question are words.
abbrev pub AreQuestions : List Question → Type 0
AreQuestions questions = list_all is_question (map line_of questions) ≡ true

-- ---- one after the other

-- A read failed just where the status is 6, and a put just where it is 7; at 8 no file changed.
pub record ShelfFaults (status : ℕ) (old new : ShelfSeen) : Type 0 where
  pub read_fault : status ≡ 6 → Rose old.read_faults new.read_faults
  pub no_read_fault : status ≢ 6 → new.read_faults ≡ old.read_faults
  pub write_fault : status ≡ 7 → Rose old.put_faults new.put_faults
  pub no_write_fault : status ≢ 7 → new.put_faults ≡ old.put_faults
  pub memory : status ≡ 8 → new.files ≡ old.files

-- The question came to an end with this status. It began just the files that the status needs, each
-- once, and put those of its reply once each, up to one that was refused; and each fault has its
-- count.
pub record IsAskedOf (q : Question) (status : ℕ) (old new : ShelfSeen) : Type 0 where
  pub end : Ending
  pub ends : EndsSo (question_request q) end old new
  pub has : status_of end ≡ status
  pub calls : CallsShelf (question_request q) status old new
  pub faults : ShelfFaults status old new

-- The first questions, one for each status, ended with these, each asked of the shelf as the one
-- before it left it. No call was made for a later question.
abbrev pub LeaveInTurn : List Question → List ℕ → ShelfSeen → ShelfSeen → Type 0
LeaveInTurn questions [] old new = new ≡ old
LeaveInTurn [] (status ∷ statuses) old new = ⊥
LeaveInTurn (q ∷ questions) (status ∷ statuses) old new =
    (between : ShelfSeen) × IsAskedOf q status old between
    × LeaveInTurn questions statuses between new

-- The first questions, one for each status, were asked so, each of the files that the one before it
-- left, and each status up to 2 shows what that of
-- `include` does, of the files as they were when its question was asked and as that left them.
abbrev pub ShowInTurn : List Question → List ℕ → ShelfSeen → ShelfSeen → Type 0
ShowInTurn questions [] old new = new ≡ old
ShowInTurn [] (status ∷ statuses) old new = ⊥
ShowInTurn (q ∷ questions) (status ∷ statuses) old new =
    (between : ShelfSeen)
    × BeforeAndAfter old.files between.files (LeavesQuestion q status)
    × ShowsQuestion q status old between
    × ShowInTurn questions statuses between new

-- The line of the question with this number.
abbrev pub question_line : ℕ → ℕ → List ℕ
question_line number status = decimal number ++ (32 ∷ (decimal status ++ line_end))

-- The lines of questions with these statuses, numbered from this number on.
abbrev pub question_lines : ℕ → List ℕ → List ℕ
question_lines number [] = []
question_lines number (status ∷ statuses) =
    question_line number status ++ question_lines (number + 1) statuses

-- Every question was carried out and its line sent.
abbrev pub AllSaid : ℕ → List Question → List ℕ → ℕ → SinkSeen → SinkSeen → Type 0
AllSaid number questions statuses status old new =
    (status ≡ 0)
    × (length statuses ≡ length questions)
    × Sends (question_lines number statuses) old new
    × (new.give_faults ≡ old.give_faults)

-- The sink refused the line of the last question that was carried out, and took a front of it.
abbrev pub LastRefused : ℕ → List ℕ → ℕ → SinkSeen → SinkSeen → Type 0
LastRefused number statuses status old new =
    (status ≡ 7)
    × Rose old.give_faults new.give_faults
    × ((before : List ℕ)
    × (last : ℕ)
    × (statuses ≡ before ++ last ∷ [])
    × ((n : ℕ)
    × Sends (question_lines number before
    ++ take n (question_line (number + length before) last)) old new))

-- By the count of gives: each of these statuses was given once, in a line of its own.
abbrev pub GivenEach : List ℕ → ℕ → ℕ → Type 0
GivenEach [] before now = now ≡ before
GivenEach (status ∷ statuses) before now = GivenEach statuses (counted before) now

-- How often the status is among these.
abbrev pub times : ℕ → List ℕ → ℕ
times status [] = 0
times status (one ∷ more) = if one == status then 1 + times status more else times status more

-- The count rose by so many at least, or stands at 2^64 - 1.
abbrev pub RoseBy : ℕ → ℕ → ℕ → Type 0
RoseBy n before now = min (before + n) (2 ^ 64 - 1) ≤ now

-- The questions were carried out one after the other, the first with this number, until all were or
-- the sink refused a line. Each line was one give. The count of failed reads rose once at least for
-- each status 6, and did not change where there is none; so did that of failed puts for 7.
pub record IsCarriedEach (number : ℕ) (questions : List Question) (call : Call) : Type 0 where
  pub statuses : List ℕ
  pub within : length statuses ≤ length questions
  pub known : All IsQuestionStatus statuses
  pub said : AllSaid number questions statuses call.status call.before.sink call.after.sink
      ⊎ LastRefused number statuses call.status call.before.sink call.after.sink
  pub given_each : GivenEach statuses call.before.sink.gives call.after.sink.gives
  pub in_turn : LeaveInTurn questions statuses call.before.shelf call.after.shelf
  pub read_faults_rose : RoseBy (times 6 statuses) call.before.shelf.read_faults
      call.after.shelf.read_faults
  pub put_faults_rose : RoseBy (times 7 statuses) call.before.shelf.put_faults
      call.after.shelf.put_faults
  pub read_faults_stay : times 6 statuses ≡ 0
      → call.after.shelf.read_faults ≡ call.before.shelf.read_faults
  pub put_faults_stay : times 7 statuses ≡ 0
      → call.after.shelf.put_faults ≡ call.before.shelf.put_faults
  pub missed_stays : IfSome
      call.before.shelf.files (λ files.
      All (AutomataAreThere files) questions → call.after.shelf.missed ≡ call.before.shelf.missed)

-- ---- the whole batch

-- The list's file.
abbrev pub list_file : List ℕ → Input
list_file name = record { name = name; kind = kind.Questions }

-- The files that a batch reads before its questions, after which it goes on by itself.
abbrev pub batch_inputs : List ℕ → List Input
batch_inputs list = list_file list ∷ []

-- A batch ends without a question: the list could not be read, has a fault, or memory was refused.
abbrev pub IsStatusOfNoneAsked : ℕ → Type 0
IsStatusOfNoneAsked status = (status ≡ 6) ⊎ (status ≡ 8) ⊎ (status ≡ 11)

-- No question was carried out, and why was said, in one give. Nothing was put.
pub record NoneAsked (list : List ℕ) (call : Call) : Type 0 where
  pub carried : IsCarriedOut (only_reading (batch_inputs list)) call
  pub known : IsStatusOfNoneAsked call.status
  pub given_once : call.after.sink.gives ≡ counted call.before.sink.gives
  pub missing : MissesInTurn (batch_inputs list) call.before.shelf call.after.shelf
  pub begun : BegunByStatus (batch_inputs list) call.status call.before.shelf call.after.shelf
  pub puts_stay : call.after.shelf.puts ≡ call.before.shelf.puts

-- The shelf once one more file was begun and read; which file a read was refused of before is not
-- told.
abbrev pub after_reading : ShelfSeen → WhichFile → ShelfSeen
after_reading seen blamed = record seen { begins = counted seen.begins; blamed = blamed }

-- The rest of a call, from this shelf on.
abbrev pub from_shelf : ShelfSeen → Call → Call
from_shelf shelf whole =
    call_of shelf whole.after.shelf whole.before.sink whole.after.sink whole.status

-- The list, the first file begun, was read, and its questions were carried out from the first on.
pub record AreAsked (list : List ℕ) (call : Call) : Type 0 where
  pub questions : List Question
  pub words : AreQuestions questions
  pub few : length questions ≤ MOST_LINES
  pub read : IfSome
      call.before.shelf.files (λ files.
      FileReads files (list_file list) (value.Questions questions))
  pub blamed : WhichFile
  pub each : IsCarriedEach 1 questions (from_shelf (after_reading call.before.shelf blamed) call)

-- A batch whose lines were all given ends with 0, with 11 for a list with a fault, with 8 for want
-- of memory before its first question, and with 6 only where a read failed.
abbrev pub EndsBatch : Call → Type 0
EndsBatch call =
    (call.status ≡ 0)
    ⊎ (call.status ≡ 11)
    ⊎ (call.status ≡ 8)
    ⊎ ((call.status ≡ 6) × Rose call.before.shelf.read_faults call.after.shelf.read_faults)
    ⊎ Rose call.before.sink.give_faults call.after.sink.give_faults

-- How a batch goes: none of its questions was carried out, or they were, one after the other; what
-- its faults come of; and its status.
pub record IsBatch (list : List ℕ) (call : Call) : Type 0 where
  pub how : NoneAsked list call ⊎ AreAsked list call
  pub cause : FaultsHaveCauses call
  pub ends : EndsBatch call
