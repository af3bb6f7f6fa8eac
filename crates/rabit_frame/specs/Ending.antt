-- How a command ends: its reply is right, its files are written in order, and its text is given.
use Rattle.std.specs.Prelude.{◌≡◌, ℕ, ◌≤◌, ◌⊎◌, List, [], ◌∷◌, length, take, Option, Some, None, IfSome}
use Rattle.std.specs.FinMap as map
use Rattle.std.specs.Io.KnownBytes.{append_known}
use Rattle.shelf_io.specs.Counts.{Rose, counted}
use Rattle.shelf_io.specs.Shelf.{FileMap}
use Rattle.shelf_io.specs.Seen.{SinkSeen}
use Rattle.rabit_frame.specs.declared.parts.Value.{Value}
use Rattle.rabit_frame.specs.declared.parts.Reply.{Reply}
use Rattle.rabit_frame.specs.declared.parts.Ending.{Ending}
use Rattle.rabit_frame.specs.declared.parts.Ending.TheVariants as ending
use Rattle.rabit_frame.specs.Files.{Output}
use Rattle.rabit_frame.specs.Request.{Request}
use Rattle.rabit_frame.specs.Lines.{read_line, write_line, memory_line}
use Rattle.rabit_frame.specs.Statuses.{status_number, number_unsent}
use Rattle.rabit_frame.specs.Reading.{ReadInTurn, AreOfKinds, StopInTurn, MayStop}

-- The right reply for these files: that of the first file that is not read, or what the values that
-- they read as mean.
abbrev pub IsReplyFor : Request → FileMap → Reply → Type 0
IsReplyFor q files r =
    StopInTurn files q.inputs r
    ⊎ ((values : List Value) × ReadInTurn files q.inputs values × q.means values r)

-- A reply that may come, whatever the files hold.
abbrev pub MayReply : Request → Reply → Type 0
MayReply q r =
    MayStop q.inputs r ⊎ ((values : List Value) × AreOfKinds q.inputs values × q.means values r)

-- A reply that may come, and where the shelf tells its files the right one.
abbrev pub IsReplyOf : Request → Option FileMap → Reply → Type 0
IsReplyOf q held r = MayReply q r × IfSome held (λ files. IsReplyFor q files r)

-- The files after all of these were written, in order.
abbrev pub filed : FileMap → List Output → FileMap
filed files [] = files
filed files (p ∷ ps) = filed (map.insert files p.name p.bytes) ps

-- The files where a put failed: those before it are written, its own holds a front of its bytes or
-- what was there, and none after it is written.
abbrev pub IsCutShort : FileMap → List Output → FileMap → Type 0
IsCutShort files [] files' = ⊥
IsCutShort files (p ∷ ps) files' =
    (files' ≡ files)
    ⊎ ((n : ℕ) × (files' ≡ map.insert files p.name (take n p.bytes)))
    ⊎ IsCutShort (map.insert files p.name p.bytes) ps files'

-- By the count of puts: each of these files was put once.
abbrev pub PutEach : List Output → ℕ → ℕ → Type 0
PutEach [] before now = now ≡ before
PutEach (p ∷ ps) before now = PutEach ps (counted before) now

-- The files after this one was written, where the shelf tells its files.
abbrev pub with_file : Option FileMap → Output → Option FileMap
with_file None p = None
with_file (Some files) p = Some (map.insert files p.name p.bytes)

-- The put of this file failed: it holds a front of its bytes or what was there, and the others
-- stay.
abbrev pub FailsToPut : Output → Option FileMap → Option FileMap → Type 0
FailsToPut p None held' = held' ≡ None
FailsToPut p (Some files) held' =
    (held' ≡ Some files) ⊎ ((n : ℕ) × (held' ≡ Some (map.insert files p.name (take n p.bytes))))

-- Each up to one of them was put once, and none after it: the put of that one failed, and those
-- before it are written.
abbrev pub PutFront : List Output → Option FileMap → Option FileMap → ℕ → ℕ → Type 0
PutFront [] held held' before now = ⊥
PutFront (p ∷ ps) held held' before now =
    (FailsToPut p held held' × (now ≡ counted before))
    ⊎ PutFront ps (with_file held p) held' (counted before) now

-- A shelf that tells its files tells them afterwards too, and then this holds of those before and
-- those after.
abbrev pub BeforeAndAfter : Option FileMap → Option FileMap → (FileMap → FileMap → Type 0) → Type 0
BeforeAndAfter (Some files) held' P = (files' : FileMap) × (held' ≡ Some files') × P files files'
BeforeAndAfter None held' P = held' ≡ None

-- What the files are after a command that ended so. Only a reply writes, and only its own files.
abbrev pub Leaves : Request → Ending → FileMap → FileMap → Type 0
Leaves q (ending.Reached r) files files' = IsReplyFor q files r × (files' ≡ filed files r.puts)
Leaves q (ending.WriteFault) files files' =
    (r : Reply) × IsReplyFor q files r × IsCutShort files r.puts files'
Leaves q (ending.ReadFault) files files' = files' ≡ files
Leaves q (ending.OutOfMemory) files files' = files' ≡ files

-- How a command may end, whatever the shelf tells: a read fault only with a file to read, a write
-- fault only with one to write.
abbrev pub MayEnd : Request → Ending → Type 0
MayEnd q (ending.Reached r) = MayReply q r
MayEnd q (ending.WriteFault) = (r : Reply) × MayReply q r × (1 ≤ length r.puts)
MayEnd q (ending.ReadFault) = 1 ≤ length q.inputs
MayEnd q (ending.OutOfMemory) = Unit {0}

-- What is printed at the end.
abbrev pub ending_text : Ending → List ℕ
ending_text (ending.Reached r) = r.text
ending_text (ending.ReadFault) = read_line
ending_text (ending.WriteFault) = write_line
ending_text (ending.OutOfMemory) = memory_line

-- The program's status where that was sent.
abbrev pub status_of : Ending → ℕ
status_of (ending.Reached r) = status_number r.status
status_of (ending.ReadFault) = 6
status_of (ending.WriteFault) = 7
status_of (ending.OutOfMemory) = 8

-- The program's status where it was not.
abbrev pub status_unsent : Ending → ℕ
status_unsent (ending.Reached r) = number_unsent r.status
status_unsent (ending.ReadFault) = 6
status_unsent (ending.WriteFault) = 7
status_unsent (ending.OutOfMemory) = 8

-- The whole text was sent.
abbrev pub Sends : List ℕ → SinkSeen → SinkSeen → Type 0
Sends text old new = new.sent ≡ append_known old.sent text

-- The text was given: the sink took all of it, with the one status, or its count rose and it took a
-- front, with the other.
abbrev pub WasGiven : List ℕ → ℕ → ℕ → ℕ → SinkSeen → SinkSeen → Type 0
WasGiven said number unsent status old new =
    ((status ≡ number) × Sends said old new × (new.give_faults ≡ old.give_faults))
    ⊎ ((status ≡ unsent) × Rose old.give_faults new.give_faults
    × ((n : ℕ) × Sends (take n said) old new))

-- The text of the ending was given so.
abbrev pub WasSaid : Ending → ℕ → SinkSeen → SinkSeen → Type 0
WasSaid e status old new = WasGiven (ending_text e) (status_of e) (status_unsent e) status old new

-- Nothing but this line was given, at this status.
abbrev pub SaysOnly : List ℕ → ℕ → SinkSeen → SinkSeen → Type 0
SaysOnly line status old new = WasGiven line status status status old new
