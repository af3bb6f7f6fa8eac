-- What carrying out a request does to the outside, with no case on the command that it comes from.
use Rattle.std.specs.Prelude.{◌≡◌, ℕ, ◌≤◌, ◌⊎◌, List, [], take, Option, Some, None, IfSome}
use Rattle.shelf_io.specs.Counts.{Rose, counted}
use Rattle.shelf_io.specs.Shelf.{FileMap}
use Rattle.shelf_io.specs.Seen.{ShelfSeen, Call}
use Rattle.rabit_frame.specs.declared.parts.Value.{Value}
use Rattle.rabit_frame.specs.declared.parts.Reply.{Reply}
use Rattle.rabit_frame.specs.declared.parts.Ending.{Ending}
use Rattle.rabit_frame.specs.declared.parts.Ending.TheVariants as ending
use Rattle.rabit_frame.specs.Request.{Request}
use Rattle.rabit_frame.specs.Files.{Input}
use Rattle.rabit_frame.specs.Lines.{read_line, write_line, memory_line}
use Rattle.rabit_frame.specs.Statuses.{status_number, number_unsent, IsOwn}
use Rattle.rabit_frame.specs.Reading.{ReadInTurn, MissedInTurn, BegunInTurn, AllBegun, BegunForReply, BegunToBlamed}
use Rattle.rabit_frame.specs.Ending.{IsReplyFor, IsReplyOf, MayEnd, Leaves, BeforeAndAfter, filed, IsCutShort, PutEach, PutFront, Sends, WasGiven, WasSaid, SaysOnly}

-- ---- the one end, and the right reply

-- The request came to this end. Where the shelf tells its files, the reply is the right one and
-- they are what it leaves. It is a read fault exactly where the count of failed reads rose, and a
-- write fault exactly where that of failed puts did.
pub record EndsSo (q : Request) (end : Ending) (old new : ShelfSeen) : Type 0 where
  pub may : MayEnd q end
  pub leaves : BeforeAndAfter old.files new.files (λ files files'. Leaves q end files files')
  pub read_fault : end ≡ ending.ReadFault → Rose old.read_faults new.read_faults
  pub no_read_fault : ¬ (end ≡ ending.ReadFault) → new.read_faults ≡ old.read_faults
  pub write_fault : end ≡ ending.WriteFault → Rose old.put_faults new.put_faults
  pub no_write_fault : ¬ (end ≡ ending.WriteFault) → new.put_faults ≡ old.put_faults

-- The reply's text was given, with its status, or where the sink's count rose a front of it with
-- the status for that.
abbrev pub WasReplied : Reply → Call → Type 0
WasReplied r call =
    WasGiven r.text (status_number r.status) (number_unsent r.status) call.status call.before.sink
    call.after.sink

-- Whatever is the right reply: its files are written and its text was given; unless a call of the
-- shelf failed or memory was refused.
abbrev pub SaysEach : Request → Call → FileMap → Type 0
SaysEach q call files =
    (r : Reply)
    → IsReplyFor q files r
    → (WasReplied r call × (call.after.shelf.files ≡ Some (filed files r.puts)))
    ⊎ Rose call.before.shelf.read_faults call.after.shelf.read_faults
    ⊎ Rose call.before.shelf.put_faults call.after.shelf.put_faults
    ⊎ (call.status ≡ 8)

-- The status is that of the right reply, whose files are written and whose text was given.
abbrev pub IsOwnReply : Request → Call → FileMap → FileMap → Type 0
IsOwnReply q call files files' =
    (r : Reply) × IsReplyFor q files r × (status_number r.status ≡ call.status)
    × (files' ≡ filed files r.puts) × WasReplied r call

-- A result, with a status up to 2, is what the values that the files read as mean. Its files are
-- written and its whole text was sent.
abbrev pub ShowsResult : Request → Call → FileMap → FileMap → Type 0
ShowsResult q call files files' =
    (r : Reply)
    × (values : List Value)
    × ReadInTurn files q.inputs values
    × q.means values r
    × (status_number r.status ≡ call.status)
    × (files' ≡ filed files r.puts)
    × Sends r.text call.before.sink call.after.sink

-- It came to one end, and that was said. Where the shelf tells its files the right reply is given,
-- a status of a command's own is that of the right reply, and one up to 2 is what the files read
-- as.
pub record IsCarriedOut (q : Request) (call : Call) : Type 0 where
  pub end : Ending
  pub ends : EndsSo q end call.before.shelf call.after.shelf
  pub said : WasSaid end call.status call.before.sink call.after.sink
  pub right : IfSome call.before.shelf.files (λ files. SaysEach q call files)
  pub own : IsOwn call.status
      → BeforeAndAfter call.before.shelf.files
      call.after.shelf.files (λ files files'. IsOwnReply q call files files')
  pub result : call.status ≤ 2
      → BeforeAndAfter call.before.shelf.files
      call.after.shelf.files (λ files files'. ShowsResult q call files files')

-- ---- faults of the outside, and want of memory

-- A write fault: gives were refused, after the reply's files were all written, and the sink holds
-- a front of the reply's text; or puts were refused, the files are a front of the reply's, and that
-- was said.
abbrev pub LeavesAtWriteFault : Request → Call → FileMap → FileMap → Type 0
LeavesAtWriteFault q call files files' =
    (r : Reply)
    × IsReplyFor q files r
    × ((Rose call.before.sink.give_faults call.after.sink.give_faults
    × (files' ≡ filed files r.puts) × (number_unsent r.status ≡ 7)
    × ((n : ℕ) × Sends (take n r.text) call.before.sink call.after.sink))
    ⊎ (Rose call.before.shelf.put_faults call.after.shelf.put_faults
    × IsCutShort files r.puts files' × SaysOnly write_line 7 call.before.sink call.after.sink))

-- No file changed, and nothing but this line was given.
abbrev pub SaysAndStays : List ℕ → Call → Type 0
SaysAndStays line call =
    (call.after.shelf.files ≡ call.before.shelf.files)
    × SaysOnly line call.status call.before.sink call.after.sink

-- Status 6 comes of a failed read, 7 of a failed give or put and 8 of want of memory. At 6 and 8 no
-- file changed, and that was said.
pub record FaultsHaveCauses (call : Call) : Type 0 where
  pub read_fault : call.status ≡ 6 → Rose call.before.shelf.read_faults call.after.shelf.read_faults
  pub read_line : call.status ≡ 6 → SaysAndStays read_line call
  pub write_fault : call.status ≡ 7
      → Rose call.before.sink.give_faults call.after.sink.give_faults
      ⊎ Rose call.before.shelf.put_faults call.after.shelf.put_faults
  pub memory : call.status ≡ 8 → SaysAndStays memory_line call

-- And no other status does; without a file to read no read fails. At 7 the counts tell which call
-- was refused, and so what is left.
pub record TellsFaults (q : Request) (call : Call) : Type 0 where
  pub cause : FaultsHaveCauses call
  pub no_read_fault : ¬ (call.status ≡ 6)
      → call.after.shelf.read_faults ≡ call.before.shelf.read_faults
  pub no_write_fault : ¬ (call.status ≡ 7)
      → call.after.shelf.put_faults ≡ call.before.shelf.put_faults
  pub reads_none : q.inputs ≡ [] → call.after.shelf.read_faults ≡ call.before.shelf.read_faults
  pub at_write_fault : call.status ≡ 7
      → BeforeAndAfter call.before.shelf.files
      call.after.shelf.files (λ files files'. LeavesAtWriteFault q call files files')

-- ---- by the counts of calls

-- What a request that ended so has put: the files of its reply once each, at a write fault up to
-- one of them, and else none.
abbrev pub PutsOnce : Request → Ending → ShelfSeen → ShelfSeen → Type 0
PutsOnce q (ending.Reached r) old new = IsReplyOf q old.files r × PutEach r.puts old.puts new.puts
PutsOnce q (ending.WriteFault) old new =
    (r : Reply) × IsReplyOf q old.files r × PutFront r.puts old.files new.files old.puts new.puts
PutsOnce q (ending.ReadFault) old new = new.puts ≡ old.puts
PutsOnce q (ending.OutOfMemory) old new = new.puts ≡ old.puts

-- The same by its status. At a write fault either each of the files was put and no put failed, so
-- that it was the sink that refused the text, or they were put up to one whose put failed.
pub record PutsByStatus (q : Request) (status : ℕ) (old new : ShelfSeen) : Type 0 where
  pub own : IsOwn status
      → (r : Reply) × IsReplyOf q old.files r × (status_number r.status ≡ status)
      × PutEach r.puts old.puts new.puts
  pub write_fault :
      status ≡ 7
      → (r : Reply)
      × IsReplyOf q old.files r
      × ((PutEach r.puts old.puts new.puts × (new.put_faults ≡ old.put_faults))
      ⊎ (PutFront r.puts old.files new.files old.puts new.puts
      × Rose old.put_faults new.put_faults))
  pub read_fault : status ≡ 6 → new.puts ≡ old.puts
  pub memory : status ≡ 8 → new.puts ≡ old.puts

-- Which files a command has begun, by the count of begins and by its status. With a status of its
-- own they are just those that its reply needs, and for a result, or at a write fault, all of them.
-- At a read fault they go up to the one that a read was refused of. At want of memory they are some
-- in turn, since memory can be refused before the first, between any two and after the last.
pub record BegunByStatus (inputs : List Input) (status : ℕ) (old new : ShelfSeen) : Type 0 where
  pub own : IsOwn status → BegunForReply old.files inputs old.begins new.begins
  pub result : status ≤ 2 → AllBegun inputs old.begins new.begins
  pub write_fault : status ≡ 7 → AllBegun inputs old.begins new.begins
  pub read_fault : status ≡ 6 → BegunToBlamed old.files inputs new.blamed old.begins new.begins
  pub memory : status ≡ 8 → BegunInTurn old.files inputs old.begins new.begins

-- A missing file is counted only in its turn.
abbrev pub MissesInTurn : List Input → ShelfSeen → ShelfSeen → Type 0
MissesInTurn inputs old new =
    IfSome old.files (λ files. MissedInTurn files inputs old.missed new.missed)

-- The calls of a shelf: just the files were begun that the status needs, each once; and each file
-- of the reply was put once, or up to one that was refused.
pub record CallsShelf (q : Request) (status : ℕ) (old new : ShelfSeen) : Type 0 where
  pub begun : BegunByStatus q.inputs status old new
  pub missing : MissesInTurn q.inputs old new
  pub put_once : PutsByStatus q status old new

-- The calls of both: the whole text was one give.
pub record MakesCalls (q : Request) (call : Call) : Type 0 where
  pub shelf : CallsShelf q call.status call.before.shelf call.after.shelf
  pub given_once : call.after.sink.gives ≡ counted call.before.sink.gives

-- ---- what is left

-- What a command leaves, by its status, where only its results write: a result comes with all of
-- its files. A write fault leaves them too where the sink refused the text, and where the shelf's
-- count rose a part of them. Nothing else writes a file.
pub record LeavesByStatus (whole part : FileMap → FileMap → Type 0) (call : Call)
    (files files' : FileMap) : Type 0 where
  pub result : call.status ≤ 2 → whole files files'
  pub write_fault : call.status ≡ 7
      → whole files files'
      ⊎ (Rose call.before.shelf.put_faults call.after.shelf.put_faults × part files files')
  pub other : 3 ≤ call.status → ¬ (call.status ≡ 7) → files' ≡ files

-- No file changed, and no put failed.
abbrev pub StaysUnwritten : Call → Type 0
StaysUnwritten call =
    (call.after.shelf.files ≡ call.before.shelf.files)
    × (call.after.shelf.put_faults ≡ call.before.shelf.put_faults)

-- ---- what a program says of its own

-- What a status up to 2 shows of the files before and after, where the shelf tells them.
abbrev pub IfResult : Call → (FileMap → FileMap → Type 0) → Type 0
IfResult call P = call.status ≤ 2 → BeforeAndAfter call.before.shelf.files call.after.shelf.files P

-- Words that ask nothing: how the program is used was said, at status 3, which nothing else has; or
-- want of memory was.
pub record SaysUsage {Q : Type 0} (usage : List ℕ) (asked : Option Q) (call : Call) : Type 0 where
  pub only : call.status ≡ 3 → asked ≡ None
  pub said :
      asked ≡ None
      → ((call.status ≡ 3) × SaysOnly usage call.status call.before.sink call.after.sink)
      ⊎ ((call.status ≡ 8) × SaysOnly memory_line call.status call.before.sink call.after.sink)
