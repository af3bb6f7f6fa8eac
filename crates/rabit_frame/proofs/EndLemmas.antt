-- From the end that was said to its status, its files and what it shows.
use Rattle.std.proofs.Common.{◌≡◌, ◌⊎◌, ℕ, ◌≤◌, List, [], ◌∷◌, length, Option, Some, None, IfSome, Result, Ok, Err, OnErr, inl, inr, refl, sym, ◌∙◌, ap, subst, arith}
use Rattle.shelf_io.specs.Counts.{Rose}
use Rattle.shelf_io.specs.Shelf.{FileMap}
use Rattle.shelf_io.specs.Seen.{ShelfSeen, Call}
use Rattle.rabit_frame.specs.declared.parts.FileKind.{FileKind}
use Rattle.rabit_frame.specs.declared.parts.FileKind.TheVariants as kind
use Rattle.rabit_frame.specs.declared.parts.Value.{Value}
use Rattle.rabit_frame.specs.declared.parts.Status.{Status}
use Rattle.rabit_frame.specs.declared.parts.Status.TheVariants as status
use Rattle.rabit_frame.specs.declared.parts.Reply.{Reply}
use Rattle.rabit_frame.specs.declared.parts.Ending.{Ending}
use Rattle.rabit_frame.specs.declared.parts.Ending.TheVariants as ending
use Rattle.rabit_frame.specs.Files.{Input}
use Rattle.rabit_frame.specs.Request.{Request, HasOneReply, only_reading}
use Rattle.rabit_frame.specs.Lines.{read_line, write_line, memory_line}
use Rattle.rabit_frame.specs.Statuses.{status_number, number_unsent, IsOwn}
use Rattle.rabit_frame.specs.Reading.{AreOfKinds, ReadInTurn, FileStops, StopInTurn, HasFault, MayStopAt, MayStop, BegunInTurn, AllBegun, BegunForReply, BegunToBlamed, long_reply}
use Rattle.rabit_frame.specs.Ending.{IsReplyFor, IsReplyOf, MayReply, MayEnd, Leaves, BeforeAndAfter, filed, IsCutShort, PutEach, PutFront, status_of, status_unsent, WasGiven, WasSaid, SaysOnly}
use Rattle.rabit_frame.specs.Carrying.{EndsSo, SaysEach, IsOwnReply, ShowsResult, LeavesAtWriteFault, LeavesByStatus, PutsOnce, PutsByStatus, BegunByStatus, MissesInTurn, CallsShelf, IsCarriedOut, TellsFaults}
use Rattle.rabit_frame.proofs.OneLemmas.{one_reply}

-- the numbers of a command's own statuses
pub own_number : (s : Status) → IsOwn (status_number s)
own_number (status.Done) = (λ e. omega arith, λ e. omega arith, λ e. omega arith)
own_number (status.Refuted) = (λ e. omega arith, λ e. omega arith, λ e. omega arith)
own_number (status.Limit) = (λ e. omega arith, λ e. omega arith, λ e. omega arith)
own_number (status.Usage) = (λ e. omega arith, λ e. omega arith, λ e. omega arith)
own_number (status.BadFile) = (λ e. omega arith, λ e. omega arith, λ e. omega arith)
own_number (status.BadCertificate) = (λ e. omega arith, λ e. omega arith, λ e. omega arith)
own_number (status.NoRelation) = (λ e. omega arith, λ e. omega arith, λ e. omega arith)
own_number (status.BadList) = (λ e. omega arith, λ e. omega arith, λ e. omega arith)
own_number (status.TooLarge) = (λ e. omega arith, λ e. omega arith, λ e. omega arith)
own_number (status.NothingToShrink) = (λ e. omega arith, λ e. omega arith, λ e. omega arith)

-- unsent, it is 7, or stays and is above 2
pub unsent_number : (s : Status) → (number_unsent s ≡ 7) ⊎ ((number_unsent s ≡ status_number s) × (3 ≤ status_number s))
unsent_number (status.Done) = inl refl
unsent_number (status.Refuted) = inl refl
unsent_number (status.Limit) = inl refl
unsent_number (status.Usage) = inr (refl, omega arith)
unsent_number (status.BadFile) = inr (refl, omega arith)
unsent_number (status.BadCertificate) = inr (refl, omega arith)
unsent_number (status.NoRelation) = inr (refl, omega arith)
unsent_number (status.BadList) = inr (refl, omega arith)
unsent_number (status.TooLarge) = inr (refl, omega arith)
unsent_number (status.NothingToShrink) = inr (refl, omega arith)

-- only a result turns into a write fault
pub unsent_low : (s : Status) → number_unsent s ≡ 7 → status_number s ≤ 2
unsent_low (status.Done) e = omega arith
unsent_low (status.Refuted) e = omega arith
unsent_low (status.Limit) e = omega arith
unsent_low (status.Usage) e = absurd (omega arith)
unsent_low (status.BadFile) e = absurd (omega arith)
unsent_low (status.BadCertificate) e = absurd (omega arith)
unsent_low (status.NoRelation) e = absurd (omega arith)
unsent_low (status.BadList) e = absurd (omega arith)
unsent_low (status.TooLarge) e = absurd (omega arith)
unsent_low (status.NothingToShrink) e = absurd (omega arith)

-- a file that is not read has a status above 3, and writes nothing
abbrev pub IsPlainStop : Reply → Type 0
IsPlainStop r = (4 ≤ status_number r.status) × (r.puts ≡ [])

fault_plain : (k : FileKind) (bytes : List ℕ) (r : Reply) → HasFault k bytes r → IsPlainStop r
fault_plain (kind.Automaton n l) bytes r (f, is, e) = subst IsPlainStop (sym e) (omega arith, refl)
fault_plain (kind.Certificate) bytes r (f, is, e) = subst IsPlainStop (sym e) (omega arith, refl)
fault_plain (kind.Cross) bytes r (f, is, e) = subst IsPlainStop (sym e) (omega arith, refl)
fault_plain (kind.Questions) bytes r (l, is, e) = subst IsPlainStop (sym e) (omega arith, refl)

long_plain : (k : FileKind) (r : Reply) → r ≡ long_reply k → IsPlainStop r
long_plain (kind.Automaton n l) r e = subst IsPlainStop (sym e) (omega arith, refl)
long_plain (kind.Certificate) r e = subst IsPlainStop (sym e) (omega arith, refl)
long_plain (kind.Cross) r e = subst IsPlainStop (sym e) (omega arith, refl)
long_plain (kind.Questions) r e = subst IsPlainStop (sym e) (omega arith, refl)

pub stop_plain : (files : FileMap) (is : List Input) (r : Reply) → StopInTurn files is r → IsPlainStop r
stop_plain files [] r p = absurd p
stop_plain files (i ∷ is) r p =
    elim p [
      | inl here ↦ elim here.2 [ inl long ↦ long_plain i.kind r long.1 | inr bad ↦ fault_plain i.kind here.0 r bad.1 ]
      | inr later ↦ stop_plain files is r later.2
    ]

pub may_plain : (is : List Input) (r : Reply) → MayStop is r → IsPlainStop r
may_plain [] r p = absurd p
may_plain (i ∷ is) r p =
    elim p [
      | inl here ↦ elim here [ inl long ↦ long_plain i.kind r long | inr bad ↦ fault_plain i.kind bad.0 r bad.1 ]
      | inr later ↦ may_plain is r later
    ]

pub both_map : (held held' : Option FileMap) (P Q : FileMap → FileMap → Type 0) → ((files files' : FileMap) → P files files' → Q files files') → BeforeAndAfter held held' P → BeforeAndAfter held held' Q
both_map None held' P Q f p = p
both_map (Some files) held' P Q f (files', is, p) = (files', is, f files files' p)

pub left_same : (held held' : Option FileMap) → BeforeAndAfter held held' (λ files files'. files' ≡ files) → held' ≡ held
left_same None held' p = p
left_same (Some files) held' (files', is, e) = is ∙ ap Some e

pub both_same : (held held' : Option FileMap) (P : FileMap → FileMap → Type 0) → ((files : FileMap) → P files files) → held' ≡ held → BeforeAndAfter held held' P
both_same None held' P f e = e
both_same (Some files) held' P f e = (files, e, f files)

module _ (q : Request) (call : Call) where
  abbrev pub Ends : Ending → Type 0
  Ends e = EndsSo q e call.before.shelf call.after.shelf

  abbrev pub Said : Ending → Type 0
  Said e = WasSaid e call.status call.before.sink call.after.sink

  says_each_on : (h : Option FileMap) (e : Ending) → BeforeAndAfter h call.after.shelf.files (λ files files'. Leaves q e files files') → Ends e → Said e → ((vs : List Value) (r s : Reply) → AreOfKinds q.inputs vs → q.means vs r → q.means vs s → r ≡ s) →
      IfSome h (λ files. SaysEach q call files)
  says_each_on None e leaves ends said one = tt
  says_each_on (Some files) (ending.Reached s) (files', is, (right, left)) ends said one = λ r of.
      let same : s ≡ r = one_reply files q one s r right of in
      inl (
        subst (λ z. WasGiven z.text (status_number z.status) (number_unsent z.status) call.status call.before.sink call.after.sink) same said,
        is ∙ ap Some (left ∙ ap (λ z. filed files z.puts) same),
      )
  says_each_on (Some files) (ending.ReadFault) leaves ends said one = λ r of. inr (inl (ends.read_fault refl))
  says_each_on (Some files) (ending.WriteFault) leaves ends said one = λ r of. inr (inr (inl (ends.write_fault refl)))
  says_each_on (Some files) (ending.OutOfMemory) leaves ends said one = λ r of. inr (inr (inr (elim said [ inl whole ↦ whole.0 | inr front ↦ front.0 ])))

  pub says_each : (e : Ending) → Ends e → Said e → ((vs : List Value) (r s : Reply) → AreOfKinds q.inputs vs → q.means vs r → q.means vs s → r ≡ s) →
      IfSome call.before.shelf.files (λ files. SaysEach q call files)
  says_each e ends said one = says_each_on call.before.shelf.files e ends.leaves ends said one

  pub same_status : (n : ℕ) (e : Ending) → status_of e ≡ n → status_unsent e ≡ n → Said e → call.status ≡ n
  same_status n e a b said = elim said [ inl whole ↦ whole.0 ∙ a | inr front ↦ front.0 ∙ b ]

  -- the status of a reply is no fault of the outside, but for 7 where the sink refused it
  reached_not : (r : Reply) → Said (ending.Reached r) → ¬ (call.status ≡ 6) × ¬ (call.status ≡ 8)
  reached_not r said =
      let own = own_number r.status in
      elim said [
        | inl whole ↦ (λ e. own.0 (sym whole.0 ∙ e), λ e. own.2 (sym whole.0 ∙ e))
        | inr front ↦
            elim (unsent_number r.status) [
              | inl seven ↦ (let a = front.0 ∙ seven in (λ e. omega arith, λ e. omega arith))
              | inr stays ↦ (let a = front.0 ∙ stays.0 in (λ e. own.0 (sym a ∙ e), λ e. own.2 (sym a ∙ e)))
            ]
      ]

  -- a status of the command's own is that of its reply
  pub own_status : (r : Reply) → Said (ending.Reached r) → IsOwn call.status → status_number r.status ≡ call.status
  own_status r said own =
      elim said [
        | inl whole ↦ sym whole.0
        | inr front ↦ elim (unsent_number r.status) [ inl seven ↦ absurd (own.1 (front.0 ∙ seven)) | inr stays ↦ sym (front.0 ∙ stays.0) ]
      ]

  pub shows_reply : (e : Ending) → Ends e → Said e → IsOwn call.status → BeforeAndAfter call.before.shelf.files call.after.shelf.files (λ files files'. IsOwnReply q call files files')
  shows_reply (ending.Reached r) ends said own =
      both_map call.before.shelf.files call.after.shelf.files (λ files files'. Leaves q (ending.Reached r) files files') (λ files files'. IsOwnReply q call files files')
      (λ files files' left. (r, left.0, own_status r said own, left.1, said)) ends.leaves
  shows_reply (ending.ReadFault) ends said own = absurd (own.0 (same_status 6 ending.ReadFault refl refl said))
  shows_reply (ending.WriteFault) ends said own = absurd (own.1 (same_status 7 ending.WriteFault refl refl said))
  shows_reply (ending.OutOfMemory) ends said own = absurd (own.2 (same_status 8 ending.OutOfMemory refl refl said))

  pub shows_result : (e : Ending) → Ends e → Said e → call.status ≤ 2 → BeforeAndAfter call.before.shelf.files call.after.shelf.files (λ files files'. ShowsResult q call files files')
  shows_result (ending.Reached r) ends said low =
      elim said [
        | inl whole ↦
            both_map call.before.shelf.files call.after.shelf.files (λ files files'. Leaves q (ending.Reached r) files files') (λ files files'. ShowsResult q call files files')
            (λ files files' left.
            elim left.0 [
              | inl stop ↦ (let high = (stop_plain files q.inputs r stop).0 in let is = whole.0 in absurd (omega arith))
              | inr (vs, reads, m) ↦ (r, vs, reads, m, sym whole.0, left.1, whole.1)
            ])
            ends.leaves
        | inr front ↦
            elim (unsent_number r.status) [
              | inl seven ↦ (let is = front.0 ∙ seven in absurd (omega arith))
              | inr stays ↦ (let is = front.0 ∙ stays.0 in let high = stays.1 in absurd (omega arith))
            ]
      ]
  shows_result (ending.ReadFault) ends said low = (let is = same_status 6 ending.ReadFault refl refl said in absurd (omega arith))
  shows_result (ending.WriteFault) ends said low = (let is = same_status 7 ending.WriteFault refl refl said in absurd (omega arith))
  shows_result (ending.OutOfMemory) ends said low = (let is = same_status 8 ending.OutOfMemory refl refl said in absurd (omega arith))

  pub says_at_write_fault : (e : Ending) → Ends e → Said e → call.status ≡ 7 → BeforeAndAfter call.before.shelf.files call.after.shelf.files (λ files files'. LeavesAtWriteFault q call files files')
  says_at_write_fault (ending.Reached r) ends said is =
      elim said [
        | inl whole ↦ absurd ((own_number r.status).1 (sym whole.0 ∙ is))
        | inr front ↦
            both_map call.before.shelf.files call.after.shelf.files (λ files files'. Leaves q (ending.Reached r) files files') (λ files files'. LeavesAtWriteFault q call files files')
            (λ files files' left. (r, left.0, inl (front.1, left.1, sym front.0 ∙ is, front.2))) ends.leaves
      ]
  says_at_write_fault (ending.WriteFault) ends said is =
      let P : ℕ → Type 0 = λ n. WasGiven write_line 7 7 n call.before.sink call.after.sink in
      both_map call.before.shelf.files call.after.shelf.files (λ files files'. Leaves q ending.WriteFault files files') (λ files files'. LeavesAtWriteFault q call files files')
      (λ files files' (r, right, cut). (r, right, inr (ends.write_fault refl, cut, subst P is said))) ends.leaves
  says_at_write_fault (ending.ReadFault) ends said is = (let e = same_status 6 ending.ReadFault refl refl said in absurd (omega arith))
  says_at_write_fault (ending.OutOfMemory) ends said is = (let e = same_status 8 ending.OutOfMemory refl refl said in absurd (omega arith))

  pub read_fault_of : (e : Ending) → Ends e → Said e → call.status ≡ 6 → Rose call.before.shelf.read_faults call.after.shelf.read_faults
  read_fault_of (ending.Reached r) ends said is = absurd ((reached_not r said).0 is)
  read_fault_of (ending.ReadFault) ends said is = ends.read_fault refl
  read_fault_of (ending.WriteFault) ends said is = (let e = same_status 7 ending.WriteFault refl refl said in absurd (omega arith))
  read_fault_of (ending.OutOfMemory) ends said is = (let e = same_status 8 ending.OutOfMemory refl refl said in absurd (omega arith))

  pub no_read_fault_of : (e : Ending) → Ends e → Said e → ¬ (call.status ≡ 6) → call.after.shelf.read_faults ≡ call.before.shelf.read_faults
  no_read_fault_of e ends said other = ends.no_read_fault (λ is. other (same_status 6 ending.ReadFault refl refl (subst Said is said)))

  pub write_fault_of : (e : Ending) → Ends e → Said e → call.status ≡ 7 → Rose call.before.sink.give_faults call.after.sink.give_faults ⊎ Rose call.before.shelf.put_faults call.after.shelf.put_faults
  write_fault_of (ending.Reached r) ends said is = elim said [ inl whole ↦ absurd ((own_number r.status).1 (sym whole.0 ∙ is)) | inr front ↦ inl front.1 ]
  write_fault_of (ending.WriteFault) ends said is = inr (ends.write_fault refl)
  write_fault_of (ending.ReadFault) ends said is = (let e = same_status 6 ending.ReadFault refl refl said in absurd (omega arith))
  write_fault_of (ending.OutOfMemory) ends said is = (let e = same_status 8 ending.OutOfMemory refl refl said in absurd (omega arith))

  pub no_write_fault_of : (e : Ending) → Ends e → Said e → ¬ (call.status ≡ 7) → call.after.shelf.put_faults ≡ call.before.shelf.put_faults
  no_write_fault_of e ends said other = ends.no_write_fault (λ is. other (same_status 7 ending.WriteFault refl refl (subst Said is said)))

  pub read_line_of : (e : Ending) → Ends e → Said e → call.status ≡ 6 → (call.after.shelf.files ≡ call.before.shelf.files) × SaysOnly read_line call.status call.before.sink call.after.sink
  read_line_of (ending.Reached r) ends said is = absurd ((reached_not r said).0 is)
  read_line_of (ending.ReadFault) ends said is =
      let P : ℕ → Type 0 = λ n. WasGiven read_line n n call.status call.before.sink call.after.sink in
      (left_same call.before.shelf.files call.after.shelf.files ends.leaves, subst P (sym is) said)
  read_line_of (ending.WriteFault) ends said is = (let e = same_status 7 ending.WriteFault refl refl said in absurd (omega arith))
  read_line_of (ending.OutOfMemory) ends said is = (let e = same_status 8 ending.OutOfMemory refl refl said in absurd (omega arith))

  pub memory_of : (e : Ending) → Ends e → Said e → call.status ≡ 8 → (call.after.shelf.files ≡ call.before.shelf.files) × SaysOnly memory_line call.status call.before.sink call.after.sink
  memory_of (ending.Reached r) ends said is = absurd ((reached_not r said).1 is)
  memory_of (ending.OutOfMemory) ends said is =
      let P : ℕ → Type 0 = λ n. WasGiven memory_line n n call.status call.before.sink call.after.sink in
      (left_same call.before.shelf.files call.after.shelf.files ends.leaves, subst P (sym is) said)
  memory_of (ending.WriteFault) ends said is = (let e = same_status 7 ending.WriteFault refl refl said in absurd (omega arith))
  memory_of (ending.ReadFault) ends said is = (let e = same_status 6 ending.ReadFault refl refl said in absurd (omega arith))

  -- without a file to read no read fails, and without one to write no put does
  pub no_inputs : (e : Ending) → Ends e → q.inputs ≡ [] → call.after.shelf.read_faults ≡ call.before.shelf.read_faults
  no_inputs e ends none = ends.no_read_fault (λ is. let some : 1 ≤ length q.inputs = subst (λ z. MayEnd q z) is ends.may in let zero = ap length none in absurd (omega arith))

  pub carried_out : (e : Ending) → Ends e → Said e → HasOneReply q → IsCarriedOut q call
  carried_out e ends said one = record { end = e; ends = ends; said = said; right = says_each e ends said one; own = shows_reply e ends said; result = shows_result e ends said }

  pub tells_faults : (e : Ending) → Ends e → Said e → TellsFaults q call
  tells_faults e ends said = record {
    cause = record { read_fault = read_fault_of e ends said; read_line = read_line_of e ends said; write_fault = write_fault_of e ends said; memory = memory_of e ends said };
    no_read_fault = no_read_fault_of e ends said;
    no_write_fault = no_write_fault_of e ends said;
    reads_none = no_inputs e ends;
    at_write_fault = says_at_write_fault e ends said;
  }

  pub no_puts : (e : Ending) → Ends e → ((vs : List Value) (r : Reply) → q.means vs r → r.puts ≡ []) → call.after.shelf.put_faults ≡ call.before.shelf.put_faults
  no_puts e ends none = ends.no_write_fault (λ is.
      let (r, may, some) = subst (λ z. MayEnd q z) is ends.may in
      let nil : r.puts ≡ [] = elim may [ inl stop ↦ (may_plain q.inputs r stop).1 | inr (vs, kinds, m) ↦ none vs r m ] in
      let zero = ap length nil in
      absurd (omega arith))

  puts_none : ((vs : List Value) (r : Reply) → q.means vs r → r.puts ≡ []) → (files : FileMap) (r : Reply) → IsReplyFor q files r → r.puts ≡ []
  puts_none none files r right = elim right [ inl stop ↦ (stop_plain files q.inputs r stop).1 | inr (vs, reads, m) ↦ none vs r m ]

  -- and all files stay
  pub no_puts_stay : (e : Ending) → Ends e → ((vs : List Value) (r : Reply) → q.means vs r → r.puts ≡ []) → call.after.shelf.files ≡ call.before.shelf.files
  no_puts_stay (ending.Reached r) ends none =
      left_same call.before.shelf.files call.after.shelf.files (both_map call.before.shelf.files call.after.shelf.files (λ files files'. Leaves q (ending.Reached r) files files') (λ files files'. files' ≡ files)
      (λ files files' left. left.1 ∙ ap (filed files) (puts_none none files r left.0)) ends.leaves)
  no_puts_stay (ending.WriteFault) ends none =
      left_same call.before.shelf.files call.after.shelf.files (both_map call.before.shelf.files call.after.shelf.files (λ files files'. Leaves q ending.WriteFault files files') (λ files files'. files' ≡ files)
      (λ files files' (r, right, cut). absurd (subst (λ ps. IsCutShort files ps files') (puts_none none files r right) cut)) ends.leaves)
  no_puts_stay (ending.ReadFault) ends none = left_same call.before.shelf.files call.after.shelf.files ends.leaves
  no_puts_stay (ending.OutOfMemory) ends none = left_same call.before.shelf.files call.after.shelf.files ends.leaves

  -- a result has its status or that of a write fault, and any other reply has its own
  reached_status : (r : Reply) → Said (ending.Reached r) → ((status_number r.status ≤ 2) × ((call.status ≤ 2) ⊎ (call.status ≡ 7))) ⊎ ((3 ≤ status_number r.status) × (call.status ≡ status_number r.status))
  reached_status r said =
      elim (unsent_number r.status) [
        | inl seven ↦
            let low = unsent_low r.status seven in
            elim said [ inl whole ↦ inl (low, inl (subst (λ n. n ≤ 2) (sym whole.0) low)) | inr front ↦ inl (low, inr (front.0 ∙ seven)) ]
        | inr stays ↦ elim said [ inl whole ↦ inr (stays.1, whole.0) | inr front ↦ inr (stays.1, front.0 ∙ stays.0) ]
      ]

  -- what is left where only results write
  module _ (whole part : FileMap → FileMap → Type 0) where
    abbrev Left : FileMap → FileMap → Type 0
    Left files files' = LeavesByStatus whole part call files files'

    left_result : (files files' : FileMap) → (call.status ≤ 2) ⊎ (call.status ≡ 7) → whole files files' → Left files files'
    left_result files files' number is = record {
      result = λ low. is;
      write_fault = λ seven. inl is;
      other = λ from not. elim number [ inl low ↦ absurd (omega arith) | inr seven ↦ absurd (not seven) ];
    }

    left_part : (files files' : FileMap) → call.status ≡ 7 → Rose call.before.shelf.put_faults call.after.shelf.put_faults → part files files' → Left files files'
    left_part files files' seven rose is = record {
      result = λ low. absurd (omega arith);
      write_fault = λ again. inr (rose, is);
      other = λ from not. absurd (not seven);
    }

    left_other : (files files' : FileMap) → 3 ≤ call.status → ¬ (call.status ≡ 7) → files' ≡ files → Left files files'
    left_other files files' high other left = record {
      result = λ low. absurd (omega arith);
      write_fault = λ seven. absurd (other seven);
      other = λ from not. left;
    }

    module _ (writes : (vs : List Value) (r : Reply) → q.means vs r → 3 ≤ status_number r.status → r.puts ≡ []) where
      puts_high : (files : FileMap) (r : Reply) → 3 ≤ status_number r.status → IsReplyFor q files r → r.puts ≡ []
      puts_high files r high right = elim right [ inl stop ↦ (stop_plain files q.inputs r stop).1 | inr (vs, reads, m) ↦ writes vs r m high ]

      pub leaves_by_status :
          ((files files' : FileMap) (vs : List Value) (r : Reply) → ReadInTurn files q.inputs vs → q.means vs r → status_number r.status ≤ 2 → files' ≡ filed files r.puts → whole files files')
          → ((files files' : FileMap) (vs : List Value) (r : Reply) → ReadInTurn files q.inputs vs → q.means vs r → IsCutShort files r.puts files' → part files files')
          → (e : Ending)
          → Ends e
          → Said e
          → BeforeAndAfter call.before.shelf.files call.after.shelf.files (LeavesByStatus whole part call)
      leaves_by_status is_whole is_part (ending.Reached r) ends said =
          both_map call.before.shelf.files call.after.shelf.files (λ files files'. Leaves q (ending.Reached r) files files') Left
          (λ files files' left.
          elim (reached_status r said) [
            | inl low ↦
                elim left.0 [
                  | inl stop ↦ (let high = (stop_plain files q.inputs r stop).0 in let few = low.0 in absurd (omega arith))
                  | inr (vs, reads, m) ↦ left_result files files' low.1 (is_whole files files' vs r reads m low.0 left.1)
                ]
            | inr high ↦
                left_other files files' (subst (λ n. 3 ≤ n) (sym high.1) high.0) (λ seven. (own_number r.status).1 (sym high.1 ∙ seven))
                (left.1 ∙ ap (filed files) (puts_high files r high.0 left.0))
          ])
          ends.leaves
      leaves_by_status is_whole is_part (ending.WriteFault) ends said =
          let seven = same_status 7 ending.WriteFault refl refl said in
          both_map call.before.shelf.files call.after.shelf.files (λ files files'. Leaves q ending.WriteFault files files') Left
          (λ files files' (r, right, cut).
          elim right [
            | inl stop ↦ absurd (subst (λ ps. IsCutShort files ps files') (stop_plain files q.inputs r stop).1 cut)
            | inr (vs, reads, m) ↦ left_part files files' seven (ends.write_fault refl) (is_part files files' vs r reads m cut)
          ])
          ends.leaves
      leaves_by_status is_whole is_part (ending.ReadFault) ends said =
          let six = same_status 6 ending.ReadFault refl refl said in
          both_map call.before.shelf.files call.after.shelf.files (λ files files'. files' ≡ files) Left (λ files files' left. left_other files files' (omega arith) (λ e. omega arith) left) ends.leaves
      leaves_by_status is_whole is_part (ending.OutOfMemory) ends said =
          let eight = same_status 8 ending.OutOfMemory refl refl said in
          both_map call.before.shelf.files call.after.shelf.files (λ files files'. files' ≡ files) Left (λ files files' left. left_other files files' (omega arith) (λ e. omega arith) left) ends.leaves

-- the puts by the ending are those by its status, be its text sent or not
module _ (q : Request) (old new : ShelfSeen) where
  none_put : (status n : ℕ) → ¬ IsOwn n → ¬ (n ≡ 7) → status ≡ n → new.puts ≡ old.puts → PutsByStatus q status old new
  none_put status n other not is same = record {
    own = λ own. absurd (other (subst IsOwn is own));
    write_fault = λ seven. absurd (not (sym is ∙ seven));
    read_fault = λ six. same;
    memory = λ eight. same;
  }

  all_put : (r : Reply) (status : ℕ) → IsReplyOf q old.files r → PutEach r.puts old.puts new.puts → status ≡ status_number r.status → PutsByStatus q status old new
  all_put r status right each is =
      let own = own_number r.status in record {
        own = λ mine. (r, right, sym is, each);
        write_fault = λ seven. absurd (own.1 (sym is ∙ seven));
        read_fault = λ six. absurd (own.0 (sym is ∙ six));
        memory = λ eight. absurd (own.2 (sym is ∙ eight));
      }

  at_seven : (r : Reply) (status : ℕ) → IsReplyOf q old.files r → (PutEach r.puts old.puts new.puts × (new.put_faults ≡ old.put_faults)) ⊎ (PutFront r.puts old.files new.files old.puts new.puts × Rose old.put_faults new.put_faults) → status ≡ 7 → PutsByStatus q status old new
  at_seven r status right put is = record {
    own = λ own. absurd (own.1 is);
    write_fault = λ seven. (r, right, put);
    read_fault = λ six. absurd (omega arith);
    memory = λ eight. absurd (omega arith);
  }

  pub puts_by_status : (e : Ending) (status : ℕ) → PutsOnce q e old new → (e ≡ ending.WriteFault → Rose old.put_faults new.put_faults) → (¬ (e ≡ ending.WriteFault) → new.put_faults ≡ old.put_faults) → (status ≡ status_of e) ⊎ (status ≡ status_unsent e) → PutsByStatus q status old new
  puts_by_status (ending.Reached r) status (right, each) rose stays is =
      elim is [
        | inl sent ↦ all_put r status right each sent
        | inr unsent ↦ elim (unsent_number r.status) [ inl seven ↦ at_seven r status right (inl (each, stays (λ e. cc))) (unsent ∙ seven) | inr stays ↦ all_put r status right each (unsent ∙ stays.0) ]
      ]
  puts_by_status (ending.WriteFault) status (r, right, front) rose stays is = at_seven r status right (inr (front, rose refl)) (elim is [ inl sent ↦ sent | inr unsent ↦ unsent ])
  puts_by_status (ending.ReadFault) status same rose stays is = none_put status 6 (λ own. own.0 refl) (λ e. omega arith) (elim is [ inl sent ↦ sent | inr unsent ↦ unsent ]) same
  puts_by_status (ending.OutOfMemory) status same rose stays is = none_put status 8 (λ own. own.2 refl) (λ e. omega arith) (elim is [ inl sent ↦ sent | inr unsent ↦ unsent ]) same

-- what was begun by the ending, and so by its status, be its text sent or not
module _ (inputs : List Input) (old new : ShelfSeen) where
  pub begun_reached : (r : Reply) → MayStop inputs r ⊎ AllBegun inputs old.begins new.begins → BegunForReply old.files inputs old.begins new.begins → BegunByStatus inputs (status_number r.status) old new
  begun_reached r all needed =
      let own = own_number r.status in record {
        own = λ mine. needed;
        result = λ low. elim all [ inl stop ↦ absurd (let high = (may_plain inputs r stop).0 in omega arith) | inr every ↦ every ];
        write_fault = λ seven. absurd (own.1 seven);
        read_fault = λ six. absurd (own.0 six);
        memory = λ eight. absurd (own.2 eight);
      }

  begun_seven : (status : ℕ) → status ≡ 7 → AllBegun inputs old.begins new.begins → BegunByStatus inputs status old new
  begun_seven status is all = record {
    own = λ own. absurd (own.1 is);
    result = λ low. all;
    write_fault = λ seven. all;
    read_fault = λ six. absurd (omega arith);
    memory = λ eight. absurd (omega arith);
  }

  pub begun_cut : (r : Reply) → MayStop inputs r ⊎ AllBegun inputs old.begins new.begins → 1 ≤ length r.puts → BegunByStatus inputs 7 old new
  begun_cut r all some = begun_seven 7 refl (elim all [ inl stop ↦ absurd (let none = ap length (may_plain inputs r stop).1 in omega arith) | inr every ↦ every ])

  pub begun_unread : BegunToBlamed old.files inputs new.blamed old.begins new.begins → BegunByStatus inputs 6 old new
  begun_unread to = record {
    own = λ own. absurd (own.0 refl);
    result = λ low. absurd (omega arith);
    write_fault = λ seven. absurd (omega arith);
    read_fault = λ six. to;
    memory = λ eight. absurd (omega arith);
  }

  pub begun_refused : BegunInTurn old.files inputs old.begins new.begins → BegunByStatus inputs 8 old new
  begun_refused some = record {
    own = λ own. absurd (own.2 refl);
    result = λ low. absurd (omega arith);
    write_fault = λ seven. absurd (omega arith);
    read_fault = λ six. absurd (omega arith);
    memory = λ eight. some;
  }

  pub begun_by_status : (e : Ending) (status : ℕ) → BegunByStatus inputs (status_of e) old new → (status ≡ status_of e) ⊎ (status ≡ status_unsent e) → BegunByStatus inputs status old new
  begun_by_status (ending.Reached r) status begun is =
      let P : ℕ → Type 0 = λ n. BegunByStatus inputs n old new in
      elim is [
        | inl sent ↦ subst P (sym sent) begun
        | inr unsent ↦ elim (unsent_number r.status) [ inl seven ↦ begun_seven status (unsent ∙ seven) (begun.result (unsent_low r.status seven)) | inr stays ↦ subst P (sym (unsent ∙ stays.0)) begun ]
      ]
  begun_by_status (ending.WriteFault) status begun is = subst (λ n. BegunByStatus inputs n old new) (sym (elim is [ inl sent ↦ sent | inr unsent ↦ unsent ])) begun
  begun_by_status (ending.ReadFault) status begun is = subst (λ n. BegunByStatus inputs n old new) (sym (elim is [ inl sent ↦ sent | inr unsent ↦ unsent ])) begun
  begun_by_status (ending.OutOfMemory) status begun is = subst (λ n. BegunByStatus inputs n old new) (sym (elim is [ inl sent ↦ sent | inr unsent ↦ unsent ])) begun

-- puts begin no file
pub begun_after_puts : (inputs : List Input) (old mid new : ShelfSeen) (status : ℕ) → ¬ (status ≡ 6) → new.begins ≡ mid.begins → BegunByStatus inputs status old mid → BegunByStatus inputs status old new
begun_after_puts inputs old mid new status not same begun = record {
  own = λ mine. let P : ℕ → Type 0 = λ n. BegunForReply old.files inputs old.begins n in subst P (sym same) (begun.own mine);
  result = λ low. let P : ℕ → Type 0 = λ n. AllBegun inputs old.begins n in subst P (sym same) (begun.result low);
  write_fault = λ seven. let P : ℕ → Type 0 = λ n. AllBegun inputs old.begins n in subst P (sym same) (begun.write_fault seven);
  read_fault = λ six. absurd (not six);
  memory = λ eight. let P : ℕ → Type 0 = λ n. BegunInTurn old.files inputs old.begins n in subst P (sym same) (begun.memory eight);
}

pub on_error : {T E : Type 0} (P : Type 0) (r : Result T E) (e : E) → r ≡ Err e → OnErr r P → P
on_error P (Ok x) e is h = absurd (let f = is in cc)
on_error P (Err f) e is h = h

-- how each end comes about
module _ (q : Request) (old new : ShelfSeen) where
  pub ends_unread : 1 ≤ length q.inputs → Rose old.read_faults new.read_faults → new.files ≡ old.files → new.put_faults ≡ old.put_faults → EndsSo q ending.ReadFault old new
  ends_unread some rose stays same = record {
    may = some;
    leaves = both_same old.files new.files (λ files files'. files' ≡ files) (λ files. refl) stays;
    read_fault = λ is. rose;
    no_read_fault = λ not. absurd (not refl);
    write_fault = λ is. cc;
    no_write_fault = λ not. same;
  }

  pub ends_refused : new.read_faults ≡ old.read_faults → new.files ≡ old.files → new.put_faults ≡ old.put_faults → EndsSo q ending.OutOfMemory old new
  ends_refused none stays same = record {
    may = tt;
    leaves = both_same old.files new.files (λ files files'. files' ≡ files) (λ files. refl) stays;
    read_fault = λ is. cc;
    no_read_fault = λ not. none;
    write_fault = λ is. cc;
    no_write_fault = λ not. same;
  }

  pub ends_reached : (r : Reply) → IfSome old.files (λ files. IsReplyFor q files r) → MayReply q r → BeforeAndAfter old.files new.files (λ files files'. files' ≡ filed files r.puts) →
      new.read_faults ≡ old.read_faults → new.put_faults ≡ old.put_faults → EndsSo q (ending.Reached r) old new
  ends_reached r right may written none same = record {
    may = may;
    leaves = go old.files right written;
    read_fault = λ is. cc;
    no_read_fault = λ not. none;
    write_fault = λ is. cc;
    no_write_fault = λ not. same;
  }
    where
      go : (h : Option FileMap) → IfSome h (λ files. IsReplyFor q files r) → BeforeAndAfter h new.files (λ files files'. files' ≡ filed files r.puts) → BeforeAndAfter h new.files (λ files files'. Leaves q (ending.Reached r) files files')
      go None right p = p
      go (Some files) right (files', is, p) = (files', is, (right, p))

  pub ends_cut : (r : Reply) → IfSome old.files (λ files. IsReplyFor q files r) → MayReply q r → BeforeAndAfter old.files new.files (λ files files'. IsCutShort files r.puts files') → 1 ≤ length r.puts →
      new.read_faults ≡ old.read_faults → Rose old.put_faults new.put_faults → EndsSo q ending.WriteFault old new
  ends_cut r right may cut some none rose = record {
    may = (r, may, some);
    leaves = go old.files right cut;
    read_fault = λ is. cc;
    no_read_fault = λ not. none;
    write_fault = λ is. rose;
    no_write_fault = λ not. absurd (not refl);
  }
    where
      go : (h : Option FileMap) → IfSome h (λ files. IsReplyFor q files r) → BeforeAndAfter h new.files (λ files files'. IsCutShort files r.puts files') → BeforeAndAfter h new.files (λ files files'. Leaves q ending.WriteFault files files')
      go None right p = p
      go (Some files) right (files', is, p) = (files', is, (r, right, p))

-- a file that is too long or has a fault ends a command that would go on by itself
pub ends_stopped : (i : Input) (old new : ShelfSeen) (r : Reply) → IfSome old.files (λ files. FileStops files i r) → MayStopAt i.kind r → new.read_faults ≡ old.read_faults → new.files ≡ old.files → new.put_faults ≡ old.put_faults →
    EndsSo (only_reading (i ∷ [])) (ending.Reached r) old new
ends_stopped i old new r stops may none stays same =
    let plain = may_plain (i ∷ []) r (inl may) in
    ends_reached (only_reading (i ∷ [])) old new r (right old.files stops) (inl (inl may))
    (both_same old.files new.files (λ files files'. files' ≡ filed files r.puts) (λ files. sym (ap (filed files) plain.1)) stays) none same
  where
    right : (h : Option FileMap) → IfSome h (λ files. FileStops files i r) → IfSome h (λ files. IsReplyFor (only_reading (i ∷ [])) files r)
    right None p = tt
    right (Some files) p = inl (inl p)

-- the calls by the ending are those by its status
pub calls_shelf : (q : Request) (old new : ShelfSeen) (e : Ending) (status : ℕ) → EndsSo q e old new → PutsOnce q e old new → MissesInTurn q.inputs old new → BegunByStatus q.inputs (status_of e) old new → (status ≡ status_of e) ⊎ (status ≡ status_unsent e) → CallsShelf q status old new
calls_shelf q old new e status ends put missing begun is = record {
  begun = begun_by_status q.inputs old new e status begun is;
  missing = missing;
  put_once = puts_by_status q old new e status put ends.write_fault ends.no_write_fault is;
}
