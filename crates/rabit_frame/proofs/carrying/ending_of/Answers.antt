use Rattle.std.proofs.Common.{◌≡◌, ◌≤◌, ◌∙◌, ℕ, List, length, rules, subst, Option, OnErr, arith}
use Rattle.rabit_frame.specs.Files.{Output}
use Rattle.shelf_io.specs.Shelf.{FileMap}
use Rattle.shelf_io.specs.Counts.{Rose}
use Rattle.shelf_io.specs.Seen.{ShelfSeen}
use Rattle.rabit_frame.specs.Statuses.{status_number}
use Rattle.rabit_frame.specs.Ending.{BeforeAndAfter, filed, IsCutShort, PutEach, PutFront}
use Rattle.rabit_frame.proofs.SeenLemmas.{put_begins, put_read_faults, read_files, read_put_faults, read_puts}
use Rattle.rabit_frame.proofs.EndLemmas.{on_error, ends_unread, ends_refused, ends_reached, ends_cut, begun_reached, begun_cut, begun_unread, begun_refused, begun_after_puts, own_number}
use Rattle.rabit_frame.proofs.carrying.ending_of.Goals as goal

pub returns-in-Err-ReadFault-clause-ends : goal.returns-in-Err-ReadFault-clause-ends
returns-in-Err-ReadFault-clause-ends g c =
    let e = c.in-Err-ReadFault.ensures in
    ends_unread _ (g.H.Shelf.seen c.args.shelf.now) (g.H.Shelf.seen c.reply_of.new.shelf) (e.some (search rules)) (e.read_fault (search rules)) (read_files _ (g.H.Shelf.seen c.args.shelf.now) (g.H.Shelf.seen c.reply_of.new.shelf) e.only_read) (read_put_faults _ (g.H.Shelf.seen c.args.shelf.now) (g.H.Shelf.seen c.reply_of.new.shelf) e.only_read)

pub returns-in-Err-OutOfMemory-clause-ends : goal.returns-in-Err-OutOfMemory-clause-ends
returns-in-Err-OutOfMemory-clause-ends g c =
    let e = c.in-Err-OutOfMemory.ensures in
    ends_refused _ (g.H.Shelf.seen c.args.shelf.now) (g.H.Shelf.seen c.reply_of.new.shelf) (e.no_read_fault (search rules)) (read_files _ (g.H.Shelf.seen c.args.shelf.now) (g.H.Shelf.seen c.reply_of.new.shelf) e.only_read) (read_put_faults _ (g.H.Shelf.seen c.args.shelf.now) (g.H.Shelf.seen c.reply_of.new.shelf) e.only_read)

pub returns-in-Ok-put_all-clause-ends : goal.returns-in-Ok-put_all-clause-ends
returns-in-Ok-put_all-clause-ends g c =
    let old : ShelfSeen = g.H.Shelf.seen c.args.shelf.now in
    let mid : ShelfSeen = g.H.Shelf.seen c.reply_of.new.shelf in
    let new : ShelfSeen = g.H.Shelf.seen c.put_all.new.shelf in
    let e = c.in-Ok.ensures in
    let w = c.in-Ok-put_all.ensures in
    let P : List Output → Type 0 = λ ps. BeforeAndAfter mid.files new.files (λ files files'. files' ≡ filed files ps) in
    let Q : Option FileMap → Type 0 = λ h. BeforeAndAfter h new.files (λ files files'. files' ≡ filed files c.in-Ok.reply.puts) in
    let none = put_read_faults (g.H.Shelf.seen c.reply_of.new.shelf) (g.H.Shelf.seen c.put_all.new.shelf) w.only_put ∙ e.no_read_fault (λ is. cc) in
    ends_reached _ old new c.in-Ok.reply e.right e.may (subst Q (read_files _ (g.H.Shelf.seen c.args.shelf.now) (g.H.Shelf.seen c.reply_of.new.shelf) e.only_read) (subst P c.as_slice.ensures w.written)) none (w.done ∙ read_put_faults _ (g.H.Shelf.seen c.args.shelf.now) (g.H.Shelf.seen c.reply_of.new.shelf) e.only_read)

pub returns-clause-ends : goal.returns-clause-ends
returns-clause-ends g c =
    let old : ShelfSeen = g.H.Shelf.seen c.args.shelf.now in
    let mid : ShelfSeen = g.H.Shelf.seen c.reply_of.new.shelf in
    let new : ShelfSeen = g.H.Shelf.seen c.put_all.new.shelf in
    let e = c.in-Ok.ensures in
    let failed = λ (P : Type 0) (h : OnErr c.put_all.result P). on_error P c.put_all.result c.in-Err._failed c.in-Err.is h in
    let w = c.put_all.ensures in
    let P : List Output → Type 0 = λ ps. BeforeAndAfter mid.files new.files (λ files files'. IsCutShort files ps files') in
    let Q : List Output → Type 0 = λ ps. 1 ≤ length ps in
    let R : ℕ → Type 0 = λ n. Rose n new.put_faults in
    let S : Option FileMap → Type 0 = λ h. BeforeAndAfter h new.files (λ files files'. IsCutShort files c.in-Ok.reply.puts files') in
    let none = put_read_faults (g.H.Shelf.seen c.reply_of.new.shelf) (g.H.Shelf.seen c.put_all.new.shelf) w.only_put ∙ e.no_read_fault (λ is. cc) in
    ends_cut _ old new c.in-Ok.reply e.right e.may (subst S (read_files _ (g.H.Shelf.seen c.args.shelf.now) (g.H.Shelf.seen c.reply_of.new.shelf) e.only_read) (subst P c.as_slice.ensures (failed _ w.cut))) (subst Q c.as_slice.ensures (failed _ w.some)) none
    (subst R (read_put_faults _ (g.H.Shelf.seen c.args.shelf.now) (g.H.Shelf.seen c.reply_of.new.shelf) e.only_read) (failed _ w.failed))

pub returns-in-Ok-put_all-clause-put_once : goal.returns-in-Ok-put_all-clause-put_once
returns-in-Ok-put_all-clause-put_once g c =
    let e = c.in-Ok.ensures in
    let w = c.in-Ok-put_all.ensures in
    let now : ℕ = (g.H.Shelf.seen c.put_all.new.shelf).puts in
    let P : List Output → Type 0 = λ ps. PutEach ps (g.H.Shelf.seen c.reply_of.new.shelf).puts now in
    let Q : ℕ → Type 0 = λ n. PutEach c.in-Ok.reply.puts n now in
    ((e.may, e.right), subst Q (read_puts _ (g.H.Shelf.seen c.args.shelf.now) (g.H.Shelf.seen c.reply_of.new.shelf) e.only_read) (subst P c.as_slice.ensures w.put_each))

pub returns-clause-put_once : goal.returns-clause-put_once
returns-clause-put_once g c =
    let e = c.in-Ok.ensures in
    let failed = λ (P : Type 0) (h : OnErr c.put_all.result P). on_error P c.put_all.result c.in-Err._failed c.in-Err.is h in
    let now : ℕ = (g.H.Shelf.seen c.put_all.new.shelf).puts in
    let mid : ShelfSeen = g.H.Shelf.seen c.reply_of.new.shelf in
    let new : ShelfSeen = g.H.Shelf.seen c.put_all.new.shelf in
    let P : List Output → Type 0 = λ ps. PutFront ps mid.files new.files mid.puts now in
    let Q : ℕ → Type 0 = λ n. PutFront c.in-Ok.reply.puts mid.files new.files n now in
    let R : Option FileMap → Type 0 = λ h. PutFront c.in-Ok.reply.puts h new.files (g.H.Shelf.seen c.args.shelf.now).puts now in
    (c.in-Ok.reply, (e.may, e.right), subst R (read_files _ (g.H.Shelf.seen c.args.shelf.now) (g.H.Shelf.seen c.reply_of.new.shelf) e.only_read) (subst Q (read_puts _ (g.H.Shelf.seen c.args.shelf.now) (g.H.Shelf.seen c.reply_of.new.shelf) e.only_read) (subst P c.as_slice.ensures (failed _ c.put_all.ensures.put_front))))

pub returns-in-Err-ReadFault-clause-put_once : goal.returns-in-Err-ReadFault-clause-put_once
returns-in-Err-ReadFault-clause-put_once g c = read_puts _ (g.H.Shelf.seen c.args.shelf.now) (g.H.Shelf.seen c.reply_of.new.shelf) c.in-Err-ReadFault.ensures.only_read

pub returns-in-Err-OutOfMemory-clause-put_once : goal.returns-in-Err-OutOfMemory-clause-put_once
returns-in-Err-OutOfMemory-clause-put_once g c = read_puts _ (g.H.Shelf.seen c.args.shelf.now) (g.H.Shelf.seen c.reply_of.new.shelf) c.in-Err-OutOfMemory.ensures.only_read

pub returns-in-Ok-put_all-clause-begun : goal.returns-in-Ok-put_all-clause-begun
returns-in-Ok-put_all-clause-begun g c =
    let e = c.in-Ok.ensures in
    begun_after_puts _ (g.H.Shelf.seen c.args.shelf.now) (g.H.Shelf.seen c.reply_of.new.shelf) (g.H.Shelf.seen c.put_all.new.shelf) (status_number c.in-Ok.reply.status) (λ e. (own_number c.in-Ok.reply.status).0 e) (put_begins (g.H.Shelf.seen c.reply_of.new.shelf) (g.H.Shelf.seen c.put_all.new.shelf) c.in-Ok-put_all.ensures.only_put)
    (begun_reached _ _ _ c.in-Ok.reply e.all_begun e.begun_for_reply)

pub returns-clause-begun : goal.returns-clause-begun
returns-clause-begun g c =
    let failed = λ (P : Type 0) (h : OnErr c.put_all.result P). on_error P c.put_all.result c.in-Err._failed c.in-Err.is h in
    let Q : List Output → Type 0 = λ ps. 1 ≤ length ps in
    begun_after_puts _ (g.H.Shelf.seen c.args.shelf.now) (g.H.Shelf.seen c.reply_of.new.shelf) (g.H.Shelf.seen c.put_all.new.shelf) 7 (λ e. omega arith) (put_begins (g.H.Shelf.seen c.reply_of.new.shelf) (g.H.Shelf.seen c.put_all.new.shelf) c.put_all.ensures.only_put)
    (begun_cut _ _ _ c.in-Ok.reply c.in-Ok.ensures.all_begun (subst Q c.as_slice.ensures (failed _ c.put_all.ensures.some)))

pub returns-in-Err-ReadFault-clause-begun : goal.returns-in-Err-ReadFault-clause-begun
returns-in-Err-ReadFault-clause-begun g c = begun_unread _ _ _ (c.in-Err-ReadFault.ensures.begun_to_blamed (search rules))

pub returns-in-Err-OutOfMemory-clause-begun : goal.returns-in-Err-OutOfMemory-clause-begun
returns-in-Err-OutOfMemory-clause-begun g c = begun_refused _ _ _ c.in-Err-OutOfMemory.ensures.begun_in_turn
