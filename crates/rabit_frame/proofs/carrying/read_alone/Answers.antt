use Rattle.std.proofs.Common.{[], IfSome, inl, inr, rules}
use Rattle.shelf_io.specs.Seen.{ShelfSeen}
use Rattle.rabit_frame.specs.Reading.{FileStops, MayStopAt}
use Rattle.rabit_frame.proofs.SeenLemmas.{read_begins, read_files, read_put_faults}
use Rattle.rabit_frame.proofs.EndLemmas.{ends_stopped, ends_unread, ends_refused, begun_reached, begun_unread, begun_refused}
use Rattle.rabit_frame.proofs.TurnLemmas.{needed_here}
use Rattle.rabit_frame.proofs.carrying.read_alone.Goals as goal

pub returns-in-Err-Stopped-clause-ends : goal.returns-in-Err-Stopped-clause-ends
returns-in-Err-Stopped-clause-ends g c =
    let old : ShelfSeen = g.H.Shelf.seen c.args.shelf.now in
    let e = c.in-Err-Stopped.ensures in
    let stops : IfSome old.files (λ files. FileStops files c.args.slot.now c.in-Err-Stopped.reply) = search rules in
    let may : MayStopAt c.args.slot.now.kind c.in-Err-Stopped.reply = search rules in
    ends_stopped c.args.slot.now old (g.H.Shelf.seen c.read_one.new.shelf) c.in-Err-Stopped.reply stops may (e.no_read_fault (λ is. cc)) (read_files _ (g.H.Shelf.seen c.args.shelf.now) (g.H.Shelf.seen c.read_one.new.shelf) e.only_read) (read_put_faults _ (g.H.Shelf.seen c.args.shelf.now) (g.H.Shelf.seen c.read_one.new.shelf) e.only_read)

pub returns-in-Err-ReadFault-clause-ends : goal.returns-in-Err-ReadFault-clause-ends
returns-in-Err-ReadFault-clause-ends g c =
    let e = c.in-Err-ReadFault.ensures in
    ends_unread _ (g.H.Shelf.seen c.args.shelf.now) (g.H.Shelf.seen c.read_one.new.shelf) (search rules) (e.read_fault (search rules)) (read_files _ (g.H.Shelf.seen c.args.shelf.now) (g.H.Shelf.seen c.read_one.new.shelf) e.only_read) (read_put_faults _ (g.H.Shelf.seen c.args.shelf.now) (g.H.Shelf.seen c.read_one.new.shelf) e.only_read)

pub returns-in-Err-OutOfMemory-clause-ends : goal.returns-in-Err-OutOfMemory-clause-ends
returns-in-Err-OutOfMemory-clause-ends g c =
    let e = c.in-Err-OutOfMemory.ensures in
    ends_refused _ (g.H.Shelf.seen c.args.shelf.now) (g.H.Shelf.seen c.read_one.new.shelf) (e.no_read_fault (search rules)) (read_files _ (g.H.Shelf.seen c.args.shelf.now) (g.H.Shelf.seen c.read_one.new.shelf) e.only_read) (read_put_faults _ (g.H.Shelf.seen c.args.shelf.now) (g.H.Shelf.seen c.read_one.new.shelf) e.only_read)

pub returns-in-Err-Stopped-clause-begun : goal.returns-in-Err-Stopped-clause-begun
returns-in-Err-Stopped-clause-begun g c =
    let old : ShelfSeen = g.H.Shelf.seen c.args.shelf.now in
    let once = read_begins _ (g.H.Shelf.seen c.args.shelf.now) (g.H.Shelf.seen c.read_one.new.shelf) c.in-Err-Stopped.ensures.only_read in
    let stops : IfSome old.files (λ files. FileStops files c.args.slot.now c.in-Err-Stopped.reply) = search rules in
    begun_reached _ _ _ c.in-Err-Stopped.reply (inr once) (needed_here old.files c.args.slot.now [] c.in-Err-Stopped.reply _ _ once stops)

pub returns-in-Err-ReadFault-clause-begun : goal.returns-in-Err-ReadFault-clause-begun
returns-in-Err-ReadFault-clause-begun g c =
    let e = c.in-Err-ReadFault.ensures in
    begun_unread _ _ _ (inl (read_begins _ (g.H.Shelf.seen c.args.shelf.now) (g.H.Shelf.seen c.read_one.new.shelf) e.only_read, e.blames (search rules)))

pub returns-in-Err-OutOfMemory-clause-begun : goal.returns-in-Err-OutOfMemory-clause-begun
returns-in-Err-OutOfMemory-clause-begun g c = begun_refused _ _ _ (inr (inl (read_begins _ (g.H.Shelf.seen c.args.shelf.now) (g.H.Shelf.seen c.read_one.new.shelf) c.in-Err-OutOfMemory.ensures.only_read)))
