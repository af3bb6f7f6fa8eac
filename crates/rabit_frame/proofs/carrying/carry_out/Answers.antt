use Rattle.std.proofs.Common.{◌⊎◌, ◌≡◌, inl, inr}
use Rattle.shelf_io.specs.Seen.{Call, call}
use Rattle.rabit_frame.specs.Ending.{status_of, status_unsent}
use Rattle.rabit_frame.proofs.EndLemmas.{carried_out, tells_faults, calls_shelf}
use Rattle.rabit_frame.proofs.carrying.carry_out.Goals as goal

pub returns-clause-carried : goal.returns-clause-carried
returns-clause-carried g c =
    let seen : Call = call (g.H.Shelf.seen c.args.shelf.now) (g.H.Shelf.seen c.ending_of-ending.new.shelf) (g.K.Sink.seen c.args.out.now) (g.K.Sink.seen c.say-status.new.out) c.say-status.result in
    carried_out (g.W.Work.request c.args.work.now) seen c.ending_of-ending.result c.ending_of-ending.ensures.ends c.say-status.ensures.said c.requires.one

pub returns-clause-faults : goal.returns-clause-faults
returns-clause-faults g c =
    let seen : Call = call (g.H.Shelf.seen c.args.shelf.now) (g.H.Shelf.seen c.ending_of-ending.new.shelf) (g.K.Sink.seen c.args.out.now) (g.K.Sink.seen c.say-status.new.out) c.say-status.result in
    tells_faults (g.W.Work.request c.args.work.now) seen c.ending_of-ending.result c.ending_of-ending.ensures.ends c.say-status.ensures.said

pub returns-clause-calls : goal.returns-clause-calls
returns-clause-calls g c =
    let e = c.ending_of-ending.ensures in
    let is : (c.say-status.result ≡ status_of c.ending_of-ending.result) ⊎ (c.say-status.result ≡ status_unsent c.ending_of-ending.result) = elim c.say-status.ensures.said [ inl whole ↦ inl whole.0 | inr front ↦ inr front.0 ] in
    record { shelf = calls_shelf _ _ _ c.ending_of-ending.result _ e.ends e.put_once e.missing e.begun is; given_once = c.say-status.ensures.given_once }
