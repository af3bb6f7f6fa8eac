use Rattle.std.proofs.Common.{◌≡◌, inr}
use Rattle.std.proofs.lemmas.Result.{IfOk-weaker}
use Rattle.auto_core.specs.Automaton.{Automaton}
use Rattle.ba_format.specs.declared.parts.Joined.{Joined}
use Rattle.ba_format.specs.Writing.{written}
use Rattle.rabit_frame.specs.declared.parts.Status.TheVariants as status
use Rattle.rabit_frame.specs.declared.parts.Reply.{Reply}
use Rattle.rabit_frame.specs.Reading.{only_said}
use Rattle.rabit_cli.specs.Intersect.{IsIntersectionReply}
use Rattle.rabit_cli.proofs.intersecting.intersected.Goals as goal

pub returns-in-Ok : goal.returns-in-Ok
returns-in-Ok c =
    let C : Automaton = c.in-Ok.made in
    let pair : Joined = c.args.pair.now in
    IfOk-weaker c.printed.result (λ (r : Reply). r ≡ only_said status.Done (written C pair.labels)) (IsIntersectionReply c.args.mode pair)
    (λ r is. inr (C, c.in-Ok.ensures.exact, c.in-Ok.ensures.within, is)) c.printed.ensures
