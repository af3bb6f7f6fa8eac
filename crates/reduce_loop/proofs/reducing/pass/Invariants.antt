use Rattle.std.proofs.Common.{take}
use Rattle.reduce_loop.specs.Kinds.{kinds_of}
use Rattle.reduce_loop.specs.Known.{AreGreatestOn}
use Rattle.reduce_loop.specs.Logs.{LogsOn}
use Rattle.reduce_loop.specs.Passes.{AreIdle}
use Rattle.reduce_loop.proofs.reducing.pass.Given as goal

abbrev pub invariant-loop-kind : goal.invariant-loop-kind
invariant-loop-kind l =
    LogsOn l.fn.state.auto l.mode l.sight (take l.kind-index (kinds_of l.mode)) l.fn.state.log l.state.auto l.state.log
    × AreGreatestOn l.state.auto l.sight.look l.state.known
    × AreIdle l.state.auto l.mode l.sight l.state.idle
