use Rattle.std.proofs.Common.{◌≤◌}
use Rattle.auto_core.specs.Automaton.{IsAutomaton}
use Rattle.reduce_loop.specs.Known.{AreGreatestOn}
use Rattle.reduce_loop.specs.Passes.{AreIdle}
use Rattle.reduce_loop.specs.Size.{size_of}
use Rattle.reduce_loop.proofs.LoopLemmas.{Leads}
use Rattle.reduce_loop.proofs.reducing.settled.Given as goal

abbrev pub invariant-loop-state : goal.invariant-loop-state
invariant-loop-state l =
    IsAutomaton l.state.auto
    × (l.state.auto.states ≤ 65535)
    × Leads l.automaton l.mode l.sight l.state.auto l.state.log
    × AreGreatestOn l.state.auto l.sight.look l.state.known
    × AreIdle l.state.auto l.mode l.sight l.state.idle

abbrev pub decreases-loop-state : goal.decreases-loop-state
decreases-loop-state l = size_of l.state.auto
