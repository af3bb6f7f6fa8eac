-- The laws of reduced automata.
use Rattle.std.specs.Prelude.{◌≡◌, ◌≤◌, List}
use Rattle.auto_core.specs.Automaton.{Automaton, IsAutomaton}
use Rattle.auto_core.specs.Accept.{Same}
use Rattle.auto_core.specs.declared.parts.Mode.{Mode}
use Rattle.reduce_loop.specs.declared.steps.Foresight.{Foresight}
use Rattle.reduce_loop.specs.declared.steps.Step.{Step}
use Rattle.reduce_loop.specs.Passes.{IsReduced}
use Rattle.reduce_loop.specs.Settled.{IsSettled}
use Rattle.reduce_loop.specs.Logs.{IsLog}
use Rattle.reduce_loop.specs.Size.{IsNoLarger}

-- A reduced automaton accepts the same.
abbrev pub ReducedAcceptsTheSame : Type 0
ReducedAcceptsTheSame =
    (A B : Automaton) (mode : Mode) (sight : Foresight) → IsAutomaton A → 1 ≤ sight.look
    → IsReduced A mode sight B → Same A B mode

-- The reduced automaton has the same labels, and no more states and transitions than the automaton.
abbrev pub ReducedIsNoLarger : Type 0
ReducedIsNoLarger =
    (A B : Automaton) (mode : Mode) (sight : Foresight) → IsAutomaton A → 1 ≤ sight.look
    → IsReduced A mode sight B → IsNoLarger A B

-- In it no step has anything to do.
abbrev pub ReducedIsSettled : Type 0
ReducedIsSettled =
    (A B : Automaton) (mode : Mode) (sight : Foresight) → IsAutomaton A → 1 ≤ sight.look
    → IsReduced A mode sight B → IsSettled B mode sight

-- There is one automaton at most that is A reduced.
abbrev pub ReducedIsOne : Type 0
ReducedIsOne =
    (A B C : Automaton) (mode : Mode) (sight : Foresight) → IsAutomaton A → 1 ≤ sight.look
    → IsReduced A mode sight B → IsReduced A mode sight C → B ≡ C

-- There is one log at most of the reduction of A.
abbrev pub LogIsOne : Type 0
LogIsOne = (A B C : Automaton) (mode : Mode) (sight : Foresight) (log other : List Step)
    → IsAutomaton A → 1 ≤ sight.look → IsLog A mode sight B log → IsLog A mode sight C other
    → log ≡ other

-- Where a log leads from A to B, B is A reduced.
abbrev pub LogIsOfReduced : Type 0
LogIsOfReduced =
    (A B : Automaton) (mode : Mode) (sight : Foresight) (log : List Step) → IsLog A mode sight B log
    → IsReduced A mode sight B
