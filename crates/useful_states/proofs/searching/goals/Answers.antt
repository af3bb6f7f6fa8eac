use Rattle.std.proofs.Common.{sym, subst, IfOk}
use Rattle.auto_core.specs.Useful.{IsGoal}
use Rattle.auto_core.specs.declared.parts.Mode.{Mode}
use Rattle.useful_states.specs.Gathering.{HoldsJust}
use Rattle.useful_states.proofs.searching.goals.Goals as goal

pub returns-in-Finite : goal.returns-in-Finite
returns-in-Finite c =
    let A = c.args.automaton.now in
    let P : Mode → Type 0 = λ m. IfOk c.accepting.result (HoldsJust A.states (IsGoal A m)) in
    subst P (sym c.in-Finite.is) c.accepting.ensures

pub returns-in-Buchi : goal.returns-in-Buchi
returns-in-Buchi c =
    let A = c.args.automaton.now in
    let P : Mode → Type 0 = λ m. IfOk c.accepting_on_cycles.result (HoldsJust A.states (IsGoal A m)) in
    subst P (sym c.in-Buchi.is) c.accepting_on_cycles.ensures
