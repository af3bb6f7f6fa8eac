use Rattle.std.proofs.Common.{sym, subst}
use Rattle.useful_states.specs.Gathering.{HasGained, MovesAlong}
use Rattle.useful_states.specs.declared.direction.Direction.{Direction}
use Rattle.useful_states.proofs.gathering.Gathered.add_next.Goals as goal

pub returns-in_ok-add_targets-in-Forward : goal.returns-in_ok-add_targets-in-Forward
returns-in_ok-add_targets-in-Forward c =
    let P : Direction → Type 0 = λ d. HasGained (MovesAlong c.args.automaton.now d c.args.state) c.args.self.now c.add_targets.new.self in
    subst P (sym c.in-Forward.is) c.in_ok-add_targets-in-Forward.ensures

pub returns-in_ok-add_sources-in-Backward : goal.returns-in_ok-add_sources-in-Backward
returns-in_ok-add_sources-in-Backward c =
    let P : Direction → Type 0 = λ d. HasGained (MovesAlong c.args.automaton.now d c.args.state) c.args.self.now c.add_sources.new.self in
    subst P (sym c.in-Backward.is) c.in_ok-add_sources-in-Backward.ensures
