use Rattle.std.proofs.Common.{◌<◌, ℕ, List, length, get_or, subst, arith}
use Rattle.useful_states.specs.Gathering.{HasGained, MovesAlong}
use Rattle.useful_states.proofs.GatherLemmas.{list_is_short, closing_more, closing_ends}
use Rattle.useful_states.proofs.gathering.Gathered.close.Goals as goal

pub loop-at-smaller : goal.loop-at-smaller
loop-at-smaller c =
    let few = list_is_short c.loop-at.self c.loop-at.invariant.listed in
    let same = c.loop-at.invariant.states in
    omega (arith, c.loop-at-test.true, c.requires.states)

pub loop-at-preserved : goal.loop-at-preserved
loop-at-preserved c =
    let R = MovesAlong c.args.automaton.now c.args.direction in
    let at : ℕ = c.loop-at.at in
    let now = c.loop-at.self in
    let within : at < length now.list.items = omega (arith, c.loop-at-test.true) in
    let P : List ℕ → Type 0 = λ l. HasGained (R (get_or l at 0)) now c.add_next.new.self in
    closing_more R c.args.self.now now c.add_next.new.self at c.loop-at.invariant within (subst P c.as_slice.ensures.value c.in_ok-add_next.ensures)

pub returns : goal.returns
returns c =
    let R = MovesAlong c.args.automaton.now c.args.direction in
    let now = c.loop-at.self in
    closing_ends R c.args.self.now now c.loop-at.at c.loop-at.invariant (omega (arith, c.loop-at-test.false))
