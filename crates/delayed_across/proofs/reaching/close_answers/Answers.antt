use Rattle.std.proofs.Common.{◌<◌, ℕ, List, length, get_or, subst, arith}
use Rattle.useful_states.specs.Gathering.{HasGained}
use Rattle.useful_states.proofs.GatherLemmas.{list_is_short, closing_more, closing_ends}
use Rattle.delayed_across.specs.Reached.{LeadsOn}
use Rattle.delayed_across.proofs.reaching.close_answers.Goals as goal

pub loop-at-smaller : goal.loop-at-smaller
loop-at-smaller c =
    let few = list_is_short c.loop-at.gathered c.loop-at.invariant.listed in
    let same = c.loop-at.invariant.states in
    omega (arith, c.loop-at-test.true, c.requires.size)

pub loop-at-preserved : goal.loop-at-preserved
loop-at-preserved c =
    let R = LeadsOn c.args.first.now c.args.second.now c.args.pairs.now in
    let at : ℕ = c.loop-at.at in
    let now = c.loop-at.gathered in
    let within : at < length now.list.items = omega (arith, c.loop-at-test.true) in
    let P : List ℕ → Type 0 = λ l. HasGained (R (get_or l at 0)) now c.add_answers.new.gathered in
    closing_more R c.args.gathered.now now c.add_answers.new.gathered at c.loop-at.invariant within (subst P c.as_slice.ensures.value c.in_ok-add_answers.ensures)

pub returns : goal.returns
returns c =
    let R = LeadsOn c.args.first.now c.args.second.now c.args.pairs.now in
    let now = c.loop-at.gathered in
    closing_ends R c.args.gathered.now now c.loop-at.at c.loop-at.invariant (omega (arith, c.loop-at-test.false))
