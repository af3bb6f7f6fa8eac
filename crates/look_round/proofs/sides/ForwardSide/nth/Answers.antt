use Rattle.std.proofs.Common.{◌+◌, ◌<◌, List, length, get_or, ap, sym, ◌∙◌, arith, subst}
use Rattle.auto_core.specs.Automaton.{trans}
use Rattle.auto_core.specs.declared.parts.Trans.{Trans}
use Rattle.look_round.specs.Sides.{move_of}
use Rattle.look_round.proofs.SegmentLemmas.{forward_nth}
use Rattle.look_round.proofs.sides.ForwardSide.nth.Goals as goal

pub overflow_add-t : goal.overflow_add-t
overflow_add-t c =
    let at = forward_nth c.args.automaton.now c.args.state c.outgoing.result.begin c.outgoing.result.end c.args.at c.outgoing.ensures.range c.requires.place in
    let few = c.outgoing.ensures.valid.few in
    omega (arith, at.0)

pub bounds-transitions-outgoing : goal.bounds-transitions-outgoing
bounds-transitions-outgoing c =
    let at = forward_nth c.args.automaton.now c.args.state c.outgoing.result.begin c.outgoing.result.end c.args.at c.outgoing.ensures.range c.requires.place in
    let P : List Trans → Type 0 = λ ts. c.outgoing.result.begin + c.args.at < length ts in
    subst P (sym c.transitions.ensures.list) at.0

pub returns-clause-item : goal.returns-clause-item
returns-clause-item c =
    let at = forward_nth c.args.automaton.now c.args.state c.outgoing.result.begin c.outgoing.result.end c.args.at c.outgoing.ensures.range c.requires.place in
    ap (λ ts. move_of (get_or ts (c.outgoing.result.begin + c.args.at) (trans 0 0 0))) c.transitions.ensures.list ∙ at.1
