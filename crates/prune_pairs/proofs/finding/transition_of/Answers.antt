use Rattle.std.proofs.Common.{◌∙◌, arith}
use Rattle.prune_pairs.proofs.FindLemmas.{target_read}
use Rattle.prune_pairs.proofs.TargetLemmas.{none_in_empty, none_past_other}
use Rattle.prune_pairs.proofs.finding.transition_of.Goals as goal

pub returns-then-span-clause-none : goal.returns-then-span-clause-none
returns-then-span-clause-none c =
    none_in_empty c.args.automaton.now c.args.source c.args.label c.args.target c.successors_from-span.result.begin c.successors_from-span.result.end c.successors_from-span.ensures.range c.if-span.true

pub returns-else-transitions-span-clause-none : goal.returns-else-transitions-span-clause-none
returns-else-transitions-span-clause-none c =
    let A = c.args.automaton.now in
    let s = c.successors_from-span.ensures.range in
    none_past_other A c.args.source c.args.label c.args.target c.successors_from-span.result.begin c.successors_from-span.result.end s c.successors_from-span.ensures.valid.in_order
    (let order = s.is_range in omega arith) (λ h. c.if-transitions-span.false (target_read A c.transitions.result.now _ c.transitions.ensures.list ∙ h))
