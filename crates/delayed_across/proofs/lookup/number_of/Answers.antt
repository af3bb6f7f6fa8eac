use Rattle.std.proofs.Common.{arith}
use Rattle.delayed_across.proofs.LookupLemmas.{none_past_the_end, none_there}
use Rattle.delayed_across.proofs.lookup.number_of.Goals as goal
use Rattle.delayed_across.proofs.lookup.number_of.Goals.{else-found-left-via-then-found-left+else-found-right, else-found-left-via-else-found-left}

pub returns-then-at-pairs-clause-none : goal.returns-then-at-pairs-clause-none
returns-then-at-pairs-clause-none c =
    none_past_the_end c.args.pairs.now c.requires c.place_of-at.result c.args.left c.args.right c.place_of-at.ensures.before (omega (arith, c.if-at-pairs.true))

pub returns-else-found-left-clause-none : goal.returns-else-found-left-clause-none
returns-else-found-left-clause-none c =
    let within = c.place_of-at.ensures.within in
    none_there c.args.pairs.now c.requires c.place_of-at.result c.args.left c.args.right c.place_of-at.ensures.before c.place_of-at.ensures.behind (omega (arith, within, c.if-at-pairs.false))
    (λ left right. elim c.else-found-left.branch [
      | else-found-left-via-then-found-left+else-found-right w ↦ w.if-found-right.false right
      | else-found-left-via-else-found-left w ↦ w.if-found-left.false left
    ])
