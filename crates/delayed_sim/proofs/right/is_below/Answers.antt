use Rattle.std.proofs.Common.{◌≡◌, arith}
use Rattle.std.proofs.lemmas.Bool.{false≢true, ltb-true, lt-ltb}
use Rattle.delayed_sim.proofs.RightLemmas.{one_rank}
use Rattle.delayed_sim.proofs.right.is_below.Goals as goal

pub returns-in-Some : goal.returns-in-Some
returns-in-Some c = (
  (λ t. (c.in-Some.other, c.in-Some.ensures.some, ltb-true c.in-Some.other c.args.rank t)),
  λ has.
      let same : c.in-Some.other ≡ has.0 = one_rank c.args.delayed.now.triples c.rank.ensures.valid.once c.args.ahead.now c.args.p c.args.q c.in-Some.other has.0 c.in-Some.ensures.some has.1 in
      let lt = has.2 in
      lt-ltb c.in-Some.other c.args.rank (omega (arith, same, lt)),
)

pub returns-in-None : goal.returns-in-None
returns-in-None c = ((λ t. absurd (false≢true t)), λ has. absurd (c.in-None.ensures.none has.0 has.1))
