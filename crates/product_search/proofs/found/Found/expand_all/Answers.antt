use Rattle.std.proofs.Common.{inl, refl, arith}
use Rattle.product_search.proofs.FoundLemmas.{one_expanded}
use Rattle.product_search.proofs.found.Found.expand_all.Goals as goal

pub loop-at-preserved : goal.loop-at-preserved
loop-at-preserved c =
    let (found, grows, few, within, done) = c.loop-at.invariant in
    one_expanded c.args.first.now c.args.second.now c.args.quiet c.args.limit c.args.self.now.pairs.keys c.loop-at.self.pairs.keys c.loop-at.at grows (omega (arith, c.loop-at-test.true, c.len-in-loop-at.ensures.len)) done
    c.expand.new.self.pairs.keys c.expand.new.self.steps.items c.in_ok-expand.field-0 c.if-not-branch.false c.in_ok-expand.ensures

pub returns : goal.returns
returns c =
    let (found, grows, few, within, done) = c.loop-at.invariant in
    (found, grows, inl (refl, few, λ i lt. done i (omega (arith, lt, within, c.loop-at-test.false, c.len-in-loop-at.ensures.len))))
