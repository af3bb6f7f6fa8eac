use Rattle.std.proofs.Common.{inl, inr, refl, arith}
use Rattle.product_search.proofs.FoundLemmas.{next_followed, all_followed}
use Rattle.product_search.proofs.found.Found.expand.Goals as goal

pub returns-then-len-limit : goal.returns-then-len-limit
returns-then-len-limit c =
    let (found, grows, few, done) = c.loop-t.invariant in
    let on = next_followed c.args.first.now c.args.second.now c.args.quiet c.outgoing-span.ensures.valid c.requires.deterministic c.args.self.now.pairs.keys c.args.from c.requires.within c.pair_of-pair.result c.pair_of-pair.ensures
    c.outgoing-span.result.begin c.outgoing-span.result.end c.outgoing-span.ensures.range c.loop-t.t c.loop-t.self.pairs.keys c.loop-t.self.steps.items found grows
    c.loop-t.auto.t c.loop-t-test.true done c.transitions.result.now c.transitions.ensures.list c.follow.new.self.pairs.keys c.follow.new.self.steps.items c.in_ok-follow.ensures in
    (on.0, on.1, inr (refl, omega (arith, c.if-len-limit.true, c.len.ensures.len)))

pub loop-t-preserved : goal.loop-t-preserved
loop-t-preserved c =
    let (found, grows, few, done) = c.loop-t.invariant in
    let on = next_followed c.args.first.now c.args.second.now c.args.quiet c.outgoing-span.ensures.valid c.requires.deterministic c.args.self.now.pairs.keys c.args.from c.requires.within c.pair_of-pair.result c.pair_of-pair.ensures
    c.outgoing-span.result.begin c.outgoing-span.result.end c.outgoing-span.ensures.range c.loop-t.t c.loop-t.self.pairs.keys c.loop-t.self.steps.items found grows
    c.loop-t.auto.t c.loop-t-test.true done c.transitions.result.now c.transitions.ensures.list c.follow.new.self.pairs.keys c.follow.new.self.steps.items c.in_ok-follow.ensures in
    (on.0, on.1, omega (arith, c.if-len-limit.false, c.len.ensures.len), on.2)

pub returns : goal.returns
returns c =
    let (found, grows, few, done) = c.loop-t.invariant in (
      found,
      grows,
      inl (
        refl,
        few,
        all_followed c.args.first.now c.args.second.now c.args.quiet c.outgoing-span.ensures.valid c.requires.deterministic c.args.self.now.pairs.keys c.args.from c.requires.within c.pair_of-pair.result c.pair_of-pair.ensures
            c.outgoing-span.result.begin c.outgoing-span.result.end c.outgoing-span.ensures.range c.loop-t.t c.loop-t.self.pairs.keys c.loop-t.self.steps.items found grows (omega (arith, c.loop-t-test.false)) done,
      ),
    )
