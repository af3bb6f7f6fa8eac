use Rattle.std.proofs.Common.{arith}
use Rattle.bisimulation.proofs.SignatureLemmas.{marking_more, marking_ends}
use Rattle.bisimulation.proofs.signing.marks.Goals as goal

pub loop-t-preserved : goal.loop-t-preserved
loop-t-preserved c =
    marking_more c.args.automaton.now c.args.of.now c.args.state c.outgoing-span.result.begin c.loop-t.t c.outgoing-span.result.end c.loop-t.made.items c.push.new.self.items c.mark_of.result
    c.loop-t.invariant c.outgoing-span.ensures.range c.loop-t.auto.t c.loop-t-test.true c.mark_of.ensures c.in_ok-push.ensures.items

pub returns : goal.returns
returns c =
    marking_ends c.args.automaton.now c.args.of.now c.args.state c.outgoing-span.result.begin c.loop-t.t c.outgoing-span.result.end c.loop-t.made.items
    c.loop-t.invariant c.outgoing-span.ensures.range (omega (arith, c.loop-t-test.false))
