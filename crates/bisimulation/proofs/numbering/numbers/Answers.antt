use Rattle.std.proofs.Common.{refl, arith}
use Rattle.bisimulation.proofs.PutLemmas.{number_stands}
use Rattle.bisimulation.proofs.NumberLemmas.{numbering_starts, numbering_more, numbering_ends}
use Rattle.bisimulation.proofs.numbering.numbers.Goals as goal

pub loop-i-init : goal.loop-i-init
loop-i-init c = numbering_starts c.args.of.now c.new-seen.result.keys c.new-made.result.items c.new-seen.ensures.empty c.new-made.ensures.items

pub loop-i-preserved : goal.loop-i-preserved
loop-i-preserved c =
    let e = c.in_ok-number.ensures in
    numbering_more c.args.of.now c.loop-i.seen.keys c.insert_full.new.self.keys c.loop-i.made.items c.push.new.self.items c.loop-i.i c.in_ok-number.number _ c.loop-i.invariant refl e.keys e.within
    (number_stands c.insert_full.new.self.keys _ c.in_ok-number.number e.stored) c.in_ok-push.ensures.items

pub returns : goal.returns
returns c = numbering_ends c.args.of.now c.loop-i.seen.keys c.loop-i.made.items c.loop-i.i c.loop-i.invariant c.requires.some (omega (arith, c.loop-i-test.false, c.loop-i.auto.i-end))
