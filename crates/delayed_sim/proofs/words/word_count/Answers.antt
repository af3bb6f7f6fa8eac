use Rattle.std.proofs.Common.{rules, ◌+◌, ◌*◌, ◌^◌, ◌<◌, arith}
use Rattle.delayed_sim.proofs.WordLemmas.{power_more, power_fits}
use Rattle.delayed_sim.proofs.words.word_count.Goals as goal

pub overflow_mul-count : goal.overflow_mul-count
overflow_mul-count c =
    let fits : c.loop.count * c.args.labels < 2 ^ 32 = power_fits c.args.labels c.loop.counter c.args.letters (2 ^ 32) c.loop.count (omega (arith, c.loop-test.true)) c.requires c.loop.invariant in
    search rules

pub loop-preserved : goal.loop-preserved
loop-preserved c = power_more c.args.labels c.loop.count c.loop.counter (c.loop.counter + 1) (omega arith) c.loop.invariant
