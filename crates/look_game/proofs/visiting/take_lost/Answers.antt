use Rattle.std.proofs.Common.{rules, ◌<◌, arith}
use Rattle.look_game.proofs.VisitLemmas.{taking_begins, pair_lost, all_taken, none_taken}
use Rattle.look_game.proofs.visiting.take_lost.Goals as goal

pub loop-q-init : goal.loop-q-init
loop-q-init c = (taking_begins c.args.p c.args.lost.now c.args.rel.now c.requires.valid, omega arith)

pub overflow_cast-q : goal.overflow_cast-q
overflow_cast-q c =
    let below = (c.requires.valid.in_range c.args.p c.in-Some.q (c.requires.held c.in-Some.q c.in-Some.ensures.found.here)).1 in
    let few = c.requires.few in
    let fits : c.in-Some.q < 4294967296 = omega arith in
    search rules

pub clear-requires-clause-left : goal.clear-requires-clause-left
clear-requires-clause-left c =
    let size = c.loop-q.invariant.0.size in
    let state = c.requires.state in
    omega arith

pub clear-requires-clause-right : goal.clear-requires-clause-right
clear-requires-clause-right c =
    let below = (c.requires.valid.in_range c.args.p c.in-Some.q (c.requires.held c.in-Some.q c.in-Some.ensures.found.here)).1 in
    let size = c.loop-q.invariant.0.size in
    omega arith

pub loop-q-smaller : goal.loop-q-smaller
loop-q-smaller c =
    let below = (c.requires.valid.in_range c.args.p c.in-Some.q (c.requires.held c.in-Some.q c.in-Some.ensures.found.here)).1 in
    let behind = c.in-Some.ensures.found.behind in
    omega arith

pub loop-q-preserved : goal.loop-q-preserved
loop-q-preserved c =
    let q = c.in-Some.q in
    let next = c.in-Some.ensures.found in
    let held = c.requires.held q next.here in
    let below = (c.requires.valid.in_range c.args.p q held).1 in (
      pair_lost c.args.p c.args.lost.now c.args.rel.now c.loop-q.rel c.clear.new.self c.loop-q.changed c.loop-q.at q c.loop-q.invariant.0 next held c.clear.ensures.pairs c.clear.ensures.valid,
      omega arith,
    )

pub returns-clause-takes : goal.returns-clause-takes
returns-clause-takes c =
    all_taken c.args.p c.args.lost.now c.args.rel.now c.loop-q.rel c.loop-q.changed c.loop-q.at c.loop-q.invariant.0 c.in_default.ensures.none

pub returns-clause-some : goal.returns-clause-some
returns-clause-some c = c.loop-q.invariant.0.some

pub returns-clause-same : goal.returns-clause-same
returns-clause-same c = c.loop-q.invariant.0.same

pub returns-clause-none : goal.returns-clause-none
returns-clause-none c =
    none_taken c.args.p c.args.lost.now c.args.rel.now c.loop-q.rel c.loop-q.changed c.loop-q.at c.loop-q.invariant.0 c.in_default.ensures.none
