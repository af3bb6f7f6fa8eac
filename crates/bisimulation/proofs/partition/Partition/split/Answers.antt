use Rattle.std.proofs.Common.{ℕ, List, length, get_or, subst, arith}
use Rattle.bisimulation.specs.Rounds.{IsSplitting, IsPutInPlace}
use Rattle.bisimulation.proofs.SplitLemmas.{way_more, way_ends}
use Rattle.bisimulation.proofs.partition.Partition.split.Goals as goal

pub loop-i-preserved : goal.loop-i-preserved
loop-i-preserved c =
    let first = c.args.self.now in
    let now = c.loop-i.self in
    let new = c.move_state.new.self in
    let parts : List ℕ = c.loop-i.parts.keys in
    let more : List ℕ = c.move_state.new.parts.keys in
    let moved : List ℕ = c.loop-i.moved.items in
    let after : List ℕ = c.move_state.new.moved.items in
    let listed : List ℕ = c.args.listed.now in
    let i : ℕ = c.loop-i.i in
    let k = c.loop-i.invariant in
    let P : ℕ → Type 0 = λ m. IsSplitting m first now parts moved → IsPutInPlace m first now new more after (get_or listed i 0) in
    let put : IsPutInPlace (length first.of.items) first now new more after (get_or listed i 0) = subst P k.splitting.laid.of (c.in_ok-move_state.ensures first) k.splitting in
    way_more first now new parts more listed i moved after k c.requires.below (omega (arith, c.loop-i-test.true)) put

pub returns : goal.returns
returns c = way_ends c.args.self.now c.loop-i.self c.loop-i.parts.keys c.args.listed.now c.loop-i.i c.loop-i.moved.items c.loop-i.invariant c.requires.kept (omega (arith, c.loop-i-test.false))
