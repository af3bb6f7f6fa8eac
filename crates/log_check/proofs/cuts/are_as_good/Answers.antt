use Rattle.std.proofs.Common.{◌≡◌, true, refl, slice_index_or, rules}
use Rattle.cert_value.specs.declared.types.GoneBy.{GoneBy}
use Rattle.log_check.specs.Closures.{IsAsGoodBy}
use Rattle.log_check.proofs.BlockLemmas.{all_more, all_told}
use Rattle.log_check.proofs.cuts.are_as_good.Goals as goal

pub loop-one-preserved : goal.loop-one-preserved
loop-one-preserved c =
    let none : GoneBy = record { trans = 0; by = 0 } in
    let gone = c.args.gone.now in
    let k = c.loop-one.one-index in
    let is : c.is_as_good.result ≡ true = search rules in
    all_more (IsAsGoodBy c.args.automaton.now c.args.back.now c.args.ahead.now) gone k (slice_index_or gone k none) none c.loop-one-test.true refl c.loop-one.invariant (c.is_as_good.ensures.0 is)

pub returns : goal.returns
returns c = all_told (IsAsGoodBy c.args.automaton.now c.args.back.now c.args.ahead.now) c.args.gone.now c.loop-one.one-index c.loop-one-test.false c.loop-one.invariant
