use Rattle.std.proofs.Common.{◌≡◌, true, false, refl, sym, ◌∙◌, slice_index_or, rules}
use Rattle.std.proofs.lemmas.Bool.{false≢true}
use Rattle.cert_value.specs.declared.types.GoneBy.{GoneBy}
use Rattle.log_check.specs.Closures.{IsBetterBy}
use Rattle.log_check.proofs.BlockLemmas.{all_more, all_told}
use Rattle.log_check.proofs.cuts.are_better.Goals as goal

pub loop-one-preserved : goal.loop-one-preserved
loop-one-preserved c =
    let none : GoneBy = record { trans = 0; by = 0 } in
    let gone = c.args.gone.now in
    let k = c.loop-one.one-index in
    let is : c.is_better.result ≡ true = search rules in
    all_more (IsBetterBy c.args.automaton.now c.args.pair c.args.back.now c.args.ahead.now) gone k (slice_index_or gone k none) none c.loop-one-test.true refl c.loop-one.invariant (c.is_better.ensures.0 is)

pub returns : goal.returns
returns c = all_told (IsBetterBy c.args.automaton.now c.args.pair c.args.back.now c.args.ahead.now) c.args.gone.now c.loop-one.one-index c.loop-one-test.false c.loop-one.invariant

pub returns-then-not-is_better : goal.returns-then-not-is_better
returns-then-not-is_better c =
    let is : c.is_better.result ≡ false = search rules in
    let none : GoneBy = record { trans = 0; by = 0 } in (
      λ told. absurd (false≢true told),
      λ all. sym is ∙ c.is_better.ensures.1 (all c.loop-one.one-index none c.loop-one-test.true),
    )
