use Rattle.std.proofs.Common.{◌≡◌, true, rules, sym}
use Rattle.rabit_words.specs.Number.{is_spelled}
use Rattle.rabit_words.proofs.NumberLemmas.{number_refused}
use Rattle.rabit_words.proofs.number.number_between.Goals as goal

pub returns-in-Err : goal.returns-in-Err
returns-in-Err c =
    let spelled : is_spelled c.args.text.now ≡ true = search rules in
    sym (number_refused c.args.low c.args.high c.args.text.now spelled c.ranges.high.fits c.in-Err.ensures.value.0)
