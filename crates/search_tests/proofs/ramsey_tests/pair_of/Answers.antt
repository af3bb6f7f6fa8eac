use Rattle.std.proofs.lemmas.Result.{IfOk-weaker}
use Rattle.ba_format.specs.Joining.{IsJoined}
use Rattle.rabit_frame.specs.FileKinds.{HasLabelTexts}
use Rattle.search_tests.proofs.ramsey_tests.pair_of.Goals as goal

pub returns : goal.returns
returns c = IfOk-weaker c.join.result (IsJoined c.in_ok-one.one c.in_ok-two.two) HasLabelTexts (λ pair joined. record { first = joined.first.labels_given; second = joined.second.labels_given }) c.join.ensures
