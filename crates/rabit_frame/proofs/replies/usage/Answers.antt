use Rattle.std.proofs.Common.{◌∙◌, ap}
use Rattle.rabit_frame.specs.declared.parts.Status.TheVariants as status
use Rattle.rabit_frame.specs.Reading.{only_said}
use Rattle.rabit_frame.proofs.replies.usage.Goals as goal

pub returns : goal.returns
returns c = c.saying.ensures ∙ ap (only_said status.Usage) c.in_ok-text.ensures
