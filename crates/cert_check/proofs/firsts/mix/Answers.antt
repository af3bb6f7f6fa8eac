use Rattle.std.proofs.Common.{rules}
use Rattle.cert_check.specs.Firsts.{mixed_with}
use Rattle.cert_check.proofs.firsts.mix.Goals as goal

pub returns : goal.returns
unfolding mixed_with
returns c = search rules
