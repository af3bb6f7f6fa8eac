use Rattle.std.proofs.Common.{◌≡◌, take}
use Rattle.cert_check.specs.Firsts.{mixed_words}
use Rattle.cert_check.proofs.firsts.mix_words.Given as goal

abbrev pub invariant-loop-k : goal.invariant-loop-k
invariant-loop-k l = record { is : l.now ≡ mixed_words l.mixed (take l.k l.words) }
