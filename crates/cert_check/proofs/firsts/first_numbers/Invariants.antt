use Rattle.std.proofs.Common.{◌≡◌, length}
use Rattle.cert_check.specs.Firsts.{AreTheirs}
use Rattle.cert_check.proofs.FirstLemmas.{AreNumbered}
use Rattle.cert_check.proofs.firsts.first_numbers.Given as goal

abbrev pub invariant-loop-k : goal.invariant-loop-k
invariant-loop-k l = record {
  size : length l.firsts.items ≡ l.k;
  theirs : AreTheirs l.graphs.items l.k l.known;
  told : AreNumbered l.graphs.items l.known l.firsts.items l.k;
}
