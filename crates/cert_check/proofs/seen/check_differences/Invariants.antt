use Rattle.std.proofs.Common.{ℕ, ◌<◌, take}
use Rattle.log_check.specs.Checks.{AllHold, checks_of_each}
use Rattle.cert_check.specs.Listing.{difference_checks}
use Rattle.cert_check.specs.Seen.{HaveSeen}
use Rattle.cert_check.specs.Supers.{held_block, key_at, Fit}
use Rattle.cert_check.proofs.seen.check_differences.Given as goal

abbrev pub invariant-loop-e : goal.invariant-loop-e
invariant-loop-e l = record {
  told : AllHold (checks_of_each (difference_checks l.mode l.first l.second l.elements l.item) 0 (take l.e l.elements));
  fits : (d : ℕ) → d < l.e → Fit (held_block l.supers d);
  seen : HaveSeen (key_at l.mode l.supers l.firsts.items) l.e l.seen;
}
