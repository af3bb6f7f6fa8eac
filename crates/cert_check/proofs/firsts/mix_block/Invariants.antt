use Rattle.std.proofs.Common.{◌≡◌, ◌-◌, ◌≤◌, length, drop}
use Rattle.cert_check.specs.Firsts.{mixed_fours}
use Rattle.cert_check.proofs.firsts.mix_block.Given as goal

abbrev pub invariant-loop-at : goal.invariant-loop-at
invariant-loop-at l = record {
  within : l.at ≤ length l.block;
  is : mixed_fours l.now (drop l.at l.block) ≡ mixed_fours 0 l.block;
}

abbrev pub decreases-loop-at : goal.decreases-loop-at
decreases-loop-at l = length l.block - l.at
