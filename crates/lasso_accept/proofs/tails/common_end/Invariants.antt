use Rattle.std.proofs.Common.{◌≡◌, ◌-◌, length, drop}
use Rattle.lasso_accept.proofs.tails.common_end.Given as goal

abbrev pub invariant-loop-count : goal.invariant-loop-count
invariant-loop-count l = drop (length l.word - l.count) l.word ≡ drop (length l.other - l.count) l.other
