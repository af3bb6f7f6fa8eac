use Rattle.bit_rows.proofs.SquareLemmas.{IsPartly}
use Rattle.bit_rows.proofs.blocks.exchange_all.Given as goal

abbrev pub invariant-loop-k : goal.invariant-loop-k
invariant-loop-k l = IsPartly l.fn.block l.block l.h l.k
