use Rattle.std.proofs.Common.{ℕ, ◌+◌, List, sym, subst, arith}
use Rattle.bit_rows.proofs.SquareLemmas.{IsPartly, partly_none, partly_passed, partly_more, partly_all}
use Rattle.bit_rows.proofs.blocks.exchange_all.Goals.{then-k-h-eq0, else-k-h-eq0}
use Rattle.bit_rows.proofs.blocks.exchange_all.Goals as goal

pub loop-k-init : goal.loop-k-init
loop-k-init c = partly_none c.args.block.now c.args.h

pub loop-k-preserved : goal.loop-k-preserved
loop-k-preserved c =
    let old = c.args.block.now in
    let now = c.loop-k.block in
    let h : ℕ = c.args.h in
    let k : ℕ = c.loop-k.k in
    let P : List ℕ → Type 0 = λ block. IsPartly old block h (k + 1) in
    elim c.if-k-h-eq0.branch [
      | then-k-h-eq0 w ↦
          subst P (sym w.block-is)
          (partly_more old now w.exchange.new.block h k c.requires.size c.loop-k-test.true w.if-k-h-eq0.true c.loop-k.invariant w.exchange.ensures.first w.exchange.ensures.second w.exchange.ensures.others)
      | else-k-h-eq0 w ↦ subst P (sym w.block-is) (partly_passed old now h k w.if-k-h-eq0.false c.loop-k.invariant)
    ]

pub returns : goal.returns
returns c = partly_all c.args.block.now c.loop-k.block c.args.h c.loop-k.k c.requires.size (omega (arith, c.loop-k-test.false)) c.loop-k.invariant
