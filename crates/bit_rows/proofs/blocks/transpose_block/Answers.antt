use Rattle.bit_rows.proofs.MaskLemmas.{mask_32, mask_16, mask_8, mask_4, mask_2, mask_1}
use Rattle.std.proofs.Common.{inl, inr, refl}
use Rattle.bit_rows.proofs.SquareLemmas.{IsStage, stage_none, stage_more, stage_all}
use Rattle.bit_rows.proofs.blocks.transpose_block.Goals as goal

pub exchange_all-requires-clause-mask : goal.exchange_all-requires-clause-mask
exchange_all-requires-clause-mask c = mask_32

pub exchange_all-requires-2-clause-mask : goal.exchange_all-requires-2-clause-mask
exchange_all-requires-2-clause-mask c = mask_16

pub exchange_all-requires-3-clause-mask : goal.exchange_all-requires-3-clause-mask
exchange_all-requires-3-clause-mask c = mask_8

pub exchange_all-requires-4-clause-mask : goal.exchange_all-requires-4-clause-mask
exchange_all-requires-4-clause-mask c = mask_4

pub exchange_all-requires-5-clause-mask : goal.exchange_all-requires-5-clause-mask
exchange_all-requires-5-clause-mask c = mask_2

pub exchange_all-requires-6-clause-mask : goal.exchange_all-requires-6-clause-mask
exchange_all-requires-6-clause-mask c = mask_1

pub returns : goal.returns
returns c =
    let old = c.args.block.now in
    let by_32 : IsStage old c.exchange_all.new.block 32 = stage_more old old c.exchange_all.new.block 32 (inl refl) (stage_none old) c.exchange_all.ensures in
    let by_16 : IsStage old c.exchange_all-2.new.block 16 = stage_more old c.exchange_all.new.block c.exchange_all-2.new.block 16 (inr (inl refl)) by_32 c.exchange_all-2.ensures in
    let by_8 : IsStage old c.exchange_all-3.new.block 8 = stage_more old c.exchange_all-2.new.block c.exchange_all-3.new.block 8 (inr (inr (inl refl))) by_16 c.exchange_all-3.ensures in
    let by_4 : IsStage old c.exchange_all-4.new.block 4 = stage_more old c.exchange_all-3.new.block c.exchange_all-4.new.block 4 (inr (inr (inr (inl refl)))) by_8 c.exchange_all-4.ensures in
    let by_2 : IsStage old c.exchange_all-5.new.block 2 = stage_more old c.exchange_all-4.new.block c.exchange_all-5.new.block 2 (inr (inr (inr (inr (inl refl))))) by_4 c.exchange_all-5.ensures in
    stage_all old c.exchange_all-6.new.block (stage_more old c.exchange_all-5.new.block c.exchange_all-6.new.block 1 (inr (inr (inr (inr (inr refl))))) by_2 c.exchange_all-6.ensures)
