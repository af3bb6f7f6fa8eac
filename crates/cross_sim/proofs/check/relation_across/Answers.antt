use Rattle.std.proofs.Common.{◌≡◌, ◌+◌, sym, subst}
use Rattle.std.proofs.lemmas.Result.{IfOk-weaker}
use Rattle.cert_value.specs.declared.types.RelBlock.{RelBlock}
use Rattle.log_check.specs.Blocks.{pairs_of, IsBlockBelow, IsBlockRelation}
use Rattle.cross_sim.specs.Sides.{Raises}
use Rattle.cross_sim.proofs.CheckLemmas.{raises_of}
use Rattle.cross_sim.proofs.RaisedLemmas.{rows_below, block_in_both}
use Rattle.cross_sim.proofs.check.relation_across.Goals as goal

pub raised_block-requires : goal.raised_block-requires
raised_block-requires c = record { below = rows_below c.args.firsts c.args.seconds 0 c.args.rows.now c.requires.formed c.requires.below c.requires.few }

pub relation_of-requires : goal.relation_of-requires
relation_of-requires c =
    subst (λ (b : RelBlock). IsBlockBelow (c.args.firsts + c.args.seconds) b) (sym c.in_ok-block.ensures) (block_in_both c.args.firsts c.args.seconds c.args.rows.now c.requires.below)

pub returns-clause-size : goal.returns-clause-size
returns-clause-size c =
    IfOk-weaker c.relation_of.result (IsBlockRelation (c.args.firsts + c.args.seconds) c.in_ok-block.block) (λ r. r.size ≡ c.args.firsts + c.args.seconds) (λ r is. is.size) c.relation_of.ensures

pub returns-clause-pairs : goal.returns-clause-pairs
returns-clause-pairs c =
    IfOk-weaker c.relation_of.result (IsBlockRelation (c.args.firsts + c.args.seconds) c.in_ok-block.block)
    (λ r. Raises c.args.firsts (pairs_of (record { rows = c.args.rows.now })) r.pairs)
    (λ r is. raises_of c.args.firsts c.args.rows.now c.in_ok-block.block r.pairs c.in_ok-block.ensures is.pairs) c.relation_of.ensures
