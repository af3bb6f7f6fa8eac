use Rattle.std.proofs.Common.{List, [], ◌++◌, sym, subst}
use Rattle.std.proofs.lemmas.Result.{IfOk-weaker}
use Rattle.bit_rel.specs.Relation.{Relation}
use Rattle.cert_value.specs.declared.types.RelBlock.{RelBlock}
use Rattle.decide.specs.Written.{AreBlocksOf, given}
use Rattle.decide.specs.Logs.{one_given}
use Rattle.decide.proofs.WrittenLemmas.{given_are}
use Rattle.decide.proofs.logs.blocks_of.Goals as goal

pub returns : goal.returns
returns c =
    let none : AreBlocksOf [] c.new.result = subst (λ (l : List RelBlock). AreBlocksOf [] l) (sym c.new.ensures) tt in
    let first = c.in_ok-blocks.ensures [] none in
    IfOk-weaker c.with_block-2.result
    (λ made. (before : List Relation) → AreBlocksOf before c.in_ok-blocks.blocks → AreBlocksOf (before ++ one_given c.args.ahead.now) made)
    (AreBlocksOf (given c.args.back.now c.args.ahead.now))
    (λ made more. subst (λ l. AreBlocksOf l made) (given_are c.args.back.now c.args.ahead.now) (more ([] ++ one_given c.args.back.now) first)) c.with_block-2.ensures
