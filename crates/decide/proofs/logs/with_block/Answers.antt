use Rattle.std.proofs.Common.{◌++◌, ap, ◌∙◌, sym, subst}
use Rattle.std.proofs.lemmas.List.{append-nil}
use Rattle.decide.specs.Written.{AreBlocksOf}
use Rattle.decide.specs.Logs.{one_given}
use Rattle.decide.proofs.WrittenLemmas.{blocks_more}
use Rattle.decide.proofs.logs.with_block.Goals.{in-Some+in_ok-block_of+in_ok-push, in_default}
use Rattle.decide.proofs.logs.with_block.Goals as goal

pub returns : goal.returns
returns c before are = elim c.match-rel.branch [
  | in-Some+in_ok-block_of+in_ok-push w ↦
      subst (λ l. AreBlocksOf (before ++ l) c.match-rel.blocks) (sym (ap one_given w.in-Some.is))
      (blocks_more c.args.blocks c.match-rel.blocks w.in_ok-block_of.field-0 w.in-Some.rel w.in_ok-block_of.ensures (w.blocks-is ∙ w.in_ok-push.ensures.ok) before are)
  | in_default w ↦
      subst (λ l. AreBlocksOf (before ++ l) c.match-rel.blocks) (sym (ap one_given w.in_default.is))
      (subst (λ l. AreBlocksOf l c.match-rel.blocks) (sym (append-nil before)) (subst (AreBlocksOf before) (sym w.blocks-is) are))
]
