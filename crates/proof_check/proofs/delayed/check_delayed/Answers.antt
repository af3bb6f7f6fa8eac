use Rattle.std.proofs.Common.{List, sym, ◌∙◌, subst}
use Rattle.delayed_laws.specs.declared.parts.DelayedPair.{DelayedPair}
use Rattle.delayed_laws.specs.Listed.{AreDelayedAscending}
use Rattle.log_check.specs.Checks.{Tells}
use Rattle.proof_check.specs.Rules.{delayed_checks}
use Rattle.proof_check.proofs.BlockLemmas.{delayed_ascend}
use Rattle.proof_check.proofs.delayed.check_delayed.Goals as goal

pub check_pairs-requires-clause-ascending : goal.check_pairs-requires-clause-ascending
check_pairs-requires-clause-ascending c = subst (λ (l : List DelayedPair). AreDelayedAscending l) (sym (c.deref.ensures.value ∙ c.in_ok-pairs.ensures)) (delayed_ascend c.args.block.now c.requires.formed)

pub returns : goal.returns
returns c =
    subst (λ (l : List DelayedPair). Tells (delayed_checks c.args.first.now c.args.second.now l c.args.item) c.check_pairs.result) (c.deref.ensures.value ∙ c.in_ok-pairs.ensures) c.check_pairs.ensures
