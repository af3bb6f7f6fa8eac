use Rattle.std.proofs.Common.{List, sym, ◌∙◌, subst}
use Rattle.product_laws.specs.declared.RankedPair.{RankedPair}
use Rattle.product_laws.specs.Ascending.{AreAscending}
use Rattle.log_check.specs.Checks.{Tells}
use Rattle.proof_check.specs.Rules.{product_checks}
use Rattle.proof_check.proofs.BlockLemmas.{ranked_ascend}
use Rattle.proof_check.proofs.products.check_product.Goals as goal

pub check_pairs-requires-clause-ascending : goal.check_pairs-requires-clause-ascending
check_pairs-requires-clause-ascending c = subst (λ (l : List RankedPair). AreAscending l) (sym (c.deref.ensures.value ∙ c.in_ok-pairs.ensures)) (ranked_ascend c.args.block.now c.requires.formed)

pub returns : goal.returns
returns c =
    subst (λ (l : List RankedPair). Tells (product_checks c.args.first.now c.args.second.now l c.args.item) c.check_pairs.result) (c.deref.ensures.value ∙ c.in_ok-pairs.ensures) c.check_pairs.ensures
