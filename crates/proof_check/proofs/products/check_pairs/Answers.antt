use Rattle.std.proofs.Common.{◌+◌, sym, subst, rules}
use Rattle.product_laws.specs.Ranked.{IsRankedProduct}
use Rattle.ranked_product.specs.Rules.{FirstBroken as ProductBreaks}
use Rattle.log_check.specs.Checks.{FirstBroken}
use Rattle.proof_check.specs.Rules.{product_checks}
use Rattle.proof_check.proofs.ListLemmas.{product_keeps, product_breaks}
use Rattle.proof_check.proofs.products.check_pairs.Goals as goal

pub returns-in-Ok : goal.returns-in-Ok
returns-in-Ok c =
    let A = c.args.first.now in
    let B = c.args.second.now in
    let is : IsRankedProduct A B c.args.pairs.now = search rules in
    product_keeps A B c.args.pairs.now c.args.item is

pub returns-in-Err : goal.returns-in-Err
returns-in-Err c =
    let A = c.args.first.now in
    let B = c.args.second.now in
    let pairs = c.args.pairs.now in
    let r = c.in-Err.refusal in
    let broken : ProductBreaks A B pairs r = search rules in
    subst (λ rule. FirstBroken (product_checks A B pairs c.args.item) (record { rule = rule; item = c.args.item + r.item })) (sym c.rule_of.ensures) (product_breaks A B pairs c.args.item r broken)
