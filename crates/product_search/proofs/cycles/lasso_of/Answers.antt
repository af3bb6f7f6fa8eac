use Rattle.std.proofs.Common.{subst}
use Rattle.product_laws.proofs.GoesLemmas.{cycle_separates}
use Rattle.product_search.specs.Found.{pair_at}
use Rattle.product_search.specs.Words.{IsWordTo}
use Rattle.product_search.proofs.WordLemmas.{word_leads}
use Rattle.product_search.proofs.cycles.lasso_of.Goals as goal

pub returns : goal.returns
returns c =
    let A = c.args.first.now in
    let B = c.args.second.now in
    let pairs = c.args.found.now.pairs.keys in
    let bad = c.args.bad in
    let word = c.in_ok-word_to.field-0 in
    let spelled = subst (λ l. IsWordTo l bad.to word) c.deref.ensures.value c.in_ok-word_to.ensures in
    cycle_separates A B word c.in_ok-cycle_of.field-0 (pair_at pairs bad.to).0 (pair_at pairs bad.to).1 c.requires.valid c.requires.deterministic
    (word_leads A B pairs c.args.found.now.steps.items c.requires.found c.requires.initial bad.to c.requires.to word spelled) c.in_ok-cycle_of.ensures
