use Rattle.std.proofs.Common.{◌≡◌, false, inl, sym, ◌∙◌, refl, rules, Err}
use Rattle.std.proofs.lemmas.Bool.{false≢true}
use Rattle.log_check.specs.declared.faults.CheckFault.TheVariants.{Refused}
use Rattle.proof_check.specs.Rules.{HasProofSizes, proof_stage}
use Rattle.proof_check.proofs.EvidenceLemmas.{body_formed, told_keeps, told_breaks, told_sized, told_truth}
use Rattle.proof_check.proofs.checking.check.Goals as goal

pub returns-then-not-has_sizes-clause-refused : goal.returns-then-not-has_sizes-clause-refused
returns-then-not-has_sizes-clause-refused c = λ refusal e.
    let told : c.has_sizes.result ≡ false = search rules in
    told_breaks (proof_stage c.args.pair.now c.args.proof.now) (Err (Refused (record { rule = 1; item = 0 }))) refusal (inl (inl ((λ sizes. false≢true (sym told ∙ c.has_sizes.ensures.told.1 sizes)), refl))) e

pub check_body-requires-clause-formed : goal.check_body-requires-clause-formed
check_body-requires-clause-formed c = body_formed c.args.proof.now c.requires.formed

pub returns-clause-valid : goal.returns-clause-valid
returns-clause-valid c =
    let pair = c.args.pair.now in
    let proof = c.args.proof.now in
    let sizes : HasProofSizes pair proof = c.has_sizes.ensures.told.0 (search rules) in
    told_keeps (proof_stage pair proof) c.check_body.result (told_sized pair proof c.check_body.result sizes c.check_body.ensures)

pub returns-clause-truth : goal.returns-clause-truth
returns-clause-truth c =
    let pair = c.args.pair.now in
    let proof = c.args.proof.now in
    let automata = c.has_sizes.ensures.automata (search rules) in
    told_truth pair proof c.check_body.result automata.0 automata.1 (c.requires.first_labels ∙ sym c.requires.second_labels) c.requires.formed c.check_body.ensures

pub returns-clause-refused : goal.returns-clause-refused
returns-clause-refused c = λ refusal e.
    let pair = c.args.pair.now in
    let proof = c.args.proof.now in
    let sizes : HasProofSizes pair proof = c.has_sizes.ensures.told.0 (search rules) in
    told_breaks (proof_stage pair proof) c.check_body.result refusal (told_sized pair proof c.check_body.result sizes c.check_body.ensures) e
