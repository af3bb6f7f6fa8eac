-- A proof keeps its rules, or breaks one first.
use Rattle.std.proofs.Common.{[], ◌∷◌}
use Rattle.ba_format.specs.declared.parts.Joined.{Joined}
use Rattle.log_check.specs.declared.ends.Ends.{Ends}
use Rattle.log_check.specs.Checks.{rule_at}
use Rattle.cert_check.specs.Rules.{lasso_checks}
use Rattle.proof_text.specs.declared.types.Proof.{Proof}
use Rattle.proof_text.specs.declared.types.ProofBody.{ProofBody}
use Rattle.proof_text.specs.declared.types.ProofBody.TheVariants.{No, Yes}
use Rattle.proof_front.specs.Stages.{checked, HasOneOutcome}
use Rattle.proof_front.specs.Front.{evidence_item, both_become}
use Rattle.proof_front.proofs.OneLemmas.{checked_one, and_then_one, front_one}
use Rattle.proof_check.specs.Rules.{evidence_checks, body_stage, proof_stage, HasProofSizes}
use Rattle.proof_check.specs.Laws.{OneProofRuleBreaks, NoneBreaksInKeptProof}

body_one : (pair : Joined) (body : ProofBody) → HasOneOutcome (body_stage pair body)
body_one pair (No lasso) = checked_one (lasso_checks pair lasso)
body_one pair (Yes front e) =
    and_then_one (both_become pair.first pair.second front) (λ (ends : Ends). checked (evidence_checks ends.first ends.second (evidence_item front) e))
    (front_one pair.first pair.second front) (λ (ends : Ends). checked_one (evidence_checks ends.first ends.second (evidence_item front) e))

proof_one : (pair : Joined) (proof : Proof) → HasOneOutcome (proof_stage pair proof)
proof_one pair proof =
    and_then_one (checked (rule_at 1 0 (HasProofSizes pair proof) ∷ [])) (λ x. body_stage pair proof.body)
    (checked_one (rule_at 1 0 (HasProofSizes pair proof) ∷ [])) (λ x. body_one pair proof.body)

pub one_breaks : OneProofRuleBreaks
one_breaks pair proof refusal other h k = (proof_one pair proof).broken refusal other h k

pub none_breaks : NoneBreaksInKeptProof
none_breaks pair proof refusal h k = (proof_one pair proof).either refusal tt h k
