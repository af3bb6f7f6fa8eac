-- What the evidence of inclusion shows, and so the proof.
use Rattle.std.proofs.Common.{◌≡◌, ℕ, ◌+◌, ◌^◌, ◌<◌, ◌&&◌, arith, true, None, List, [], ◌∷◌, length, Contains, Result, Ok, Err, IfOk, sym, ◌∙◌, subst}
use Rattle.std.specs.List.{list_all}
use Rattle.std.proofs.lemmas.Bool.{and_parts}
use Rattle.std.proofs.lemmas.List.{get_or_default}
use Rattle.auto_core.specs.Automaton.{Automaton, IsAutomaton}
use Rattle.auto_core.specs.Accept.{Includes}
use Rattle.auto_core.specs.declared.parts.Mode.TheVariants.{Buchi}
use Rattle.ba_format.specs.declared.parts.Joined.{Joined}
use Rattle.product_laws.specs.declared.RankedPair.{RankedPair}
use Rattle.product_laws.specs.Ranked.{IsRankedProduct}
use Rattle.product_laws.proofs.RankLemmas.{ranked_product_includes}
use Rattle.product_laws.specs.Ascending.{pair_at}
use Rattle.delayed_laws.specs.declared.parts.DelayedPair.{DelayedPair}
use Rattle.delayed_laws.specs.Across.{IsDelayedSimulation}
use Rattle.delayed_laws.specs.Listed.{delayed_pair, place_pairs}
use Rattle.delayed_laws.proofs.FollowLemmas.{delayed_includes}
use Rattle.delayed_across.proofs.RefusalLemmas.{right_by_numbers}
use Rattle.cert_value.specs.declared.types.YesBody.{YesBody}
use Rattle.cert_value.specs.declared.types.FirstStep.{FirstStep}
use Rattle.cert_value.specs.declared.types.SecondStep.{SecondStep}
use Rattle.cert_value.specs.WellFormed.{is_block, is_short, are_short, is_element, are_steps}
use Rattle.cert_check.specs.Inclusion.{inclusion_checks}
use Rattle.cert_check.proofs.ClosedLemmas.{included}
use Rattle.log_check.specs.declared.faults.Refusal.{Refusal}
use Rattle.log_check.specs.declared.faults.CheckFault.{CheckFault}
use Rattle.log_check.specs.declared.faults.CheckFault.TheVariants.{Refused}
use Rattle.log_check.specs.Checks.{AllHold, rule_at}
use Rattle.proof_front.specs.Stages.{Stage, checked, TellsStage}
use Rattle.proof_front.proofs.StageLemmas.{told_ok}
use Rattle.log_check.proofs.CheckLemmas.{each_of}
use Rattle.proof_text.specs.declared.types.Proof.{Proof}
use Rattle.proof_text.specs.declared.types.ProofBody.{ProofBody}
use Rattle.proof_text.specs.declared.types.ProofBody.TheVariants.{No, Yes}
use Rattle.proof_text.specs.declared.types.Front.{Front}
use Rattle.proof_text.specs.declared.types.Evidence.{Evidence}
use Rattle.proof_text.specs.declared.types.Evidence.TheVariants.{Product, Delayed, Closed}
use Rattle.proof_text.specs.ProofText.{ProofFormed, is_front, is_evidence, has_no_steps, is_closed_list, is_proof_body}
use Rattle.proof_check.specs.Pairs.{ranked_pairs, delayed_pairs}
use Rattle.proof_front.specs.Front.{evidence_item}
use Rattle.proof_check.specs.Rules.{product_pair_checks, product_checks, delayed_pair_checks, delayed_checks, evidence_checks, body_stage, yes_stage, proof_stage, HasProofSizes, BodySaysTruly, ProofSaysTruly}
use Rattle.proof_check.specs.Laws.{KeptYesIncludes, KeptNoSeparates}
use Rattle.proof_front.proofs.TruthLemmas.{kept_front, front_makes}

-- ---- each form

product_kept : (A B : Automaton) (pairs : List RankedPair) (item : ℕ) → AllHold (product_checks A B pairs item) → IsRankedProduct A B pairs
product_kept A B pairs item all = record {
  deterministic = all.0;
  starts = all.1.0;
  states = λ x there. (keeps x there).0;
  moves = λ x there. (keeps x there).1.0;
  ranks = λ x there. (keeps x there).1.1.0;
}
  where
    keeps : (x : RankedPair) → Contains pairs x → AllHold (product_pair_checks A B pairs 0 0 x)
    keeps x (i, within, is) =
        let zeros : RankedPair = record { left = 0; right = 0; rank = 0 } in
        let same : pair_at pairs i ≡ x = get_or_default pairs i zeros x within ∙ is in
        let here = each_of (product_pair_checks A B pairs (item + 1)) i pairs zeros within all.1.1 in
        subst (λ (y : RankedPair). AllHold (product_pair_checks A B pairs 0 0 y)) same (here.0, (here.1.0, (here.1.1.0, tt)))

delayed_kept : (A B : Automaton) (pairs : List DelayedPair) (item : ℕ) → AllHold (delayed_checks A B pairs item) → IsDelayedSimulation A B (place_pairs pairs)
delayed_kept A B pairs item all = record {
  starts = all.1.0;
  right = right_by_numbers A B pairs (λ i lt. (each_of (delayed_pair_checks A B pairs (item + 1)) i pairs (delayed_pair 0 0 None) lt all.1.1).0);
}

-- What the form of a closed list tells.
pub record ClosedParts (k : YesBody) : Type 0 where
  pub few : length k.elements < 10 ^ 9
  pub elements : list_all (is_element Buchi) k.elements ≡ true
  pub steps : are_steps 0 k.elements k.steps ≡ true

pub closed_parts : (k : YesBody) → is_closed_list k ≡ true → ClosedParts k
closed_parts k formed =
    let rest = are_short k.cover && are_steps 0 k.elements k.steps in
    let bare = and_parts (has_no_steps k) (is_block k.order && (is_short (length k.elements) && (list_all (is_element Buchi) k.elements && rest))) formed in
    let a = and_parts (is_block k.order) (is_short (length k.elements) && (list_all (is_element Buchi) k.elements && rest)) bare.1 in
    let b = and_parts (is_short (length k.elements)) (list_all (is_element Buchi) k.elements && rest) a.1 in
    let c = and_parts (list_all (is_element Buchi) k.elements) rest b.1 in
    let d = and_parts (are_short k.cover) (are_steps 0 k.elements k.steps) c.1 in
    record { few = grind (arith, b.0); elements = c.0; steps = d.1 }

closed_includes : (A B : Automaton) (k : YesBody) (item : ℕ) → IsAutomaton B → is_closed_list k ≡ true → AllHold (inclusion_checks Buchi k item A B) → Includes A B Buchi
closed_includes A B k item valid formed all =
    let parts = closed_parts k formed in
    included Buchi item A B k valid parts.elements parts.steps all

pub evidence_includes : (A B : Automaton) (item : ℕ) (e : Evidence) → IsAutomaton B → is_evidence e ≡ true → AllHold (evidence_checks A B item e) → Includes A B Buchi
evidence_includes A B item (Product block) valid formed all = ranked_product_includes A B (ranked_pairs block) valid (product_kept A B (ranked_pairs block) item all)
evidence_includes A B item (Delayed block) valid formed all = delayed_includes A B (place_pairs (delayed_pairs block)) valid (delayed_kept A B (delayed_pairs block) item all)
evidence_includes A B item (Closed k) valid formed all = closed_includes A B k item valid formed all

-- ---- the proof

pub yes_includes : (pair : Joined) (front : Front) (e : Evidence) → IsAutomaton pair.first → IsAutomaton pair.second → pair.first.labels ≡ pair.second.labels → is_front front ≡ true → is_evidence e ≡ true →
    (yes_stage pair front e).Keeps tt → Includes pair.first pair.second Buchi
yes_includes pair front e a b labels front_formed formed (ends, becomes, all) =
    let second = (front_makes pair.first pair.second front ends a b labels front_formed becomes).second in
    kept_front pair.first pair.second front ends a b labels front_formed becomes
    (evidence_includes ends.first ends.second (evidence_item front) e second formed all)

pub body_formed : (proof : Proof) → ProofFormed proof → is_proof_body proof.body ≡ true
body_formed proof formed =
    let a = and_parts (is_short proof.first_states) (is_short proof.second_states && (is_short proof.labels && is_proof_body proof.body)) formed in
    let b = and_parts (is_short proof.second_states) (is_short proof.labels && is_proof_body proof.body) a.1 in
    (and_parts (is_short proof.labels) (is_proof_body proof.body) b.1).1

pub says_truly : (pair : Joined) (body : ProofBody) → IsAutomaton pair.first → IsAutomaton pair.second → pair.first.labels ≡ pair.second.labels → is_proof_body body ≡ true →
    (body_stage pair body).Keeps tt → BodySaysTruly pair body
says_truly pair (No lasso) a b labels formed all = (all.1.1.0, all.1.1.1.0)
says_truly pair (Yes front e) a b labels formed keeps =
    let parts = and_parts (is_front front) (is_evidence e) formed in
    yes_includes pair front e a b labels parts.0 parts.1 keeps

pub kept_yes : KeptYesIncludes
kept_yes pair proof front e is formed body keeps =
    let whole = subst (λ x. is_proof_body x ≡ true) body (body_formed proof formed) in
    let kept : (body_stage pair (Yes front e)).Keeps tt = subst (λ (x : ProofBody). (body_stage pair x).Keeps tt) body (keeps.2) in
    says_truly pair (Yes front e) is.first is.second (is.first_labels ∙ sym is.second_labels) whole kept

pub kept_no : KeptNoSeparates
kept_no pair proof lasso body keeps =
    let kept : (body_stage pair (No lasso)).Keeps tt = subst (λ (x : ProofBody). (body_stage pair x).Keeps tt) body (keeps.2) in
    (kept.1.1.0, kept.1.1.1.0)

-- ---- the test of a proof

-- What a test of a stage that makes nothing tells.
pub told_keeps : (stage : Stage (Unit {0})) (r : Result (Unit {0}) CheckFault) → TellsStage stage r → IfOk r (λ _. stage.Keeps tt)
told_keeps stage (Ok x) h = h
told_keeps stage (Err e) h = tt

pub told_breaks : (stage : Stage (Unit {0})) (r : Result (Unit {0}) CheckFault) (refusal : Refusal) → TellsStage stage r → r ≡ Err (Refused refusal) → stage.Breaks refusal
told_breaks stage r refusal h e = subst (λ (x : Result (Unit {0}) CheckFault). TellsStage stage x) e h

-- Where the sizes are right, the body tells.
pub told_sized : (pair : Joined) (proof : Proof) (r : Result (Unit {0}) CheckFault) → HasProofSizes pair proof → TellsStage (body_stage pair proof.body) r → TellsStage (proof_stage pair proof) r
told_sized pair proof r sizes h = told_ok (checked (rule_at 1 0 (HasProofSizes pair proof) ∷ [])) (λ x. body_stage pair proof.body) tt r (sizes, tt) h

-- And what it claims is true.
pub told_truth : (pair : Joined) (proof : Proof) (r : Result (Unit {0}) CheckFault) → IsAutomaton pair.first → IsAutomaton pair.second → pair.first.labels ≡ pair.second.labels → ProofFormed proof →
    TellsStage (body_stage pair proof.body) r → IfOk r (λ _. ProofSaysTruly pair proof)
told_truth pair proof (Ok x) a b labels formed h = says_truly pair proof.body a b labels (body_formed proof formed) h
told_truth pair proof (Err e) a b labels formed h = tt
