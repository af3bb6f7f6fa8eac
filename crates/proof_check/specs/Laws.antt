-- What proofs show that keep their rules.
use Rattle.std.specs.Prelude.{◌≡◌, ℕ, List, length}
use Rattle.auto_core.specs.Automaton.{Automaton, IsAutomaton}
use Rattle.auto_core.specs.Accept.{Includes, SeparatesLasso}
use Rattle.auto_core.specs.declared.parts.Lasso.{Lasso}
use Rattle.auto_core.specs.declared.parts.Mode.TheVariants.{Buchi}
use Rattle.ba_format.specs.declared.parts.Joined.{Joined}
use Rattle.product_laws.specs.declared.RankedPair.{RankedPair}
use Rattle.product_laws.specs.Ranked.{IsRankedProduct}
use Rattle.delayed_game.specs.Across.{AreWithin}
use Rattle.delayed_laws.specs.declared.parts.DelayedPair.{DelayedPair}
use Rattle.delayed_laws.specs.Across.{IsDelayedSimulation}
use Rattle.delayed_laws.specs.Listed.{place_pairs, AreDelayedAscending}
use Rattle.log_check.specs.declared.faults.Refusal.{Refusal}
use Rattle.log_check.specs.Checks.{AllHold}
use Rattle.proof_text.specs.declared.types.Proof.{Proof}
use Rattle.proof_text.specs.declared.types.Front.{Front}
use Rattle.proof_text.specs.declared.types.Evidence.{Evidence}
use Rattle.proof_text.specs.declared.types.ProofBody.TheVariants.{No, Yes}
use Rattle.proof_text.specs.ProofText.{ProofFormed}
use Rattle.proof_check.specs.Rules.{product_checks, delayed_checks, KeepsProofRules, BreaksProofRule}

-- A valid pair: both are automata over the joined labels.
pub record IsPair (pair : Joined) : Type 0 where
  pub first : IsAutomaton pair.first
  pub second : IsAutomaton pair.second
  pub first_labels : pair.first.labels ≡ length pair.labels
  pub second_labels : pair.second.labels ≡ length pair.labels

-- If a proof of inclusion keeps its rules, the second automaton accepts each lasso that the first
-- accepts.
abbrev pub KeptYesIncludes : Type 0
KeptYesIncludes =
    (pair : Joined) (proof : Proof) (front : Front) (evidence : Evidence) → IsPair pair
    → ProofFormed proof → proof.body ≡ Yes front evidence → KeepsProofRules pair proof
    → Includes pair.first pair.second Buchi

-- If a proof by a lasso keeps its rules, the first automaton accepts the lasso and the second does
-- not.
abbrev pub KeptNoSeparates : Type 0
KeptNoSeparates =
    (pair : Joined) (proof : Proof) (lasso : Lasso) → proof.body ≡ No lasso
    → KeepsProofRules pair proof
    → SeparatesLasso pair.first pair.second lasso.prefix lasso.turn

-- A proof breaks one rule first, at most.
abbrev pub OneProofRuleBreaks : Type 0
OneProofRuleBreaks =
    (pair : Joined) (proof : Proof) (refusal other : Refusal) → BreaksProofRule pair proof refusal
    → BreaksProofRule pair proof other → refusal ≡ other

-- A proof that keeps its rules breaks none.
abbrev pub NoneBreaksInKeptProof : Type 0
NoneBreaksInKeptProof =
    (pair : Joined) (proof : Proof) (refusal : Refusal) → BreaksProofRule pair proof refusal
    → KeepsProofRules pair proof → ⊥

-- A ranked product keeps the rules of products.
abbrev pub RankedProductsKeepTheRules : Type 0
RankedProductsKeepTheRules =
    (A B : Automaton) (pairs : List RankedPair) (item : ℕ) → IsRankedProduct A B pairs
    → AllHold (product_checks A B pairs item)

-- A delayed simulation whose pairs are of states and ascend keeps the rules of delayed simulations.
abbrev pub DelayedSimulationsKeepTheRules : Type 0
DelayedSimulationsKeepTheRules =
    (A B : Automaton) (pairs : List DelayedPair) (item : ℕ)
    → AreDelayedAscending pairs
    → AreWithin A.states B.states (place_pairs pairs)
    → IsDelayedSimulation A B (place_pairs pairs)
    → AllHold (delayed_checks A B pairs item)
