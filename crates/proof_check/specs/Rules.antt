-- What the rules ask of a proof, in the order in which they are tested, and what a proof says.
use Rattle.std.specs.Prelude.{◌≡◌, ℕ, ◌+◌, ◌==◌, List, [], ◌∷◌, length, if◌then◌else◌}
use Rattle.auto_core.specs.Automaton.{Automaton}
use Rattle.auto_core.specs.Accept.{Includes, SeparatesLasso}
use Rattle.auto_core.specs.declared.parts.Mode.TheVariants.{Buchi}
use Rattle.ba_format.specs.declared.parts.Joined.{Joined}
use Rattle.cert_value.specs.declared.types.YesBody.{YesBody}
use Rattle.product_laws.specs.declared.RankedPair.{RankedPair}
use Rattle.product_laws.specs.Ranked.{IsDeterministic, HasInitialPair, IsPairOfStates, CoversMoves, RanksGoOn}
use Rattle.delayed_game.specs.Across.{HoldsPlacePair, AreWithin}
use Rattle.delayed_laws.specs.declared.parts.DelayedPair.{DelayedPair}
use Rattle.delayed_laws.specs.Listed.{place_pairs}
use Rattle.delayed_across.specs.Answered.{KeepsAnswers}
use Rattle.delayed_across.specs.declared.checking.DelayedRefusal.{DelayedRefusal}
use Rattle.delayed_across.specs.declared.checking.DelayedRefusal.TheVariants.{Range, Start, Answer}
use Rattle.log_check.specs.declared.faults.Refusal.{Refusal}
use Rattle.log_check.specs.declared.ends.Ends.{Ends}
use Rattle.log_check.specs.Checks.{RuleCheck, rule_at, checks_of_each}
use Rattle.cert_check.specs.Rules.{lasso_checks}
use Rattle.cert_check.specs.Inclusion.{inclusion_checks}
use Rattle.proof_text.specs.declared.types.Proof.{Proof}
use Rattle.proof_text.specs.declared.types.ProofBody.{ProofBody}
use Rattle.proof_text.specs.declared.types.ProofBody.TheVariants.{No, Yes}
use Rattle.proof_text.specs.declared.types.Front.{Front}
use Rattle.proof_text.specs.declared.types.Evidence.{Evidence}
use Rattle.proof_text.specs.declared.types.Evidence.TheVariants.{Product, Delayed, Closed}
use Rattle.proof_front.specs.Stages.{Stage, checked, and_then}
use Rattle.proof_check.specs.Pairs.{ranked_pairs, delayed_pairs}
use Rattle.proof_front.specs.Front.{evidence_item, both_become}

-- ---- the evidence of inclusion, on what the automata have become

-- A pair of a product is of states, its moves lead to pairs that are there, and the ranks go on.
abbrev pub product_pair_checks : Automaton → Automaton → List RankedPair → ℕ → ℕ → RankedPair
    → List RuleCheck
product_pair_checks A B pairs item n x =
    rule_at 1 (item + n) (IsPairOfStates A B x)
    ∷ rule_at 25 (item + n) (CoversMoves A B pairs x)
    ∷ rule_at 26 (item + n) (RanksGoOn A B pairs x)
    ∷ []

-- A product: B is deterministic, the pair of the initial states is there, and then each pair.
abbrev pub product_checks : Automaton → Automaton → List RankedPair → ℕ → List RuleCheck
product_checks A B pairs item =
    rule_at 23 item (IsDeterministic B)
    ∷ rule_at 24 item (HasInitialPair A B pairs)
    ∷ checks_of_each (product_pair_checks A B pairs (item + 1)) 0 pairs

-- The number in proofs of a rule of products.
abbrev pub rule_in_proofs : ℕ → ℕ
rule_in_proofs rule =
    if rule == 1 then 23
    else (if rule == 2 then 24 else (if rule == 3 then 1 else (if rule == 4 then 25 else 26)))

-- A pair of a delayed simulation keeps the rule of answers.
abbrev pub delayed_pair_checks : Automaton → Automaton → List DelayedPair → ℕ → ℕ → DelayedPair
    → List RuleCheck
delayed_pair_checks A B pairs item n x =
    rule_at 27 (item + n) (KeepsAnswers A B (place_pairs pairs) x) ∷ []

-- A delayed simulation: all pairs are of states, the pair of the initial states is there, and then
-- each pair.
abbrev pub delayed_checks : Automaton → Automaton → List DelayedPair → ℕ → List RuleCheck
delayed_checks A B pairs item =
    rule_at 1 item (AreWithin A.states B.states (place_pairs pairs))
    ∷ rule_at 24 item (HoldsPlacePair (place_pairs pairs) A.initial B.initial)
    ∷ checks_of_each (delayed_pair_checks A B pairs (item + 1)) 0 pairs

-- The refusal in proofs of a delayed simulation; the first item of its evidence has this number.
abbrev pub refusal_in_proofs : ℕ → DelayedRefusal → Refusal
refusal_in_proofs item (Range number) = record { rule = 1; item = item }
refusal_in_proofs item Start = record { rule = 24; item = item }
refusal_in_proofs item (Answer number) = record { rule = 27; item = item + 1 + number }

-- The evidence; its first item has this number.
abbrev pub evidence_checks : Automaton → Automaton → ℕ → Evidence → List RuleCheck
evidence_checks A B item (Product block) = product_checks A B (ranked_pairs block) item
evidence_checks A B item (Delayed block) = delayed_checks A B (delayed_pairs block) item
evidence_checks A B item (Closed list) = inclusion_checks Buchi list item A B

-- ---- the whole proof

-- Where both become others, the evidence is about these.
abbrev pub yes_stage : Joined → Front → Evidence → Stage (Unit {0})
yes_stage pair front evidence =
    and_then (both_become pair.first pair.second front) (λ (ends : Ends).
    checked (evidence_checks ends.first ends.second (evidence_item front) evidence))

-- A lasso separates, or the second automaton becomes one of which the evidence shows inclusion.
abbrev pub body_stage : Joined → ProofBody → Stage (Unit {0})
body_stage pair (No lasso) = checked (lasso_checks pair lasso)
body_stage pair (Yes front evidence) = yes_stage pair front evidence

-- The sizes are those of the two read automata and of their joined labels.
abbrev pub HasProofSizes : Joined → Proof → Type 0
HasProofSizes pair proof =
    (proof.first_states ≡ pair.first.states) × (proof.second_states ≡ pair.second.states)
    × (proof.labels ≡ length pair.labels)

-- The sizes come first.
abbrev pub proof_stage : Joined → Proof → Stage (Unit {0})
proof_stage pair proof =
    and_then (checked (rule_at 1 0 (HasProofSizes pair proof) ∷ []))
    (λ x. body_stage pair proof.body)

-- A proof keeps all its rules for these automata.
abbrev pub KeepsProofRules : Joined → Proof → Type 0
KeepsProofRules pair proof = (proof_stage pair proof).Keeps tt

-- The refusal is the first rule that it breaks.
abbrev pub BreaksProofRule : Joined → Proof → Refusal → Type 0
BreaksProofRule pair proof refusal = (proof_stage pair proof).Breaks refusal

-- What a proof says of the two automata: its lasso separates them, or the second one accepts each
-- lasso that the first accepts.
abbrev pub BodySaysTruly : Joined → ProofBody → Type 0
BodySaysTruly pair (No lasso) = SeparatesLasso pair.first pair.second lasso.prefix lasso.turn
BodySaysTruly pair (Yes front evidence) = Includes pair.first pair.second Buchi

abbrev pub ProofSaysTruly : Joined → Proof → Type 0
ProofSaysTruly pair proof = BodySaysTruly pair proof.body
