-- Stages have one outcome: those of a front make one thing at most, or break one rule first.
use Rattle.std.proofs.Common.{◌≡◌, ℕ, suc, ◌<◌, inl, inr, List, [], ◌∷◌, Contains, refl, sym, ◌∙◌, subst, arith}
use Rattle.std.proofs.lemmas.Bool.{cases_lt}
use Rattle.auto_core.specs.Automaton.{Automaton}
use Rattle.auto_core.specs.Useful.{IsTrimmed}
use Rattle.auto_core.specs.declared.parts.Mode.TheVariants.{Buchi}
use Rattle.auto_core.proofs.SetLemmas.{same_automaton}
use Rattle.quotient.proofs.MergeLaws.{quotient_one}
use Rattle.useful_states.proofs.KeepLaws.{kept_one, trimmed_one}
use Rattle.prune_pairs.proofs.OneLaws.{cut_one}
use Rattle.map_laws.specs.Maps.{IsRenamed}
use Rattle.cert_value.specs.declared.types.FirstStep.{FirstStep}
use Rattle.cert_value.specs.declared.types.FirstStep.TheVariants as first
use Rattle.cert_value.specs.declared.types.SecondStep.{SecondStep}
use Rattle.cert_value.specs.declared.types.SecondStep.TheVariants as second
use Rattle.cert_value.specs.WellFormed.{gone_of}
use Rattle.log_check.specs.declared.faults.Refusal.{Refusal}
use Rattle.log_check.specs.declared.ends.Ends.{Ends}
use Rattle.log_check.specs.Checks.{RuleCheck, FirstBroken, rule_at}
use Rattle.log_check.specs.Follows.{LogRules, StepFollows, Follows, Breaks}
use Rattle.log_check.specs.FirstLog.{FirstStepLeads, first_rules}
use Rattle.log_check.specs.SecondLog.{SecondStepLeads, second_rules}
use Rattle.log_check.specs.Parts.{AreStates, AreClassesFor}
use Rattle.log_check.proofs.LawOneLemmas.{broken_one, broken_or_all}
use Rattle.proof_text.specs.declared.types.Front.{Front}
use Rattle.auto_core.specs.Quotient.{IsQuotient}
use Rattle.proof_front.specs.Stages.{Stage, checked, making, and_then, HasOneOutcome}
use Rattle.proof_front.specs.Front.{letters_item, map_item, accepting_item, first_item, second_log, first_log, letter_checks, AreOverLetters, over_letters, mapped, HasAccepting, AcceptsJustIn, AcceptsTrimmed, accepting_classes, first_becomes, with_second}
use Rattle.proof_front.specs.Laws.{FrontHasOneOutcome}

-- ---- checks, and stages one after another

pub checked_one : (checks : List RuleCheck) → HasOneOutcome (checked checks)
checked_one checks = record {
  made = λ x y h k. refl;
  broken = λ r s h k. broken_one checks r s h k;
  either = λ r x h k. broken_or_all checks r h k;
}

making_one : {X : Type 0} (checks : List RuleCheck) (IsMade : X → Type 0) → ((x y : X) → IsMade x → IsMade y → x ≡ y) → HasOneOutcome (making checks IsMade)
making_one checks IsMade one = record {
  made = λ x y h k. one x y h.1 k.1;
  broken = λ r s h k. broken_one checks r s h k;
  either = λ r x h k. broken_or_all checks r h k.0;
}

pub and_then_one : {X Y : Type 0} (stage : Stage X) (next : X → Stage Y) → HasOneOutcome stage → ((x : X) → HasOneOutcome (next x)) → HasOneOutcome (and_then stage next)
and_then_one {X} {Y} stage next one each = record { made = made; broken = broken; either = either }
  where
    made : (y z : Y) → (and_then stage next).Keeps y → (and_then stage next).Keeps z → y ≡ z
    made y z (x, keeps, h) (w, others, k) = (each x).made y z h (subst (λ v. (next v).Keeps z) (one.made w x others keeps) k)

    broken : (r s : Refusal) → (and_then stage next).Breaks r → (and_then stage next).Breaks s → r ≡ s
    broken r s (inl h) (inl k) = one.broken r s h k
    broken r s (inl h) (inr (x, keeps, k)) = absurd (one.either r x h keeps)
    broken r s (inr (x, keeps, h)) (inl k) = absurd (one.either s x k keeps)
    broken r s (inr (x, keeps, h)) (inr (w, others, k)) = (each x).broken r s h (subst (λ v. (next v).Breaks s) (one.made w x others keeps) k)

    either : (r : Refusal) (y : Y) → (and_then stage next).Breaks r → (and_then stage next).Keeps y → ⊥
    either r y (inl h) (x, keeps, k) = one.either r x h keeps
    either r y (inr (w, others, h)) (x, keeps, k) = (each w).either r y h (subst (λ v. (next v).Keeps y) (one.made x w keeps others) k)

-- ---- logs

module _ (S : Type 0) (rules : LogRules S) (one : (A B C : Automaton) (step : S) → rules.Leads A step B → rules.Leads A step C → B ≡ C) where
  abbrev step_stage : Automaton → ℕ → S → Stage Automaton
  step_stage A item step = record { Keeps = λ B. StepFollows S rules A item step B; Breaks = λ r. FirstBroken (rules.checks A item step) r }

  abbrev log_stage : Automaton → ℕ → List S → Stage Automaton
  log_stage A item steps = record { Keeps = λ B. Follows S rules A item steps B; Breaks = λ r. Breaks S rules A item steps r }

  step_one : (A : Automaton) (item : ℕ) (step : S) → HasOneOutcome (step_stage A item step)
  step_one A item step = record {
    made = λ B C h k. one A B C step h.leads k.leads;
    broken = λ r s h k. broken_one (rules.checks A item step) r s h k;
    either = λ r B h k. broken_or_all (rules.checks A item step) r h k.holds;
  }

  log_one : (A : Automaton) (item : ℕ) (steps : List S) → HasOneOutcome (log_stage A item steps)
  log_one A item [] = record { made = λ B C h k. h ∙ sym k; broken = λ r s h k. absurd h; either = λ r B h k. h }
  log_one A item (step ∷ steps) = and_then_one (step_stage A item step) (λ C. log_stage C (suc item) steps) (step_one A item step) (λ C. log_one C (suc item) steps)

first_leads_one : (A B C : Automaton) (step : FirstStep) → FirstStepLeads A step B → FirstStepLeads A step C → B ≡ C
first_leads_one A B C (first.Trim kept) h k = kept_one A B C kept h k
first_leads_one A B C (first.Merge classes) h k = quotient_one A B C classes h k
first_leads_one A B C (first.Cut pair look gone blocks) h k = cut_one A B C (gone_of gone) h k

second_leads_one : (A B C : Automaton) (step : SecondStep) → SecondStepLeads A step B → SecondStepLeads A step C → B ≡ C
second_leads_one A B C (second.Trim kept) h k = kept_one A B C kept h k
second_leads_one A B C (second.Merge by classes) h k = quotient_one A B C classes h k
second_leads_one A B C (second.Cut gone) h k = cut_one A B C gone h k

first_log_one : (A : Automaton) (item : ℕ) (steps : List FirstStep) → HasOneOutcome (first_log A item steps)
first_log_one A item steps = log_one FirstStep (first_rules Buchi) first_leads_one A item steps

second_log_one : (A : Automaton) (item : ℕ) (steps : List SecondStep) → HasOneOutcome (second_log A item steps)
second_log_one A item steps = log_one SecondStep second_rules second_leads_one A item steps

-- ---- what is made

same_ends : (ends other : Ends) → ends.first ≡ other.first → ends.second ≡ other.second → ends ≡ other
same_ends ends other a b = λ k. record { first = a k; second = b k }

-- Two numbers with the same numbers below them.
same_below : (m n : ℕ) → ((c : ℕ) → c < m → c < n) → ((c : ℕ) → c < n → c < m) → m ≡ n
same_below m n to from = elim (cases_lt m n) [
  | inl lt ↦ absurd (omega (arith, from m lt))
  | inr le ↦ elim (cases_lt n m) [ inl lt ↦ absurd (omega (arith, to n lt)) | inr ge ↦ omega arith ]
]

-- Classes of letters make as many labels, where there are as many letters.
pub same_labels : (A B C D : Automaton) (letters : List ℕ) → A.labels ≡ B.labels → IsRenamed A letters C → IsRenamed B letters D → C.labels ≡ D.labels
same_labels A B C D letters labels k l =
    same_below C.labels D.labels
    (λ c h. let (a, lt, is) = (k.labels c).0 h in (l.labels c).1 (a, subst (λ n. a < n) labels lt, is))
    (λ c h. let (a, lt, is) = (l.labels c).0 h in (k.labels c).1 (a, subst (λ n. a < n) (sym labels) lt, is))

renamed_one : (A B C : Automaton) (letters : List ℕ) → IsRenamed A letters B → IsRenamed A letters C → B ≡ C
renamed_one A B C letters k l =
    same_automaton B C k.valid l.valid (k.states ∙ sym l.states) (same_labels A A B C letters refl k l) (k.initial ∙ sym l.initial)
    (λ p a q. (λ h. (l.moves p a q).1 ((k.moves p a q).0 h), λ h. (k.moves p a q).1 ((l.moves p a q).0 h)))
    (λ q. (
      λ h. subst (λ qs. Contains qs q) (k.accepting ∙ sym l.accepting) h,
      λ h. subst (λ qs. Contains qs q) (l.accepting ∙ sym k.accepting) h,
    ))

over_one : (A B : Automaton) (letters : List ℕ) (ends other : Ends) → AreOverLetters A B letters ends → AreOverLetters A B letters other → ends ≡ other
over_one A B letters ends other h k =
    let same : k.renamed ≡ h.renamed = renamed_one A k.renamed h.renamed letters k.first h.first in
    same_ends ends other
    (trimmed_one h.renamed ends.first other.first Buchi h.trimmed (subst (λ W. IsTrimmed W Buchi other.first) same k.trimmed))
    (renamed_one B ends.second other.second letters h.second k.second)

just_one : (A B C : Automaton) (states : List ℕ) → AcceptsJustIn A states B → AcceptsJustIn A states C → B ≡ C
just_one A B C states k l =
    same_automaton B C k.valid l.valid (k.states_same ∙ sym l.states_same) (k.labels ∙ sym l.labels) (k.initial ∙ sym l.initial)
    (λ p a q. (λ h. (l.moves p a q).1 ((k.moves p a q).0 h), λ h. (k.moves p a q).1 ((l.moves p a q).0 h)))
    (λ q. (λ h. (l.accepting q).1 ((k.accepting q).0 h), λ h. (k.accepting q).1 ((l.accepting q).0 h)))

accepts_one : (A : Automaton) (states : List ℕ) (B C : Automaton) → AcceptsTrimmed A states B → AcceptsTrimmed A states C → B ≡ C
accepts_one A states B C h k =
    let same : k.whole ≡ h.whole = just_one A k.whole h.whole states k.accepts h.accepts in
    trimmed_one h.whole B C Buchi h.trimmed (subst (λ W. IsTrimmed W Buchi C) same k.trimmed)

-- ---- fronts

mapped_one : (A : Automaton) (map : List ℕ) (item : ℕ) → HasOneOutcome (mapped A map item)
mapped_one A map item = making_one (rule_at 3 item (AreClassesFor A map) ∷ []) (IsQuotient A map) (λ B C h k. quotient_one A B C map h k)

accepting_one : (A : Automaton) (states : List ℕ) (item : ℕ) → HasOneOutcome (accepting_classes A states item)
accepting_one A states item =
    making_one (rule_at 1 item (AreStates A states) ∷ rule_at 22 item (HasAccepting A states) ∷ []) (AcceptsTrimmed A states) (λ B C h k. accepts_one A states B C h k)

becomes_one : (A : Automaton) (front : Front) → HasOneOutcome (first_becomes A front)
becomes_one A front =
    and_then_one (mapped A front.map (map_item front))
    (λ Q. and_then (accepting_classes Q front.accepting (accepting_item front)) (λ C. first_log C (first_item front) front.first))
    (mapped_one A front.map (map_item front))
    (λ Q.
    and_then_one (accepting_classes Q front.accepting (accepting_item front)) (λ C. first_log C (first_item front) front.first)
    (accepting_one Q front.accepting (accepting_item front)) (λ C. first_log_one C (first_item front) front.first))

with_second_one : (stage : Stage Automaton) (B : Automaton) → HasOneOutcome stage → HasOneOutcome (with_second stage B)
with_second_one stage B one = record {
  made = λ x y h k. same_ends x y (one.made x.first y.first h.0 k.0) (h.1 ∙ sym k.1);
  broken = λ r s h k. one.broken r s h k;
  either = λ r x h k. one.either r x.first h k.0;
}

over_letters_one : (A B : Automaton) (letters : List ℕ) (item : ℕ) → HasOneOutcome (over_letters A B letters item)
over_letters_one A B letters item = making_one (letter_checks B letters item) (AreOverLetters A B letters) (λ x y h k. over_one A B letters x y h k)

pub front_one : FrontHasOneOutcome
front_one A B front =
    and_then_one (second_log B 1 front.second)
    (λ C. and_then (over_letters A C front.letters (letters_item front)) (λ over. with_second (first_becomes over.first front) over.second))
    (second_log_one B 1 front.second)
    (λ C.
    and_then_one (over_letters A C front.letters (letters_item front)) (λ over. with_second (first_becomes over.first front) over.second)
    (over_letters_one A C front.letters (letters_item front))
    (λ over. with_second_one (first_becomes over.first front) over.second (becomes_one over.first front)))
