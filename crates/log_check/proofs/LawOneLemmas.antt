-- Where two logs lead, and which rule they break first, is one.
use Rattle.std.proofs.Common.{◌≡◌, ℕ, suc, ◌+◌, inl, inr, List, [], ◌∷◌, length, sym, ◌∙◌, subst}
use Rattle.auto_core.specs.Automaton.{Automaton}
use Rattle.useful_states.proofs.KeepLaws.{kept_one}
use Rattle.quotient.proofs.MergeLaws.{quotient_one}
use Rattle.prune_pairs.proofs.OneLaws.{cut_one}
use Rattle.cert_value.specs.declared.types.FirstStep.{FirstStep}
use Rattle.cert_value.specs.declared.types.FirstStep.TheVariants as first
use Rattle.cert_value.specs.declared.types.SecondStep.{SecondStep}
use Rattle.cert_value.specs.declared.types.SecondStep.TheVariants as second
use Rattle.cert_value.specs.WellFormed.{gone_of}
use Rattle.log_check.specs.declared.faults.Refusal.{Refusal}
use Rattle.log_check.specs.declared.ends.Ends.{Ends}
use Rattle.log_check.specs.Checks.{RuleCheck, AllHold, FirstBroken}
use Rattle.log_check.specs.Follows.{LogRules, Follows, Breaks}
use Rattle.log_check.specs.FirstLog.{FirstStepLeads, first_rules}
use Rattle.log_check.specs.SecondLog.{SecondStepLeads, second_rules}
use Rattle.log_check.specs.Laws.{EndsAreOne, BreakIsOne, NoneBreaksWithEnds}

-- ---- checks

pub broken_one : (checks : List RuleCheck) (refusal other : Refusal) → FirstBroken checks refusal → FirstBroken checks other → refusal ≡ other
broken_one [] refusal other h k = absurd h
broken_one (c ∷ cs) refusal other (inl h) (inl k) = h.1 ∙ sym k.1
broken_one (c ∷ cs) refusal other (inl h) (inr k) = absurd (h.0 k.0)
broken_one (c ∷ cs) refusal other (inr h) (inl k) = absurd (k.0 h.0)
broken_one (c ∷ cs) refusal other (inr h) (inr k) = broken_one cs refusal other h.1 k.1

pub broken_or_all : (checks : List RuleCheck) (refusal : Refusal) → FirstBroken checks refusal → AllHold checks → ⊥
broken_or_all [] refusal h k = h
broken_or_all (c ∷ cs) refusal (inl h) k = h.0 k.0
broken_or_all (c ∷ cs) refusal (inr h) k = broken_or_all cs refusal h.1 k.1

-- ---- logs whose steps lead to one automaton each

module _ (S : Type 0) (rules : LogRules S) (one : (A B C : Automaton) (step : S) → rules.Leads A step B → rules.Leads A step C → B ≡ C) where
  follows_one : (A : Automaton) (item : ℕ) (steps : List S) (B C : Automaton) → Follows S rules A item steps B → Follows S rules A item steps C → B ≡ C
  follows_one A item [] B C h k = h ∙ sym k
  follows_one A item (step ∷ steps) B C (D, keeps, rest) (E, others, later) =
      let same : E ≡ D = one A E D step others.leads keeps.leads in
      follows_one D (suc item) steps B C rest (subst (λ x. Follows S rules x (suc item) steps C) same later)

  breaks_one : (A : Automaton) (item : ℕ) (steps : List S) (refusal other : Refusal) → Breaks S rules A item steps refusal → Breaks S rules A item steps other → refusal ≡ other
  breaks_one A item [] refusal other h k = absurd h
  breaks_one A item (step ∷ steps) refusal other (inl h) (inl k) = broken_one (rules.checks A item step) refusal other h k
  breaks_one A item (step ∷ steps) refusal other (inl h) (inr (C, keeps, k)) = absurd (broken_or_all (rules.checks A item step) refusal h keeps.holds)
  breaks_one A item (step ∷ steps) refusal other (inr (C, keeps, h)) (inl k) = absurd (broken_or_all (rules.checks A item step) other k keeps.holds)
  breaks_one A item (step ∷ steps) refusal other (inr (C, keeps, h)) (inr (D, others, k)) =
      let same : D ≡ C = one A D C step others.leads keeps.leads in
      breaks_one C (suc item) steps refusal other h (subst (λ x. Breaks S rules x (suc item) steps other) same k)

  breaks_or_follows : (A : Automaton) (item : ℕ) (steps : List S) (refusal : Refusal) (B : Automaton) → Breaks S rules A item steps refusal → Follows S rules A item steps B → ⊥
  breaks_or_follows A item [] refusal B h k = h
  breaks_or_follows A item (step ∷ steps) refusal B (inl h) (C, keeps, rest) = broken_or_all (rules.checks A item step) refusal h keeps.holds
  breaks_or_follows A item (step ∷ steps) refusal B (inr (D, others, h)) (C, keeps, rest) =
      let same : C ≡ D = one A C D step keeps.leads others.leads in
      breaks_or_follows D (suc item) steps refusal B h (subst (λ x. Follows S rules x (suc item) steps B) same rest)

-- ---- the two logs

first_one : (A B C : Automaton) (step : FirstStep) → FirstStepLeads A step B → FirstStepLeads A step C → B ≡ C
first_one A B C (first.Trim kept) h k = kept_one A B C kept h k
first_one A B C (first.Merge classes) h k = quotient_one A B C classes h k
first_one A B C (first.Cut pair look gone blocks) h k = cut_one A B C (gone_of gone) h k

second_one : (A B C : Automaton) (step : SecondStep) → SecondStepLeads A step B → SecondStepLeads A step C → B ≡ C
second_one A B C (second.Trim kept) h k = kept_one A B C kept h k
second_one A B C (second.Merge by classes) h k = quotient_one A B C classes h k
second_one A B C (second.Cut gone) h k = cut_one A B C gone h k

same_ends : (ends other : Ends) → ends.first ≡ other.first → ends.second ≡ other.second → ends ≡ other
same_ends ends other a b = λ k. record { first = a k; second = b k }

pub ends_one : EndsAreOne
ends_one mode A B firsts seconds ends other h k =
    same_ends ends other
    (follows_one FirstStep (first_rules mode) first_one A 1 firsts ends.first other.first h.first k.first)
    (follows_one SecondStep second_rules second_one B (1 + length firsts) seconds ends.second other.second h.second k.second)

pub break_one : BreakIsOne
break_one mode A B firsts seconds refusal other (inl h) (inl k) =
    breaks_one FirstStep (first_rules mode) first_one A 1 firsts refusal other h k
break_one mode A B firsts seconds refusal other (inl h) (inr (C, follows, k)) =
    absurd (breaks_or_follows FirstStep (first_rules mode) first_one A 1 firsts refusal C h follows)
break_one mode A B firsts seconds refusal other (inr (C, follows, h)) (inl k) =
    absurd (breaks_or_follows FirstStep (first_rules mode) first_one A 1 firsts other C k follows)
break_one mode A B firsts seconds refusal other (inr (C, follows, h)) (inr (D, leads, k)) =
    breaks_one SecondStep second_rules second_one B (1 + length firsts) seconds refusal other h k

pub none_breaks : NoneBreaksWithEnds
none_breaks mode A B firsts seconds refusal ends (inl h) are =
    breaks_or_follows FirstStep (first_rules mode) first_one A 1 firsts refusal ends.first h are.first
none_breaks mode A B firsts seconds refusal ends (inr (C, follows, h)) are =
    breaks_or_follows SecondStep second_rules second_one B (1 + length firsts) seconds refusal ends.second h are.second
