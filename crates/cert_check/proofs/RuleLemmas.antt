-- A certificate breaks one rule first, and none where it keeps them all. No rule asks for the version.
use Rattle.std.proofs.Common.{◌≡◌, ◌↔◌, ℕ, inl, inr, List, [], ◌∷◌, subst}
use Rattle.auto_core.specs.Automaton.{Automaton}
use Rattle.auto_core.specs.declared.parts.Mode.{Mode}
use Rattle.ba_format.specs.declared.parts.Joined.{Joined}
use Rattle.cert_value.specs.declared.types.Cert.{Cert}
use Rattle.cert_value.specs.declared.types.Body.{Body}
use Rattle.cert_value.specs.declared.types.Body.TheVariants.{Yes, NoLasso, NoWord, Listing}
use Rattle.cert_value.specs.declared.types.FirstStep.{FirstStep}
use Rattle.cert_value.specs.declared.types.SecondStep.{SecondStep}
use Rattle.cert_value.specs.WellFormed.{upgraded}
use Rattle.log_check.specs.declared.ends.Ends.{Ends}
use Rattle.log_check.specs.declared.faults.Refusal.{Refusal}
use Rattle.log_check.specs.Checks.{RuleCheck, FirstBroken, rule_at}
use Rattle.log_check.specs.Ends.{item_after}
use Rattle.log_check.proofs.LawOneLemmas.{broken_one, broken_or_all, ends_one, break_one, none_breaks}
use Rattle.cert_check.specs.Inclusion.{inclusion_checks}
use Rattle.cert_check.specs.Listing.{listing_checks}
use Rattle.cert_check.specs.Rules.{HasSizes, lasso_checks, word_checks, HoldsAfterLogs, BreaksAfterLogs, BodyHolds, BodyBreaks, SaysTruly}
use Rattle.cert_check.specs.declared.faults.Verdict.{Verdict}
use Rattle.cert_check.specs.declared.faults.Verdict.TheVariants.{Included, Apart, ApartWord, Listed}
use Rattle.cert_check.specs.Laws.{OneRuleBreaks, NoneBreaksWhereKept, UpgradeIsCheckedAlike}

module _ (mode : Mode) (pair : Joined) (firsts : List FirstStep) (seconds : List SecondStep) (checks : ℕ → Automaton → Automaton → List RuleCheck) where
  abbrev n : ℕ
  n = item_after firsts seconds

  one_after_logs : (refusal other : Refusal) → BreaksAfterLogs mode pair firsts seconds checks refusal → BreaksAfterLogs mode pair firsts seconds checks other → refusal ≡ other
  one_after_logs refusal other (inl h) (inl k) = break_one mode pair.first pair.second firsts seconds refusal other h k
  one_after_logs refusal other (inl h) (inr (ends, are, k)) = absurd (none_breaks mode pair.first pair.second firsts seconds refusal ends h are)
  one_after_logs refusal other (inr (ends, are, h)) (inl k) = absurd (none_breaks mode pair.first pair.second firsts seconds other ends k are)
  one_after_logs refusal other (inr (ends, are, h)) (inr (ends', are', k)) =
      let same = ends_one mode pair.first pair.second firsts seconds ends' ends are' are in
      broken_one (checks n ends.first ends.second) refusal other h (subst (λ (z : Ends). FirstBroken (checks n z.first z.second) other) same k)

  none_after_logs : (refusal : Refusal) → BreaksAfterLogs mode pair firsts seconds checks refusal → HoldsAfterLogs mode pair firsts seconds checks → ⊥
  none_after_logs refusal (inl h) holds = none_breaks mode pair.first pair.second firsts seconds refusal holds.ends h holds.logs
  none_after_logs refusal (inr (ends, are, h)) holds =
      let same = ends_one mode pair.first pair.second firsts seconds ends holds.ends are holds.logs in
      broken_or_all (checks n holds.ends.first holds.ends.second) refusal (subst (λ (z : Ends). FirstBroken (checks n z.first z.second) refusal) same h) holds.hold

one_of_body : (mode : Mode) (pair : Joined) (body : Body) (refusal other : Refusal) → BodyBreaks mode pair body refusal → BodyBreaks mode pair body other → refusal ≡ other
one_of_body mode pair (Yes evidence) refusal other h k = one_after_logs mode pair evidence.first evidence.second (inclusion_checks mode evidence) refusal other h k
one_of_body mode pair (NoLasso lasso) refusal other h k = broken_one (lasso_checks pair lasso) refusal other h k
one_of_body mode pair (NoWord word) refusal other h k = broken_one (word_checks pair word) refusal other h k
one_of_body mode pair (Listing list) refusal other h k = one_after_logs mode pair list.first list.second (listing_checks mode list) refusal other h k

pub one_rule : OneRuleBreaks
one_rule pair cert refusal other (inl h) (inl k) = broken_one (rule_at 1 0 (HasSizes pair cert) ∷ []) refusal other h k
one_rule pair cert refusal other (inl h) (inr k) = absurd (broken_or_all (rule_at 1 0 (HasSizes pair cert) ∷ []) refusal h (k.0, tt))
one_rule pair cert refusal other (inr h) (inl k) = absurd (broken_or_all (rule_at 1 0 (HasSizes pair cert) ∷ []) other k (h.0, tt))
one_rule pair cert refusal other (inr h) (inr k) = one_of_body cert.mode pair cert.body refusal other h.1 k.1

none_of_body : (mode : Mode) (pair : Joined) (body : Body) (refusal : Refusal) → BodyBreaks mode pair body refusal → BodyHolds mode pair body → ⊥
none_of_body mode pair (Yes evidence) refusal h holds = none_after_logs mode pair evidence.first evidence.second (inclusion_checks mode evidence) refusal h holds
none_of_body mode pair (NoLasso lasso) refusal h holds = broken_or_all (lasso_checks pair lasso) refusal h holds
none_of_body mode pair (NoWord word) refusal h holds = broken_or_all (word_checks pair word) refusal h holds
none_of_body mode pair (Listing list) refusal h holds = none_after_logs mode pair list.first list.second (listing_checks mode list) refusal h holds

pub none_kept : NoneBreaksWhereKept
none_kept pair cert refusal (inl h) keeps = broken_or_all (rule_at 1 0 (HasSizes pair cert) ∷ []) refusal h (keeps.0, tt)
none_kept pair cert refusal (inr h) keeps = none_of_body cert.mode pair cert.body refusal h.1 keeps.1

-- No rule and no verdict looks at the version.
truth_alike : (pair : Joined) (cert : Cert) (verdict : Verdict) → SaysTruly pair cert verdict ↔ SaysTruly pair (upgraded cert) verdict
truth_alike pair cert Included = (λ h. h, λ h. h)
truth_alike pair cert (Apart lasso) = (λ h. h, λ h. h)
truth_alike pair cert (ApartWord word) = (λ h. h, λ h. h)
truth_alike pair cert (Listed limit) = (λ h. h, λ h. h)

pub upgrade_alike : UpgradeIsCheckedAlike
upgrade_alike pair cert = record {
  kept = (λ h. h, λ h. h);
  broken = λ refusal. (λ h. h, λ h. h);
  verdict = λ verdict. (λ h. h, λ h. h);
  truth = truth_alike pair cert;
}
