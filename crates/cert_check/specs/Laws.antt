-- What valid certificates show.
use Rattle.std.specs.Prelude.{◌≡◌, ◌↔◌, ℕ, ◌+◌, List}
use Rattle.auto_core.specs.Automaton.{IsAutomaton}
use Rattle.auto_core.specs.Accept.{Includes, SeparatesLasso, SeparatesWord}
use Rattle.auto_core.specs.declared.parts.Lasso.{Lasso}
use Rattle.ba_format.specs.declared.parts.Joined.{Joined}
use Rattle.cert_value.specs.declared.types.Cert.{Cert}
use Rattle.cert_value.specs.declared.types.YesBody.{YesBody}
use Rattle.cert_value.specs.declared.types.ListBody.{ListBody}
use Rattle.cert_value.specs.declared.types.Body.TheVariants.{Yes, NoLasso, NoWord, Listing}
use Rattle.cert_value.specs.WellFormed.{WellFormed, upgraded}
use Rattle.log_check.specs.declared.faults.Refusal.{Refusal}
use Rattle.cert_check.specs.declared.faults.Verdict.{Verdict}
use Rattle.cert_check.specs.Rules.{KeepsRules, BreaksRule, IsVerdictOf, SaysTruly, ListsDifferent}

-- The certificate is valid for the two automata: it is well-formed and keeps all rules.
pub record IsValid (pair : Joined) (cert : Cert) : Type 0 where
  pub formed : WellFormed cert
  pub keeps : KeepsRules pair cert

-- If a valid certificate says yes, the second automaton accepts each lasso, in finite mode each
-- word, that the first accepts.
abbrev pub ValidYesIncludes : Type 0
ValidYesIncludes =
    (pair : Joined) (cert : Cert) (evidence : YesBody) → IsAutomaton pair.first
    → IsAutomaton pair.second → cert.body ≡ Yes evidence → IsValid pair cert
    → Includes pair.first pair.second cert.mode

-- If a valid certificate says no by a lasso, the first automaton accepts it and the second does
-- not.
abbrev pub ValidNoSeparates : Type 0
ValidNoSeparates =
    (pair : Joined) (cert : Cert) (lasso : Lasso) → cert.body ≡ NoLasso lasso → IsValid pair cert
    → SeparatesLasso pair.first pair.second lasso.prefix lasso.turn

-- If it says no by a word, the first automaton accepts that and the second does not.
abbrev pub ValidNoSeparatesByWord : Type 0
ValidNoSeparatesByWord =
    (pair : Joined) (cert : Cert) (word : List ℕ) → cert.body ≡ NoWord word → IsValid pair cert
    → SeparatesWord pair.first pair.second word

-- A valid list has, of the automata that its logs lead to, one more than its limit of pairwise
-- different supergraphs, in finite mode pairs of a state and a set.
abbrev pub ValidListShows : Type 0
ValidListShows =
    (pair : Joined) (cert : Cert) (list : ListBody) → cert.body ≡ Listing list → IsValid pair cert
    → ListsDifferent cert.mode pair (list.limit + 1) list

-- A certificate breaks one rule first, at most.
abbrev pub OneRuleBreaks : Type 0
OneRuleBreaks =
    (pair : Joined) (cert : Cert) (refusal other : Refusal) → BreaksRule pair cert refusal
    → BreaksRule pair cert other → refusal ≡ other

-- A certificate that keeps its rules breaks none.
abbrev pub NoneBreaksWhereKept : Type 0
NoneBreaksWhereKept =
    (pair : Joined) (cert : Cert) (refusal : Refusal) → BreaksRule pair cert refusal
    → KeepsRules pair cert → ⊥

-- The check of both certificates for these automata says the same: both keep all rules or neither
-- does, what one breaks first the other breaks first, and both give the same verdict, which says
-- the same.
pub record AreCheckedAlike (pair : Joined) (cert other : Cert) : Type 0 where
  pub kept : KeepsRules pair cert ↔ KeepsRules pair other
  pub broken : (refusal : Refusal) → BreaksRule pair cert refusal ↔ BreaksRule pair other refusal
  pub verdict : (verdict : Verdict) → IsVerdictOf cert.body verdict ↔ IsVerdictOf other.body verdict
  pub truth : (verdict : Verdict) → SaysTruly pair cert verdict ↔ SaysTruly pair other verdict

-- So it is for a certificate and the same one in version 2, whatever the automata.
abbrev pub UpgradeIsCheckedAlike : Type 0
UpgradeIsCheckedAlike = (pair : Joined) (cert : Cert) → AreCheckedAlike pair cert (upgraded cert)
