-- What each rule asks of a certificate, in the order in which the rules are tested.
use Rattle.std.specs.Prelude.{◌≡◌, ◌⊎◌, ℕ, ◌+◌, ◌<◌, List, [], ◌∷◌, length, All, Result, Ok, Err}
use Rattle.auto_core.specs.Automaton.{Automaton}
use Rattle.auto_core.specs.Accept.{AcceptsLasso, AcceptsWord, SeparatesLasso, SeparatesWord, Includes}
use Rattle.auto_core.specs.declared.parts.Lasso.{Lasso}
use Rattle.auto_core.specs.declared.parts.Mode.{Mode}
use Rattle.ba_format.specs.declared.parts.Joined.{Joined}
use Rattle.cert_value.specs.declared.types.Cert.{Cert}
use Rattle.cert_value.specs.declared.types.Body.{Body}
use Rattle.cert_value.specs.declared.types.YesBody.{YesBody}
use Rattle.cert_value.specs.declared.types.ListBody.{ListBody}
use Rattle.cert_value.specs.declared.types.FirstStep.{FirstStep}
use Rattle.cert_value.specs.declared.types.SecondStep.{SecondStep}
use Rattle.cert_value.specs.declared.types.Body.TheVariants.{Yes, NoLasso, NoWord, Listing}
use Rattle.cert_check.specs.declared.faults.Verdict.{Verdict}
use Rattle.cert_check.specs.declared.faults.Verdict.TheVariants.{Included, Apart, ApartWord, Listed}
use Rattle.log_check.specs.declared.faults.Refusal.{Refusal}
use Rattle.log_check.specs.declared.faults.CheckFault.{CheckFault}
use Rattle.log_check.specs.declared.faults.CheckFault.TheVariants.{Refused, Memory}
use Rattle.log_check.specs.declared.ends.Ends.{Ends}
use Rattle.log_check.specs.Checks.{RuleCheck, AllHold, FirstBroken, rule_at}
use Rattle.log_check.specs.Ends.{AreEnds, LogsBreak, item_after}
use Rattle.cert_check.specs.Inclusion.{inclusion_checks}
use Rattle.cert_check.specs.Listing.{AreDifferentListed, listing_checks}

-- Each letter of the word is a label.
abbrev pub AreLabels : ℕ → List ℕ → Type 0
AreLabels labels word = All (λ a. a < labels) word

-- The sizes are those of the two read automata and of their joined labels.
abbrev pub HasSizes : Joined → Cert → Type 0
HasSizes pair cert =
    (cert.first_states ≡ pair.first.states) × (cert.second_states ≡ pair.second.states)
    × (cert.labels ≡ length pair.labels)

-- A lasso that is said to separate: its letters are labels, the first automaton accepts it and the
-- second does not.
abbrev pub lasso_checks : Joined → Lasso → List RuleCheck
lasso_checks pair lasso =
    rule_at 1 1 (AreLabels (length pair.labels) lasso.prefix)
    ∷ rule_at 1 2 (AreLabels (length pair.labels) lasso.turn)
    ∷ rule_at 16 2 (AcceptsLasso pair.first lasso.prefix lasso.turn)
    ∷ rule_at 17 2 (AcceptsLasso pair.second lasso.prefix lasso.turn → ⊥)
    ∷ []

-- A word that is said to separate, in the same way.
abbrev pub word_checks : Joined → List ℕ → List RuleCheck
word_checks pair word =
    rule_at 1 1 (AreLabels (length pair.labels) word)
    ∷ rule_at 16 1 (AcceptsWord pair.first word)
    ∷ rule_at 17 1 (AcceptsWord pair.second word → ⊥)
    ∷ []

-- The steps of both logs keep their rules, and these checks, from the item after the steps on, hold
-- of the two automata that the logs lead to.
pub record HoldsAfterLogs (mode : Mode) (pair : Joined) (firsts : List FirstStep)
    (seconds : List SecondStep) (checks : ℕ → Automaton → Automaton → List RuleCheck) : Type 0 where
  pub ends : Ends
  pub logs : AreEnds mode pair.first pair.second firsts seconds ends
  pub hold : AllHold (checks (item_after firsts seconds) ends.first ends.second)

-- The refusal is the first rule that a step of the logs breaks, or the first of these checks that
-- does not hold where none does.
abbrev pub BreaksAfterLogs : Mode → Joined → List FirstStep → List SecondStep
    → (ℕ → Automaton → Automaton → List RuleCheck) → Refusal → Type 0
BreaksAfterLogs mode pair firsts seconds checks refusal =
    LogsBreak mode pair.first pair.second firsts seconds refusal
    ⊎ ((ends : Ends)
    × AreEnds mode pair.first pair.second firsts seconds ends
    × FirstBroken (checks (item_after firsts seconds) ends.first ends.second) refusal)

-- A test of logs and of what comes after them: all is kept, or the refusal is the first rule that
-- is broken. Memory may be refused.
abbrev pub TellsAfterLogs : Mode → Joined → List FirstStep → List SecondStep
    → (ℕ → Automaton → Automaton → List RuleCheck) → Result (Unit {0}) CheckFault → Type 0
TellsAfterLogs mode pair firsts seconds checks (Ok x) =
    HoldsAfterLogs mode pair firsts seconds checks
TellsAfterLogs mode pair firsts seconds checks (Err (Refused refusal)) =
    BreaksAfterLogs mode pair firsts seconds checks refusal
TellsAfterLogs mode pair firsts seconds checks (Err Memory) = Unit {0}

-- A yes keeps its rules: the steps of both logs keep theirs, and then the evidence keeps those on
-- the two automata that the logs lead to.
abbrev pub YesHolds : Mode → Joined → YesBody → Type 0
YesHolds mode pair evidence =
    HoldsAfterLogs mode pair evidence.first evidence.second (inclusion_checks mode evidence)

-- A list keeps its rules: the steps of both logs keep theirs, and then its elements keep those on
-- the two automata that the logs lead to.
abbrev pub ListHolds : Mode → Joined → ListBody → Type 0
ListHolds mode pair list =
    HoldsAfterLogs mode pair list.first list.second (listing_checks mode list)

-- The body keeps its rules.
abbrev pub BodyHolds : Mode → Joined → Body → Type 0
BodyHolds mode pair (Yes evidence) = YesHolds mode pair evidence
BodyHolds mode pair (NoLasso lasso) = AllHold (lasso_checks pair lasso)
BodyHolds mode pair (NoWord word) = AllHold (word_checks pair word)
BodyHolds mode pair (Listing list) = ListHolds mode pair list

-- The refusal is the first rule that the body breaks.
abbrev pub BodyBreaks : Mode → Joined → Body → Refusal → Type 0
BodyBreaks mode pair (Yes evidence) refusal =
    BreaksAfterLogs mode pair evidence.first evidence.second (inclusion_checks mode evidence)
    refusal
BodyBreaks mode pair (NoLasso lasso) refusal = FirstBroken (lasso_checks pair lasso) refusal
BodyBreaks mode pair (NoWord word) refusal = FirstBroken (word_checks pair word) refusal
BodyBreaks mode pair (Listing list) refusal =
    BreaksAfterLogs mode pair list.first list.second (listing_checks mode list) refusal

-- A certificate keeps all its rules for these automata.
abbrev pub KeepsRules : Joined → Cert → Type 0
KeepsRules pair cert = HasSizes pair cert × BodyHolds cert.mode pair cert.body

-- The refusal is the first rule that it breaks; the sizes are looked at first.
abbrev pub BreaksRule : Joined → Cert → Refusal → Type 0
BreaksRule pair cert refusal =
    FirstBroken (rule_at 1 0 (HasSizes pair cert) ∷ []) refusal
    ⊎ (HasSizes pair cert × BodyBreaks cert.mode pair cert.body refusal)

-- The verdict that a certificate with this body gives.
abbrev pub IsVerdictOf : Body → Verdict → Type 0
IsVerdictOf (Yes body) verdict = verdict ≡ Included
IsVerdictOf (NoLasso lasso) verdict = verdict ≡ Apart lasso
IsVerdictOf (NoWord word) verdict = verdict ≡ ApartWord word
IsVerdictOf (Listing body) verdict = verdict ≡ Listed body.limit

-- What a list shows: both logs lead to two automata, and it has so many pairwise different
-- supergraphs of these, in finite mode pairs of a state and a set.
pub record ListsDifferent (mode : Mode) (pair : Joined) (count : ℕ) (list : ListBody) : Type 0 where
  pub ends : Ends
  pub logs : AreEnds mode pair.first pair.second list.first list.second ends
  pub listed : AreDifferentListed mode ends.first ends.second count list.elements

-- The certificate is a list, and shows limit + 1 different ones.
abbrev pub ListsPastLimit : Joined → Cert → ℕ → Type 0
ListsPastLimit pair cert limit =
    (list : ListBody) × (cert.body ≡ Listing list) × ListsDifferent cert.mode pair (limit + 1) list

-- What a verdict on the certificate says: of the lassos of the two automata, in finite mode of
-- their words, and where the certificate is a list, of the supergraphs of the automata that its
-- logs lead to.
abbrev pub SaysTruly : Joined → Cert → Verdict → Type 0
SaysTruly pair cert Included = Includes pair.first pair.second cert.mode
SaysTruly pair cert (Apart lasso) = SeparatesLasso pair.first pair.second lasso.prefix lasso.turn
SaysTruly pair cert (ApartWord word) = SeparatesWord pair.first pair.second word
SaysTruly pair cert (Listed limit) = ListsPastLimit pair cert limit
