-- What the answers of a decision are.
use Rattle.std.specs.Prelude.{◌≡◌, ℕ, ◌+◌, ◌<◌, ◌≤◌, List, length}
use Rattle.auto_core.specs.Automaton.{IsAutomaton}
use Rattle.auto_core.specs.Accept.{Includes, SeparatesLasso, SeparatesWord}
use Rattle.auto_core.specs.Outcome.{Outcome, Entry}
use Rattle.ba_format.specs.declared.parts.Joined.{Joined}
use Rattle.cert_value.specs.declared.types.Cert.{Cert}
use Rattle.cert_value.specs.declared.types.Body.{Body}
use Rattle.cert_value.specs.declared.types.Body.TheVariants.{Yes, NoLasso, NoWord, Listing}
use Rattle.cert_value.specs.declared.types.YesBody.{YesBody}
use Rattle.cert_value.specs.declared.types.ListBody.{ListBody}
use Rattle.cert_value.specs.declared.types.FirstStep.{FirstStep}
use Rattle.cert_value.specs.declared.types.SecondStep.{SecondStep}
use Rattle.cert_value.specs.WellFormed.{WellFormed}
use Rattle.log_check.specs.declared.ends.Ends.{Ends}
use Rattle.log_check.specs.Ends.{AreEnds}
use Rattle.reduce_loop.specs.Settled.{IsSettled}
use Rattle.cert_check.specs.Inclusion.{origins_of, live_in}
use Rattle.cert_check.specs.Laws.{IsValid}
use Rattle.evidence.specs.Evidence.{LiveStandApart}
use Rattle.decide.specs.declared.terms.Terms.{Terms}
use Rattle.decide.specs.Terms.{AreBounded, sight_of}
use Rattle.cert_check.specs.Listing.{AreDifferentListed}
use Rattle.decide.specs.Searches.{rules_in, bound_in, NoneSubsumedBeforeIn}
use Rattle.decide.specs.Answer.{HasFewParts, IsOrder, Decides, IsAnswer, Reductions, AreReductions}

-- The two automata are valid, over as many labels as there are texts, and small enough to be
-- decided.
pub record CanDecide (pair : Joined) : Type 0 where
  pub first : IsAutomaton pair.first
  pub second : IsAutomaton pair.second
  pub first_labels : pair.first.labels ≡ length pair.labels
  pub second_labels : pair.second.labels ≡ length pair.labels
  pub few_labels : length pair.labels ≤ 512
  pub first_parts : HasFewParts 2048 pair.first
  pub second_parts : HasFewParts 512 pair.second

-- The logs lead from the read automata to these two, in which no step of the reduction has anything
-- left to do.
pub record AreSettledEnds (pair : Joined) (terms : Terms) (firsts : List FirstStep)
    (seconds : List SecondStep) (ends : Ends) : Type 0 where
  pub lead : AreEnds terms.mode pair.first pair.second firsts seconds ends
  pub first_settled : IsSettled ends.first terms.mode (sight_of terms)
  pub second_settled : IsSettled ends.second terms.mode (sight_of terms)

-- The logs of the evidence lead to settled automata, and no live element subsumes another, by the
-- order that the search of these goes by.
pub record StandApart (pair : Joined) (terms : Terms) (evidence : YesBody) : Type 0 where
  pub ends : Ends
  pub settled : AreSettledEnds pair terms evidence.first evidence.second ends
  pub order : List (ℕ × ℕ)
  pub ordered : IsOrder ends.second order
  pub apart : LiveStandApart (rules_in terms.mode ends.first ends.second order) ends.first
      (origins_of evidence) (live_in evidence)

-- The logs of the list lead to settled automata. It has limit + 1 different supergraphs of these,
-- in finite mode pairs of a state and a set, and none is subsumed by an earlier one, by the order
-- that the search of these goes by. The limit is below the bound on different ones of the read
-- automata.
pub record ListsNew (pair : Joined) (terms : Terms) (list : ListBody) : Type 0 where
  pub ends : Ends
  pub settled : AreSettledEnds pair terms list.first list.second ends
  pub listed : AreDifferentListed terms.mode ends.first ends.second (terms.limit + 1) list.elements
  pub order : List (ℕ × ℕ)
  pub ordered : IsOrder ends.second order
  pub fresh : NoneSubsumedBeforeIn (rules_in terms.mode ends.first ends.second order) ends.first
      list.elements
  pub below : terms.limit < bound_in terms.mode pair.first.states pair.second.states

-- What the body says is so.
abbrev pub AnswerIsTrue : Joined → Terms → Body → Type 0
AnswerIsTrue pair terms (Yes evidence) =
    Includes pair.first pair.second terms.mode × StandApart pair terms evidence
AnswerIsTrue pair terms (NoLasso lasso) =
    SeparatesLasso pair.first pair.second lasso.prefix lasso.turn
AnswerIsTrue pair terms (NoWord word) = SeparatesWord pair.first pair.second word
AnswerIsTrue pair terms (Listing list) = ListsNew pair terms list

-- Two answers for the same automata, by the same terms, are one certificate.
abbrev pub OneAnswer : Type 0
OneAnswer =
    (pair : Joined) (terms : Terms) (c d : Cert)
    → IsAutomaton pair.first
    → IsAutomaton pair.second
    → 1 ≤ terms.look
    → IsAnswer pair terms c
    → IsAnswer pair terms d
    → c ≡ d

-- An answer has a text, at each lookahead from 1 to 6, up to 4 letters asked for and each limit up
-- to 100,000.
abbrev pub AnswersAreFormed : Type 0
AnswersAreFormed =
    (pair : Joined) (terms : Terms) (cert : Cert)
    → CanDecide pair
    → AreBounded terms
    → IsAnswer pair terms cert
    → WellFormed cert

-- An answer is valid for the two automata: it keeps all rules of the check.
abbrev pub AnswersAreValid : Type 0
AnswersAreValid =
    (pair : Joined) (terms : Terms) (cert : Cert)
    → CanDecide pair
    → AreBounded terms
    → IsAnswer pair terms cert
    → IsValid pair cert

-- What an answer says is so.
abbrev pub AnswersAreTrue : Type 0
AnswersAreTrue =
    (pair : Joined) (terms : Terms) (cert : Cert)
    → CanDecide pair
    → AreBounded terms
    → IsAnswer pair terms cert
    → AnswerIsTrue pair terms cert.body

-- Two automata have one pair of reduced ones, with one log each.
abbrev pub ReductionsAreOne : Type 0
ReductionsAreOne =
    (pair : Joined) (terms : Terms) (at other : Reductions)
    → IsAutomaton pair.first
    → IsAutomaton pair.second
    → 1 ≤ terms.look
    → AreReductions pair terms at
    → AreReductions pair terms other
    → at ≡ other

-- The logs as they are written lead, by the rules of the check, from the two automata to the
-- reduced ones.
abbrev pub WrittenLogsLead : Type 0
WrittenLogsLead =
    (pair : Joined) (terms : Terms) (at : Reductions)
    → IsAutomaton pair.first
    → IsAutomaton pair.second
    → 1 ≤ terms.look
    → terms.look ≤ 6
    → AreReductions pair terms at
    → AreEnds terms.mode pair.first pair.second at.first_log at.second_log
    (record { first = at.first; second = at.second })

-- The search on the log ends has one order and one outcome.
abbrev pub OneOutcomeDecides : Type 0
OneOutcomeDecides =
    (at : Reductions) (terms : Terms) (S T : List (ℕ × ℕ)) (o p : Outcome Entry)
    → Decides at terms S o
    → Decides at terms T p
    → (S ≡ T) × (o ≡ p)
