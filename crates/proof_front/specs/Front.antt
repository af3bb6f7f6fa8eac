-- What the two automata become before the evidence.
use Rattle.std.specs.Prelude.{◌≡◌, ◌↔◌, ℕ, ◌+◌, List, [], ◌∷◌, length, Contains}
use Rattle.auto_core.specs.Automaton.{Automaton, IsAutomaton, Moves, IsAccepting}
use Rattle.auto_core.specs.Quotient.{IsQuotient}
use Rattle.auto_core.specs.Useful.{IsTrimmed}
use Rattle.auto_core.specs.declared.parts.Mode.TheVariants.{Buchi}
use Rattle.quotient.specs.Counting.{AreInOrder}
use Rattle.map_laws.specs.Maps.{JoinsEqualColumns, IsRenamed}
use Rattle.cert_value.specs.declared.types.FirstStep.{FirstStep}
use Rattle.cert_value.specs.declared.types.SecondStep.{SecondStep}
use Rattle.log_check.specs.declared.ends.Ends.{Ends}
use Rattle.log_check.specs.Checks.{RuleCheck, rule_at}
use Rattle.log_check.specs.FirstLog.{FirstLogFollows, FirstLogBreaks}
use Rattle.log_check.specs.SecondLog.{SecondLogFollows, SecondLogBreaks}
use Rattle.log_check.specs.Parts.{AreStates, AreClassesFor}
use Rattle.proof_text.specs.declared.types.Front.{Front}
use Rattle.proof_front.specs.Stages.{Stage, making, and_then}

-- ---- items

-- The second log's steps are the items from 1 on, and then come these.
abbrev pub letters_item : Front → ℕ
letters_item front = 1 + length front.second

abbrev pub map_item : Front → ℕ
map_item front = 2 + length front.second

abbrev pub accepting_item : Front → ℕ
accepting_item front = 3 + length front.second

abbrev pub first_item : Front → ℕ
first_item front = 4 + length front.second

abbrev pub evidence_item : Front → ℕ
evidence_item front = 4 + (length front.second + length front.first)

-- ---- the logs

-- The steps of the second log keep their rules, and lead to what it makes.
abbrev pub second_log : Automaton → ℕ → List SecondStep → Stage Automaton
second_log B item steps =
    record { Keeps = SecondLogFollows B item steps; Breaks = SecondLogBreaks B item steps }

-- So do those of the first log.
abbrev pub first_log : Automaton → ℕ → List FirstStep → Stage Automaton
first_log A item steps = record {
  Keeps = FirstLogFollows Buchi A item steps;
  Breaks = FirstLogBreaks Buchi A item steps;
}

-- ---- classes of letters

-- There is a class for each label of B, and they are numbered in the order in which they appear.
abbrev pub AreLettersFor : Automaton → List ℕ → Type 0
AreLettersFor B letters = (length letters ≡ B.labels) × AreInOrder letters (length letters)

-- Labels of one class have the same moves in B.
abbrev pub letter_checks : Automaton → List ℕ → ℕ → List RuleCheck
letter_checks B letters item =
    rule_at 3 item (AreLettersFor B letters) ∷ rule_at 21 item (JoinsEqualColumns B letters) ∷ []

-- Both have the classes for labels, and the first one is trimmed.
pub record AreOverLetters (A B : Automaton) (letters : List ℕ) (ends : Ends) : Type 0 where
  pub renamed : Automaton
  pub first : IsRenamed A letters renamed
  pub trimmed : IsTrimmed renamed Buchi ends.first
  pub second : IsRenamed B letters ends.second

-- The classes of letters.
abbrev pub over_letters : Automaton → Automaton → List ℕ → ℕ → Stage Ends
over_letters A B letters item = making (letter_checks B letters item) (AreOverLetters A B letters)

-- ---- classes of states

-- The states of each class become one.
abbrev pub mapped : Automaton → List ℕ → ℕ → Stage Automaton
mapped A map item = making (rule_at 3 item (AreClassesFor A map) ∷ []) (IsQuotient A map)

-- The list has each accepting state.
abbrev pub HasAccepting : Automaton → List ℕ → Type 0
HasAccepting A states = (q : ℕ) → IsAccepting A q → Contains states q

-- B is A, but accepts just in these states.
pub record AcceptsJustIn (A : Automaton) (states : List ℕ) (B : Automaton) : Type 0 where
  pub valid : IsAutomaton B
  pub states_same : B.states ≡ A.states
  pub labels : B.labels ≡ A.labels
  pub initial : B.initial ≡ A.initial
  pub moves : (p a q : ℕ) → Moves B p a q ↔ Moves A p a q
  pub accepting : (q : ℕ) → IsAccepting B q ↔ Contains states q

-- It does so and is then trimmed.
pub record AcceptsTrimmed (A : Automaton) (states : List ℕ) (B : Automaton) : Type 0 where
  pub whole : Automaton
  pub accepts : AcceptsJustIn A states whole
  pub trimmed : IsTrimmed whole Buchi B

-- The listed states of A, among which is each that accepts, are to accept.
abbrev pub accepting_classes : Automaton → List ℕ → ℕ → Stage Automaton
accepting_classes A states item =
    making
    (rule_at 1 item (AreStates A states) ∷ rule_at 22 item (HasAccepting A states) ∷ [])
    (AcceptsTrimmed A states)

-- ---- all of them

-- What becomes of the first automaton over classes of letters.
abbrev pub first_becomes : Automaton → Front → Stage Automaton
first_becomes A front =
    and_then (mapped A front.map (map_item front)) (λ Q.
    and_then (accepting_classes Q front.accepting (accepting_item front)) (λ C.
    first_log C (first_item front) front.first))

-- The second automaton stays what it is, and the first one becomes what the stage makes.
abbrev pub with_second : Stage Automaton → Automaton → Stage Ends
with_second stage B = record {
  Keeps = λ ends. stage.Keeps ends.first × (ends.second ≡ B);
  Breaks = stage.Breaks;
}

-- What becomes of both.
abbrev pub both_become : Automaton → Automaton → Front → Stage Ends
both_become A B front =
    and_then (second_log B 1 front.second) (λ C.
    and_then (over_letters A C front.letters (letters_item front)) (λ over.
    with_second (first_becomes over.first front) over.second))
