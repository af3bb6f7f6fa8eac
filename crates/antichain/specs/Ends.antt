-- What the search answers.
use Rattle.std.specs.Prelude.{◌≡◌, ℕ, ◌+◌, List, map}
use Rattle.auto_core.specs.Automaton.{Automaton}
use Rattle.auto_core.specs.Accept.{Includes, SeparatesWord}
use Rattle.auto_core.specs.Graph.{arcs_of}
use Rattle.auto_core.specs.ClosedPairs.{ClosedPairs}
use Rattle.auto_core.specs.PairOutcome.{pair_rules, PairSearchEnds, ArePairsListed, NoPairSubsumedBefore}
use Rattle.auto_core.specs.declared.parts.Mode.TheVariants.{Finite}
use Rattle.auto_core.specs.Outcome.{Entry, Closed, Apart, Limit, origins_in}
use Rattle.cert_value.specs.declared.types.Element.{Element}
use Rattle.evidence.specs.declared.parts.Closure.{Closure}
use Rattle.evidence.specs.Evidence.{IsEvidenceOf, LiveStandApart, marked_live}
use Rattle.antichain.specs.declared.parts.WordOutcome.{WordOutcome}
use Rattle.antichain.specs.declared.parts.WordOutcome.TheVariants as end

-- The answer is the outcome of the search, with its evidence.
abbrev pub IsWordOutcomeOf : Automaton → Automaton → List (ℕ × ℕ) → ℕ → WordOutcome → Type 0
IsWordOutcomeOf A B S limit (end.Closed closure) =
    (es : List Entry) × PairSearchEnds A B S limit (Closed es)
    × IsEvidenceOf (pair_rules A B S) es closure
IsWordOutcomeOf A B S limit (end.Apart word) =
    (x : Entry) × PairSearchEnds A B S limit (Apart x x) × (word ≡ x.arc.word)
IsWordOutcomeOf A B S limit (end.Limit origins) =
    (es : List Entry) × PairSearchEnds A B S limit (Limit es) × (origins ≡ origins_in es)

-- The elements of the closure, by their origins and marks, are a closed set of pairs in which no
-- live one subsumes another, and the second automaton accepts each word that the first accepts.
pub record IsWordClosing (A B : Automaton) (S : List (ℕ × ℕ)) (c : Closure) : Type 0 where
  pub includes : Includes A B Finite
  pub closed : ClosedPairs A B S (arcs_of A (map (λ (x : Element). x.origin) c.elements))
      (marked_live c.elements)
  pub apart : LiveStandApart (pair_rules A B S) A (map (λ (x : Element). x.origin) c.elements)
      (marked_live c.elements)

-- What the answer says is so: the closure closes; the word is accepted by the first and not by the
-- second; the origins are those of limit + 1 different pairs, none subsumed by an earlier one.
abbrev pub IsTrueWordOutcome : Automaton → Automaton → List (ℕ × ℕ) → ℕ → WordOutcome → Type 0
IsTrueWordOutcome A B S limit (end.Closed closure) = IsWordClosing A B S closure
IsTrueWordOutcome A B S limit (end.Apart word) = SeparatesWord A B word
IsTrueWordOutcome A B S limit (end.Limit origins) =
    ArePairsListed A B (limit + 1) origins × NoPairSubsumedBefore A B S origins
