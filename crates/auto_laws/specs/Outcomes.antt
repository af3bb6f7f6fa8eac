-- What the outcome of the search tells.
use Rattle.std.specs.Prelude.{◌≡◌, ℕ, ◌+◌, ◌<◌, ◌↔◌, Bool, List}
use Rattle.auto_core.specs.Automaton.{Automaton, IsAutomaton}
use Rattle.auto_core.specs.Accept.{Includes, SeparatesLasso}
use Rattle.auto_core.specs.Game.{Holds, IsGreatestForward}
use Rattle.auto_core.specs.Graph.{ArePlaced, Subsumes, arcs_of}
use Rattle.auto_core.specs.Closed.{ClosedSet}
use Rattle.auto_core.specs.Outcome.{Outcome, Closed, Apart, Limit, At, StaysLive, HasSubsumer, TellsLive, LiveSubsumes, Entry, super_entry, supergraph_rules, SearchEnds, origins_in, arcs_in, AreListed, NoneSubsumedBefore}
use Rattle.auto_core.specs.declared.parts.Mode.TheVariants.{Buchi}

-- A search ends in one way.
abbrev pub OneOutcome : Type 0
OneOutcome =
    (A B : Automaton) (S : List (ℕ × ℕ)) (limit : ℕ) (o p : Outcome Entry)
    → SearchEnds A B S limit o → SearchEnds A B S limit p → o ≡ p

-- The origins of the elements name transitions and earlier elements that fit, and the arcs that
-- they make are those of the elements.
pub record HaveOrigins (A : Automaton) (es : List Entry) : Type 0 where
  pub placed : ArePlaced A (origins_in es)
  pub arcs : arcs_of A (origins_in es) ≡ arcs_in es

-- That is so for each closed list, and for each that is longer than the limit.
abbrev pub OriginsFit : Type 0
OriginsFit = (A B : Automaton) (S : List (ℕ × ℕ)) (limit : ℕ) (es : List Entry) →
    (SearchEnds A B S limit (Closed es) → HaveOrigins A es)
    × (SearchEnds A B S limit (Limit es) → HaveOrigins A es)

-- A closed list is a closed set: the flags may be any that tell which of its elements are live.
abbrev pub ClosedListIsClosedSet : Type 0
ClosedListIsClosedSet =
    (A B : Automaton) (S : List (ℕ × ℕ)) (limit : ℕ) (es : List Entry) (live : ℕ → Bool)
    → IsAutomaton B → IsGreatestForward B 1 S →
    SearchEnds A B S limit (Closed es) → TellsLive (supergraph_rules A B S) es live
    → ClosedSet A B S (arcs_in es) live

-- So the second automaton accepts each lasso that the first accepts.
abbrev pub ClosedListIncludes : Type 0
ClosedListIncludes =
    (A B : Automaton) (S : List (ℕ × ℕ)) (limit : ℕ) (es : List Entry) (live : ℕ → Bool)
    → IsAutomaton B → IsGreatestForward B 1 S →
    SearchEnds A B S limit (Closed es) → TellsLive (supergraph_rules A B S) es live
    → Includes A B Buchi

-- No live element of a closed list subsumes another.
abbrev pub LiveOnesStandApart : Type 0
LiveOnesStandApart =
    (A B : Automaton) (S : List (ℕ × ℕ)) (limit : ℕ) (es : List Entry)
    → SearchEnds A B S limit (Closed es) →
    (i j : ℕ) (x y : Entry) → (i ≡ j → ⊥) → At es i x → At es j y
    → StaysLive (supergraph_rules A B S) es i → StaysLive (supergraph_rules A B S) es j →
    Subsumes (Holds S) (super_entry B x) (super_entry B y) → ⊥

-- The words of a pair that the search tells apart are a lasso that the first automaton accepts and
-- the second does not.
abbrev pub ApartSeparates : Type 0
ApartSeparates =
    (A B : Automaton) (S : List (ℕ × ℕ)) (limit : ℕ) (x y : Entry)
    → SearchEnds A B S limit (Apart x y) → SeparatesLasso A B x.arc.word y.arc.word

-- A list that is longer than the limit has limit + 1 elements, whose supergraphs are pairwise
-- different, and none is subsumed by an earlier one.
abbrev pub LimitLists : Type 0
LimitLists =
    (A B : Automaton) (S : List (ℕ × ℕ)) (limit : ℕ) (es : List Entry) → IsAutomaton B
    → IsGreatestForward B 1 S →
    SearchEnds A B S limit (Limit es)
    → AreListed A B (limit + 1) (origins_in es) × NoneSubsumedBefore A B S (origins_in es)

-- Some element of a list subsumes x just where some live one does.
abbrev pub LiveOnesAreEnough : Type 0
LiveOnesAreEnough =
    (A B : Automaton) (S : List (ℕ × ℕ)) (es : List Entry) (live : ℕ → Bool) (x : Entry)
    → IsGreatestForward B 1 S →
    TellsLive (supergraph_rules A B S) es live →
    HasSubsumer (supergraph_rules A B S) es x
    ↔ ((i : ℕ) × LiveSubsumes (supergraph_rules A B S) es x i)

-- The greatest relation is an order on the states.
abbrev pub GreatestIsAnOrder : Type 0
GreatestIsAnOrder = (B : Automaton) (S : List (ℕ × ℕ)) → IsAutomaton B → IsGreatestForward B 1 S →
    ((p : ℕ) → p < B.states → Holds S p p) × ((p q r : ℕ) → Holds S p q → Holds S q r → Holds S p r)
