-- What the outcome of the search on finite words tells.
use Rattle.std.specs.Prelude.{◌≡◌, ℕ, ◌+◌, ◌<◌, ◌↔◌, Bool, List, [], ◌∷◌, ◌++◌, length, true}
use Rattle.auto_core.specs.Automaton.{Automaton, IsAutomaton}
use Rattle.auto_core.specs.Accept.{Includes, SeparatesWord}
use Rattle.auto_core.specs.Game.{Holds, StableForward, IsGreatestForward}
use Rattle.auto_core.specs.Graph.{WordArc, arc_at, arcs_of}
use Rattle.auto_core.specs.Outcome.{Outcome, Closed, Apart, Limit, At, StaysLive, HasSubsumer, TellsLive, LiveSubsumes, Entry, origins_in, arcs_in}
use Rattle.auto_core.specs.Pairs.{StatePair, set_of, set_after, IsPairOf, pair_after, PairSubsumes, PairFails, pair_of, IsReached, ArePairsPlaced}
use Rattle.auto_core.specs.ClosedPairs.{ClosedPairs}
use Rattle.auto_core.specs.PairOutcome.{pair_entry, pair_rules, PairSearchEnds, ArePairsListed, NoPairSubsumedBefore}
use Rattle.auto_core.specs.declared.parts.Trans.{Trans}
use Rattle.auto_core.specs.declared.parts.Origin.{Origin}
use Rattle.auto_core.specs.declared.parts.Mode.TheVariants.{Finite}

-- The set of a word with one letter more is that after the letter.
abbrev pub SetsExtend : Type 0
SetsExtend =
    (B : Automaton) (w : List ℕ) (a q : ℕ) → set_of B (w ++ a ∷ []) q ↔ set_after B (set_of B w) a q

-- The pair of a reached arc is one of its word.
abbrev pub ReachedPairsAreReal : Type 0
ReachedPairsAreReal =
    (A B : Automaton) (x : WordArc) → IsReached A x → IsPairOf A B x.word (pair_of B x)

-- A pair with any set: of the states for which the function gives true.
abbrev pub marked_pair : ℕ → (ℕ → Bool) → StatePair
marked_pair p mark = record { state = p; set = λ q. mark q ≡ true }

-- Where one pair subsumes another by a list that is stable forward at lookahead 1, it does so after
-- both are extended by the same transition.
abbrev pub PairSubsumptionIsKept : Type 0
PairSubsumptionIsKept =
    (B : Automaton) (S : List (ℕ × ℕ)) → StableForward B 1 S
    → (p r : ℕ) (v w : ℕ → Bool) (t : Trans) →
    PairSubsumes (Holds S) (marked_pair p v) (marked_pair r w) →
    PairSubsumes (Holds S) (pair_after B (marked_pair p v) t) (pair_after B (marked_pair r w) t)

-- If there is a closed set of pairs, B accepts each word that A accepts. The list S need be neither
-- reflexive nor transitive.
abbrev pub ClosedPairsInclude : Type 0
ClosedPairsInclude =
    (A B : Automaton) (S : List (ℕ × ℕ)) (arcs : List WordArc) (live : ℕ → Bool)
    → ClosedPairs A B S arcs live → Includes A B Finite

-- A pair that fails has a word that A accepts and B does not.
abbrev pub FailingPairSeparates : Type 0
FailingPairSeparates =
    (A B : Automaton) (x : WordArc) → IsReached A x → PairFails A B (pair_of B x)
    → SeparatesWord A B x.word

-- Each arc of origins that are placed is reached.
abbrev pub PlacedPairsAreReached : Type 0
PlacedPairsAreReached =
    (A : Automaton) (origins : List Origin) → ArePairsPlaced A origins → (e : ℕ)
    → e < length origins → IsReached A (arc_at A (arcs_of A origins) e)

-- The search ends in one way.
abbrev pub OnePairOutcome : Type 0
OnePairOutcome =
    (A B : Automaton) (S : List (ℕ × ℕ)) (limit : ℕ) (o p : Outcome Entry)
    → PairSearchEnds A B S limit o → PairSearchEnds A B S limit p → o ≡ p

-- The origins of the elements fit, and the arcs that they make are those of the elements.
pub record HavePairOrigins (A : Automaton) (es : List Entry) : Type 0 where
  pub placed : ArePairsPlaced A (origins_in es)
  pub arcs : arcs_of A (origins_in es) ≡ arcs_in es

-- That is so for each closed list, and for each that is longer than the limit.
abbrev pub PairOriginsFit : Type 0
PairOriginsFit = (A B : Automaton) (S : List (ℕ × ℕ)) (limit : ℕ) (es : List Entry) →
    (PairSearchEnds A B S limit (Closed es) → HavePairOrigins A es)
    × (PairSearchEnds A B S limit (Limit es) → HavePairOrigins A es)

-- A closed list is a closed set of pairs: the flags may be any that tell which of its elements are
-- live.
abbrev pub ClosedListIsClosedPairs : Type 0
ClosedListIsClosedPairs =
    (A B : Automaton) (S : List (ℕ × ℕ)) (limit : ℕ) (es : List Entry) (live : ℕ → Bool)
    → IsAutomaton B → IsGreatestForward B 1 S →
    PairSearchEnds A B S limit (Closed es) → TellsLive (pair_rules A B S) es live
    → ClosedPairs A B S (arcs_in es) live

-- So the second automaton accepts each word that the first accepts.
abbrev pub ClosedListIncludesWords : Type 0
ClosedListIncludesWords =
    (A B : Automaton) (S : List (ℕ × ℕ)) (limit : ℕ) (es : List Entry) (live : ℕ → Bool)
    → IsAutomaton B → IsGreatestForward B 1 S →
    PairSearchEnds A B S limit (Closed es) → TellsLive (pair_rules A B S) es live
    → Includes A B Finite

-- No live element of a closed list subsumes another.
abbrev pub LivePairsStandApart : Type 0
LivePairsStandApart =
    (A B : Automaton) (S : List (ℕ × ℕ)) (limit : ℕ) (es : List Entry)
    → PairSearchEnds A B S limit (Closed es) →
    (i j : ℕ) (x y : Entry) → (i ≡ j → ⊥) → At es i x → At es j y
    → StaysLive (pair_rules A B S) es i → StaysLive (pair_rules A B S) es j →
    PairSubsumes (Holds S) (pair_entry B x) (pair_entry B y) → ⊥

-- The element that the search tells apart is alone in its pair, and its word is one that the first
-- automaton accepts and the second does not.
abbrev pub ApartSeparatesWord : Type 0
ApartSeparatesWord =
    (A B : Automaton) (S : List (ℕ × ℕ)) (limit : ℕ) (x y : Entry)
    → PairSearchEnds A B S limit (Apart x y) → (x ≡ y) × SeparatesWord A B x.arc.word

-- A list that is longer than the limit has limit + 1 elements, whose pairs are pairwise different,
-- and none is subsumed by an earlier one.
abbrev pub LimitListsPairs : Type 0
LimitListsPairs =
    (A B : Automaton) (S : List (ℕ × ℕ)) (limit : ℕ) (es : List Entry) → IsAutomaton B
    → IsGreatestForward B 1 S →
    PairSearchEnds A B S limit (Limit es)
    → ArePairsListed A B (limit + 1) (origins_in es)
    × NoPairSubsumedBefore A B S (origins_in es)

-- Some element of a list subsumes x just where some live one does.
abbrev pub LivePairsAreEnough : Type 0
LivePairsAreEnough =
    (A B : Automaton) (S : List (ℕ × ℕ)) (es : List Entry) (live : ℕ → Bool) (x : Entry)
    → IsGreatestForward B 1 S →
    TellsLive (pair_rules A B S) es live →
    HasSubsumer (pair_rules A B S) es x ↔ ((i : ℕ) × LiveSubsumes (pair_rules A B S) es x i)
