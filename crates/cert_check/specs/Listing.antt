-- What the rules ask of a list after its logs, on the automata that these lead to: of its elements,
-- of their number, and that they differ.
use Rattle.std.specs.Prelude.{◌≡◌, ℕ, ◌+◌, ◌<◌, List, [], ◌∷◌, ◌++◌, length, map}
use Rattle.auto_core.specs.Automaton.{Automaton}
use Rattle.auto_core.specs.Graph.{WordArc, super_of, arcs_of, arc_at, IsReal}
use Rattle.auto_core.specs.Outcome.{SameSupergraph, AreListed}
use Rattle.auto_core.specs.Pairs.{pair_of, IsReached}
use Rattle.auto_core.specs.PairOutcome.{SamePair, ArePairsListed}
use Rattle.auto_core.specs.declared.parts.Mode.{Mode}
use Rattle.auto_core.specs.declared.parts.Mode.TheVariants.{Buchi, Finite}
use Rattle.auto_core.specs.declared.parts.Origin.{Origin}
use Rattle.cert_value.specs.declared.types.Element.{Element}
use Rattle.cert_value.specs.declared.types.ListBody.{ListBody}
use Rattle.cert_value.specs.declared.types.Mark.TheVariants.{Live}
use Rattle.log_check.specs.Checks.{RuleCheck, rule_at, checks_of_each}
use Rattle.cert_check.specs.Inclusion.{element_arcs, element_checks}

-- The origins are so many, fit, and stand for pairwise different supergraphs, in finite mode pairs
-- of a state and a set.
abbrev pub AreListedIn : Mode → Automaton → Automaton → ℕ → List Origin → Type 0
AreListedIn Buchi A B count origins = AreListed A B count origins
AreListedIn Finite A B count origins = ArePairsListed A B count origins

-- The arc is that of a run over a word with a letter, in finite mode of a run from the initial
-- state.
abbrev pub IsRunIn : Mode → Automaton → WordArc → Type 0
IsRunIn Buchi A x = IsReal A x
IsRunIn Finite A x = IsReached A x

-- The origins are so many, fit, and stand for pairwise different supergraphs, in finite mode pairs
-- of a state and a set; the arc of each is that of a run of the first automaton.
pub record AreDifferentListed (mode : Mode) (A B : Automaton) (count : ℕ)
    (origins : List Origin) : Type 0 where
  pub listed : AreListedIn mode A B count origins
  pub real : (e : ℕ) → e < length origins → IsRunIn mode A (arc_at A (arcs_of A origins) e)

-- The origins of a list as elements, so that what is asked of the elements of a yes is asked of
-- them too. Their mark says nothing.
abbrev pub as_elements : List Origin → List Element
as_elements origins = map (λ origin. record { mark = Live; origin = origin }) origins

-- Both arcs give the same supergraph, in finite mode the same pair.
abbrev pub SameIn : Mode → Automaton → WordArc → WordArc → Type 0
SameIn Buchi B x y = SameSupergraph (super_of B x) (super_of B y)
SameIn Finite B x y = SamePair (pair_of B x) (pair_of B y)

-- No earlier element is the same as the one with this number.
abbrev pub DiffersFromEarlier : Mode → Automaton → Automaton → List Element → ℕ → Type 0
DiffersFromEarlier mode A B elements e =
    (d : ℕ) → d < e
    → SameIn mode B (arc_at A (element_arcs A elements) d) (arc_at A (element_arcs A elements) e)
    → ⊥

-- There is one element more than the limit.
abbrev pub count_checks : ListBody → ℕ → List RuleCheck
count_checks list item = rule_at 18 item (length list.elements ≡ list.limit + 1) ∷ []

-- It is the same as no earlier one.
abbrev pub difference_checks : Mode → Automaton → Automaton → List Element → ℕ → ℕ → Element
    → List RuleCheck
difference_checks mode A B elements item e element =
    rule_at 18 (item + e) (DiffersFromEarlier mode A B elements e) ∷ []

-- The items, from this number on: the limit, then each element. What each names is asked first,
-- then the number of elements, which is the item of the limit, and then that they differ.
abbrev pub listing_checks : Mode → ListBody → ℕ → Automaton → Automaton → List RuleCheck
listing_checks mode list item A B =
    checks_of_each (element_checks A (as_elements list.elements) (item + 1)) 0
    (as_elements list.elements)
    ++ (count_checks list item
    ++ checks_of_each (difference_checks mode A B (as_elements list.elements) (item + 1)) 0
    (as_elements list.elements))
