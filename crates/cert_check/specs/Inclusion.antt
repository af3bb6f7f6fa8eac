-- What the rules ask of a certificate of inclusion after its logs, on the automata that these lead
-- to: of its relation, its elements, the elements over others, and the pairs of elements.
use Rattle.std.specs.Prelude.{◌≡◌, ℕ, ◌+◌, ◌<◌, ◌==◌, Bool, List, [], ◌∷◌, ◌++◌, length, map, All, slice_index, slice_index_or}
use Rattle.std.specs.List.{filter}
use Rattle.auto_core.specs.Automaton.{Automaton, trans_at}
use Rattle.auto_core.specs.Game.{Holds, StableForward}
use Rattle.auto_core.specs.Graph.{Subsumes, Passes, WordArc, super_of, start_arc, base_arc, extended_arc, arc_at, arcs_of}
use Rattle.auto_core.specs.Closed.{IsLive}
use Rattle.auto_core.specs.Pairs.{PairSubsumes, PairPasses, pair_of}
use Rattle.auto_core.specs.declared.parts.Mode.{Mode}
use Rattle.auto_core.specs.declared.parts.Mode.TheVariants.{Buchi, Finite}
use Rattle.auto_core.specs.declared.parts.Origin.{Origin}
use Rattle.auto_core.specs.declared.parts.Origin.TheVariants.{Start, Base, Next}
use Rattle.auto_core.specs.declared.parts.Trans.{Trans}
use Rattle.cert_value.specs.declared.types.YesBody.{YesBody}
use Rattle.cert_value.specs.declared.types.Element.{Element}
use Rattle.cert_value.specs.declared.types.Mark.{Mark}
use Rattle.cert_value.specs.declared.types.Mark.TheVariants.{Live, Under}
use Rattle.cert_value.specs.declared.types.StepLine.{StepLine}
use Rattle.cert_value.specs.WellFormed.{is_live}
use Rattle.log_check.specs.Checks.{RuleCheck, rule_at, checks_of_each}
use Rattle.log_check.specs.Blocks.{pairs_of, IsBlockBelow}

-- Where the elements come from.
abbrev pub origins_of : YesBody → List Origin
origins_of evidence = map (λ (e : Element). e.origin) evidence.elements

-- The arcs of the elements, each with its word.
abbrev pub element_arcs : Automaton → List Element → List WordArc
element_arcs A elements = arcs_of A (map (λ (e : Element). e.origin) elements)

-- Past the end there are no elements; what stands there is not live.
abbrev pub no_element : Element
no_element = record { mark = Under 0; origin = Start }

-- Whether the element with this number is live.
abbrev pub live_in : YesBody → ℕ → Bool
live_in evidence e = is_live (slice_index_or evidence.elements e no_element).mark

-- The origin names a transition of the automaton and, if it goes on from an element, one of the
-- elements, of which there are n.
abbrev pub NamesOrigin : Automaton → ℕ → Origin → Type 0
NamesOrigin A n Start = Unit {0}
NamesOrigin A n (Base t) = t < length A.transitions
NamesOrigin A n (Next p t) = (p < n) × (t < length A.transitions)

-- An element that is not live names one of the n elements.
abbrev pub NamesElement : ℕ → Mark → Type 0
NamesElement n Live = Unit {0}
NamesElement n (Under j) = j < n

-- The origin of the element e goes on from an earlier one.
abbrev pub HasEarlierParent : ℕ → Origin → Type 0
HasEarlierParent e Start = Unit {0}
HasEarlierParent e (Base t) = Unit {0}
HasEarlierParent e (Next p t) = p < e

-- Its transition leaves the state that the parent leads to.
abbrev pub GoesOn : Automaton → List WordArc → Origin → Type 0
GoesOn A arcs Start = Unit {0}
GoesOn A arcs (Base t) = Unit {0}
GoesOn A arcs (Next p t) = (trans_at A t).source ≡ (arc_at A arcs p).to

-- x subsumes y: the supergraph of the one that of the other, in finite mode the pair.
abbrev pub SubsumesIn : Mode → Automaton → List (ℕ × ℕ) → WordArc → WordArc → Type 0
SubsumesIn Buchi B S x y = Subsumes (Holds S) (super_of B x) (super_of B y)
SubsumesIn Finite B S x y = PairSubsumes (Holds S) (pair_of B x) (pair_of B y)

-- The element j is live, and it subsumes x by exactly the listed pairs.
abbrev pub IsOver : Mode → Automaton → Automaton → YesBody → ℕ → WordArc → Type 0
IsOver mode A B evidence j x =
    IsLive (element_arcs A evidence.elements) (live_in evidence) j
    × SubsumesIn mode B (pairs_of evidence.order)
    (arc_at A (element_arcs A evidence.elements) j) x

-- An element that is not live is under the one that it names.
abbrev pub IsUnder : Mode → Automaton → Automaton → YesBody → ℕ → Mark → Type 0
IsUnder mode A B evidence e Live = Unit {0}
IsUnder mode A B evidence e (Under j) =
    IsOver mode A B evidence j (arc_at A (element_arcs A evidence.elements) e)

-- There are as many elements named as there are arcs, each of them over the arc at its place.
pub record AreOver (mode : Mode) (A B : Automaton) (evidence : YesBody) (js : List ℕ)
    (xs : List WordArc) : Type 0 where
  pub count : length js ≡ length xs
  pub each : (i : ℕ) → i < length xs
      → IsOver mode A B evidence (slice_index js i) (slice_index_or xs i (start_arc A))

-- The arcs of one letter, in the order of the transitions.
abbrev pub starts_of : Automaton → List WordArc
starts_of A = map (base_arc A) A.transitions

-- The arcs that the cover is for: those of one letter, in finite mode the one of the empty word.
abbrev pub covered_in : Mode → Automaton → List WordArc
covered_in Buchi A = starts_of A
covered_in Finite A = start_arc A ∷ []

-- The arc's extensions by the transitions out of the state that it leads to, in their order.
abbrev pub extensions_of : Automaton → WordArc → List WordArc
extensions_of A x = map (extended_arc A x) (filter (λ (t : Trans). t.source == x.to) A.transitions)

-- The element, if it is live, passes with each live one.
abbrev pub PassesWithAll : Automaton → Automaton → YesBody → ℕ → Type 0
PassesWithAll A B evidence e =
    IsLive (element_arcs A evidence.elements) (live_in evidence) e → (f : ℕ)
    → IsLive (element_arcs A evidence.elements) (live_in evidence) f →
    Passes A B (super_of B (arc_at A (element_arcs A evidence.elements) e))
    (super_of B (arc_at A (element_arcs A evidence.elements) f))

-- The element, if it is live, passes: if its state is accepting, a member of its set is.
abbrev pub PassesAlone : Automaton → Automaton → YesBody → ℕ → Type 0
PassesAlone A B evidence e =
    IsLive (element_arcs A evidence.elements) (live_in evidence) e
    → PairPasses A B (pair_of B (arc_at A (element_arcs A evidence.elements) e))

-- What is asked of the live elements: their pairs pass, in finite mode each passes by itself.
abbrev pub PassesBy : Mode → Automaton → Automaton → YesBody → ℕ → Type 0
PassesBy Buchi A B evidence e = PassesWithAll A B evidence e
PassesBy Finite A B evidence e = PassesAlone A B evidence e

-- The numbers are those of elements.
abbrev pub AreElements : YesBody → List ℕ → Type 0
AreElements evidence js = All (λ j. j < length evidence.elements) js

-- The relation names states of the second automaton, and is stable forward at lookahead 1.
abbrev pub order_checks : Automaton → YesBody → ℕ → List RuleCheck
order_checks B evidence item =
    rule_at 1 item (IsBlockBelow B.states evidence.order)
    ∷ rule_at 9 item (StableForward B 1 (pairs_of evidence.order))
    ∷ []

-- What an element names is there, its parent stands before it, and its transition goes on from the
-- parent.
abbrev pub element_checks : Automaton → List Element → ℕ → ℕ → Element → List RuleCheck
element_checks A elements item e element =
    rule_at 1 (item + e)
    (NamesOrigin A (length elements) element.origin
    × NamesElement (length elements) element.mark)
    ∷ rule_at 10 (item + e) (HasEarlierParent e element.origin)
    ∷ rule_at 11 (item + e) (GoesOn A (element_arcs A elements) element.origin)
    ∷ []

-- It is under the element that it names.
abbrev pub under_checks : Mode → Automaton → Automaton → YesBody → ℕ → ℕ → Element → List RuleCheck
under_checks mode A B evidence item e element =
    rule_at 12 (item + e) (IsUnder mode A B evidence e element.mark) ∷ []

-- The cover names elements, and these are over the arcs that it is for.
abbrev pub cover_checks : Mode → Automaton → Automaton → YesBody → ℕ → List RuleCheck
cover_checks mode A B evidence item =
    rule_at 1 item (AreElements evidence evidence.cover)
    ∷ rule_at 13 item (AreOver mode A B evidence evidence.cover (covered_in mode A))
    ∷ []

-- A step line names elements, and these are over the extensions of its element.
abbrev pub step_checks : Mode → Automaton → Automaton → YesBody → ℕ → ℕ → StepLine → List RuleCheck
step_checks mode A B evidence item k step =
    rule_at 1 (item + k) ((step.element < length evidence.elements) × AreElements evidence step.by)
    ∷ rule_at 14 (item + k)
    (AreOver mode A B evidence step.by
    (extensions_of A (arc_at A (element_arcs A evidence.elements) step.element)))
    ∷ []

-- It passes.
abbrev pub pair_checks : Mode → Automaton → Automaton → YesBody → ℕ → ℕ → Element → List RuleCheck
pair_checks mode A B evidence item e element =
    rule_at 15 (item + e) (PassesBy mode A B evidence e) ∷ []

-- The items, from this number on: the relation, then each element, then the cover, then each step
-- line.
abbrev pub inclusion_checks : Mode → YesBody → ℕ → Automaton → Automaton → List RuleCheck
inclusion_checks mode evidence item A B =
    order_checks B evidence item
    ++ (checks_of_each (element_checks A evidence.elements (item + 1)) 0 evidence.elements
    ++ (checks_of_each (under_checks mode A B evidence (item + 1)) 0 evidence.elements
    ++ (cover_checks mode A B evidence (item + 1 + length evidence.elements)
    ++ (checks_of_each (step_checks mode A B evidence (item + 2 + length evidence.elements)) 0
    evidence.steps
    ++ checks_of_each (pair_checks mode A B evidence (item + 1)) 0 evidence.elements))))
