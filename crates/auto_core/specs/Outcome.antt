-- The outcome of a search: elements enter one after another until none is left to enter, two of
-- them fail, or too many have entered. It is told over elements of any kind, by rules that a search
-- gives for them; the search for a closed set of supergraphs is the one at the end of this file.
use Rattle.std.specs.Prelude.{◌≡◌, ℕ, suc, ◌<◌, ◌≤◌, ◌⊎◌, Bool, true, false, ◌==◌, List, [], ◌∷◌, ◌++◌, length, map, filter, Some}
use Rattle.std.specs.List.{slice_get, range_with_len}
use Rattle.auto_core.specs.Automaton.{Automaton, trans_at}
use Rattle.auto_core.specs.Game.{Holds}
use Rattle.auto_core.specs.Graph.{SameGraph, Supergraph, Subsumes, Passes, Fails, WordArc, super_of, base_arc, extended_arc, arc_at, arcs_of, ArePlaced}
use Rattle.auto_core.specs.declared.parts.Origin.{Origin}
use Rattle.auto_core.specs.declared.parts.Origin.TheVariants.{Base, Next}

-- What a search goes by: when one element subsumes another, when a pair of elements passes and when
-- it fails, the candidates at the start, and those that come from an element and its number.
pub record Rules (E : Type 0) : Type 1 where
  pub subsumes : E → E → Type 0
  pub passes : E → E → Type 0
  pub fails : E → E → Type 0
  pub starts : List E
  pub extensions : ℕ → E → List E

-- How a search ends: with a closed set, which is the list of its elements; with a pair of elements
-- that fails; or with a list that has one element more than the limit.
pub data Outcome (E : Type 0) : Type 0 where
  Closed : List E → Outcome E
  Apart : E → E → Outcome E
  Limit : List E → Outcome E

-- The list has this element at the place.
abbrev pub At : {E : Type 0} → List E → ℕ → E → Type 0
At es i x = slice_get es i ≡ Some x

-- No later element of the list subsumes the one at the place.
abbrev pub StaysLive : {E : Type 0} → Rules E → List E → ℕ → Type 0
StaysLive {E} R es i = (j : ℕ) (x y : E) → i < j → At es i x → At es j y → R.subsumes y x → ⊥

-- A later element of the list subsumes the one at the place.
pub record IsDropped {E : Type 0} (R : Rules E) (es : List E) (i : ℕ) : Type 0 where
  pub place : ℕ
  pub element : E
  pub by : E
  pub later : i < place
  pub is : At es i element
  pub by_is : At es place by
  pub subsumes : R.subsumes by element

-- Some element of the list subsumes x, or none does.
abbrev pub HasSubsumer : {E : Type 0} → Rules E → List E → E → Type 0
HasSubsumer {E} R es x = (i : ℕ) × (y : E) × At es i y × R.subsumes y x

abbrev pub HasNoSubsumer : {E : Type 0} → Rules E → List E → E → Type 0
HasNoSubsumer {E} R es x = (i : ℕ) (y : E) → At es i y → R.subsumes y x → ⊥

-- Each live element before the place passes with x, as the second of the pair and as the first.
abbrev pub PassesBefore : {E : Type 0} → Rules E → List E → E → ℕ → Type 0
PassesBefore {E} R es x place =
    (i : ℕ) (y : E) → i < place → At es i y → StaysLive R es i → R.passes x y × R.passes y x

-- The first pair that fails of those of the new element and a live one, which may be the new one
-- itself: the live ones are taken in order, and for each first the pair with the new element before
-- it, then the pair with the new element behind it.
pub record FirstFailing {E : Type 0} (R : Rules E) (es : List E)
    (new first second : E) : Type 0 where
  pub place : ℕ
  pub other : E
  pub is : At es place other
  pub live : StaysLive R es place
  pub before : PassesBefore R es new place
  pub fails :
      ((first ≡ new) × (second ≡ other) × R.fails new other)
      ⊎ ((first ≡ other) × (second ≡ new) × R.passes new other × R.fails other new)

-- The search ends so, from these elements on, with these candidates left, and then the turns of the
-- elements from this number on. A candidate that an element subsumes is passed over. Otherwise it
-- is added at the end of the list. If the list is then longer than the limit, the search ends; if a
-- pair of live elements with the new one fails, it ends with the first such pair. With no candidate
-- left an element has its turn: if it is live, its extensions are the next candidates. After the
-- last turn the list is closed.
pub data Comes (E : Type 0) (R : Rules E) (limit : ℕ) : List E → List E → ℕ → Outcome E
    → Type 0 where
  passed_over : {es : List E} {c : E} {cs : List E} {turn : ℕ} {o : Outcome E} →
      HasSubsumer R es c → Comes E R limit es cs turn o → Comes E R limit es (c ∷ cs) turn o
  limit_met : {es : List E} {c : E} {cs : List E} {turn : ℕ} {o : Outcome E} →
      HasNoSubsumer R es c → length es ≡ limit → o ≡ Limit (es ++ c ∷ [])
      → Comes E R limit es (c ∷ cs) turn o
  told_apart : {es : List E} {c : E} {cs : List E} {turn : ℕ} {o : Outcome E} → (first second : E) →
      HasNoSubsumer R es c → length es < limit → FirstFailing R (es ++ c ∷ []) c first second
      → o ≡ Apart first second →
      Comes E R limit es (c ∷ cs) turn o
  entered : {es : List E} {c : E} {cs : List E} {turn : ℕ} {o : Outcome E} →
      HasNoSubsumer R es c → length es < limit
      → PassesBefore R (es ++ c ∷ []) c (length (es ++ c ∷ [])) →
      Comes E R limit (es ++ c ∷ []) cs turn o → Comes E R limit es (c ∷ cs) turn o
  turn_of_live : {es : List E} {turn : ℕ} {o : Outcome E} → (x : E) →
      At es turn x → StaysLive R es turn → Comes E R limit es (R.extensions turn x) (suc turn) o
      → Comes E R limit es [] turn o
  turn_of_dropped : {es : List E} {turn : ℕ} {o : Outcome E} →
      IsDropped R es turn → Comes E R limit es [] (suc turn) o → Comes E R limit es [] turn o
  done : {es : List E} {turn : ℕ} {o : Outcome E} →
      length es ≤ turn → o ≡ Closed es → Comes E R limit es [] turn o

-- The whole search ends so: it begins with no element, with the candidates of the start.
abbrev pub ComesOut : {E : Type 0} → Rules E → ℕ → Outcome E → Type 0
ComesOut {E} R limit o = Comes E R limit [] R.starts 0 o

-- The flags tell which elements of the list are live, and those that are not have a later one that
-- subsumes them.
pub record TellsLive {E : Type 0} (R : Rules E) (es : List E) (live : ℕ → Bool) : Type 0 where
  pub stays : (i : ℕ) → i < length es → live i ≡ true → StaysLive R es i
  pub drops : (i : ℕ) → i < length es → live i ≡ false → IsDropped R es i

-- The live element at the place subsumes x.
pub record LiveSubsumes {E : Type 0} (R : Rules E) (es : List E) (x : E) (i : ℕ) : Type 0 where
  pub element : E
  pub is : At es i element
  pub live : StaysLive R es i
  pub subsumes : R.subsumes element x

-- It is the least one that does.
pub record IsLeastSubsumer {E : Type 0} (R : Rules E) (es : List E) (x : E) (i : ℕ) : Type 0 where
  pub here : LiveSubsumes R es x i
  pub least : (j : ℕ) → j < i → LiveSubsumes R es x j → ⊥

-- An element of a search, of that over supergraphs and of that on finite words: where it comes
-- from, and its arc with its whole word.
pub record Entry : Type 0 where
  pub origin : Origin
  pub arc : WordArc

-- The supergraph of the element: the graph is that of the whole word.
abbrev pub super_entry : Automaton → Entry → Supergraph
super_entry B x = super_of B x.arc

-- The candidate of the transition with this number, and that of the element with number e extended
-- by it.
abbrev pub base_entry : Automaton → ℕ → Entry
base_entry A t = record { origin = Base t; arc = base_arc A (trans_at A t) }

abbrev pub next_entry : Automaton → ℕ → Entry → ℕ → Entry
next_entry A e x t = record { origin = Next e t; arc = extended_arc A x.arc (trans_at A t) }

-- The numbers of the transitions, and of those out of a state, ascending.
abbrev pub all_steps : Automaton → List ℕ
all_steps A = range_with_len 0 (length A.transitions)

abbrev pub steps_out : Automaton → ℕ → List ℕ
steps_out A p = filter (λ t. (trans_at A t).source == p) (all_steps A)

-- The search for a closed set of supergraphs of A and B, ordered by S: it begins with each
-- transition as a supergraph of one letter, extends an element by each transition out of its end,
-- and tests pairs by their lassos.
abbrev pub supergraph_rules : Automaton → Automaton → List (ℕ × ℕ) → Rules Entry
supergraph_rules A B S = record {
  subsumes = λ x y. Subsumes (Holds S) (super_entry B x) (super_entry B y);
  passes = λ x y. Passes A B (super_entry B x) (super_entry B y);
  fails = λ x y. Fails A B (super_entry B x) (super_entry B y);
  starts = map (base_entry A) (all_steps A);
  extensions = λ e x. map (next_entry A e x) (steps_out A x.arc.to);
}

-- The search over supergraphs with this limit ends so.
abbrev pub SearchEnds : Automaton → Automaton → List (ℕ × ℕ) → ℕ → Outcome Entry → Type 0
SearchEnds A B S limit o = ComesOut (supergraph_rules A B S) limit o

-- The origins and the arcs of a list of elements.
abbrev pub origins_in : List Entry → List Origin
origins_in es = map (λ x. x.origin) es

abbrev pub arcs_in : List Entry → List WordArc
arcs_in es = map (λ x. x.arc) es

-- Both supergraphs have the same ends and the same flag, and their graphs give each pair of states
-- the same value.
pub record SameSupergraph (x y : Supergraph) : Type 0 where
  pub from : x.from ≡ y.from
  pub to : x.to ≡ y.to
  pub flag : x.flag ≡ y.flag
  pub graph : SameGraph x.graph y.graph

-- The supergraph of the origin at the place: the arc that its transitions make, with the graph of
-- their word.
abbrev pub super_at : Automaton → Automaton → List Origin → ℕ → Supergraph
super_at A B origins e = super_of B (arc_at A (arcs_of A origins) e)

-- The origins are so many, each names transitions and earlier ones that fit, and their supergraphs
-- are pairwise different.
pub record AreListed (A B : Automaton) (count : ℕ) (origins : List Origin) : Type 0 where
  pub size : length origins ≡ count
  pub placed : ArePlaced A origins
  pub differ : (i j : ℕ) → i < j → j < length origins
      → SameSupergraph (super_at A B origins i) (super_at A B origins j) → ⊥

-- No origin's supergraph is subsumed by that of an earlier one.
abbrev pub NoneSubsumedBefore : Automaton → Automaton → List (ℕ × ℕ) → List Origin → Type 0
NoneSubsumedBefore A B S origins =
    (i j : ℕ) → i < j → j < length origins
    → Subsumes (Holds S) (super_at A B origins i) (super_at A B origins j) → ⊥
