-- The evidence of a closed list of elements, by the rules of its search.
use Rattle.std.specs.Prelude.{◌≡◌, ℕ, ◌<◌, Bool, true, List, length, map, filter, slice_index_or}
use Rattle.std.specs.List.{range_with_len}
use Rattle.auto_core.specs.Automaton.{Automaton}
use Rattle.auto_core.specs.Graph.{arc_at, arcs_of}
use Rattle.auto_core.specs.declared.parts.Origin.{Origin}
use Rattle.auto_core.specs.declared.parts.Origin.TheVariants.{Start}
use Rattle.auto_core.specs.Outcome.{Rules, At, Entry, StaysLive, IsDropped, IsLeastSubsumer, origins_in}
use Rattle.cert_value.specs.declared.types.Element.{Element}
use Rattle.cert_value.specs.declared.types.Mark.{Mark}
use Rattle.cert_value.specs.declared.types.Mark.TheVariants.{Live, Under}
use Rattle.cert_value.specs.declared.types.StepLine.{StepLine}
use Rattle.cert_value.specs.WellFormed.{is_live}
use Rattle.evidence.specs.declared.parts.Closure.{Closure}

-- The mark of the element at the place: live where it stays so, and otherwise under the least live
-- one that subsumes it.
abbrev pub IsMarked : Rules Entry → List Entry → ℕ → Entry → Mark → Type 0
IsMarked R es i x Live = StaysLive R es i
IsMarked R es i x (Under j) = IsDropped R es i × IsLeastSubsumer R es x j

-- Which elements are marked as live.
abbrev pub marked_live : List Element → ℕ → Bool
marked_live elements i =
    is_live (slice_index_or (map (λ (x : Element). x.mark) elements) i (Under 0))

-- The numbers are those of the least live subsumers of the candidates, in order.
pub record AreLeastSubsumers (R : Rules Entry) (es candidates : List Entry)
    (numbers : List ℕ) : Type 0 where
  pub size : length numbers ≡ length candidates
  pub each : (k j : ℕ) (c : Entry) → At candidates k c → At numbers k j → IsLeastSubsumer R es c j

-- The step line has the least live subsumers of the extensions of its element, in order.
pub record IsStepOf (R : Rules Entry) (es : List Entry) (line : StepLine) : Type 0 where
  pub element : Entry
  pub is : At es line.element element
  pub by : AreLeastSubsumers R es (R.extensions line.element element) line.by

-- The closure is that of these elements: their origins and marks, the least live subsumers of the
-- candidates of the start, and a step line for each live element, in order.
pub record IsEvidenceOf (R : Rules Entry) (es : List Entry) (c : Closure) : Type 0 where
  pub origins : map (λ (x : Element). x.origin) c.elements ≡ origins_in es
  pub marks : (i : ℕ) (x : Entry) (m : Element) → At es i x → At c.elements i m
      → IsMarked R es i x m.mark
  pub cover : AreLeastSubsumers R es R.starts c.cover
  pub lines : map (λ (l : StepLine). l.element) c.steps
      ≡ filter (marked_live c.elements) (range_with_len 0 (length es))
  pub steps : (k : ℕ) (l : StepLine) → At c.steps k l → IsStepOf R es l

-- The element of the origin at the place.
abbrev pub entry_at : Automaton → List Origin → ℕ → Entry
entry_at A origins e =
    record { origin = slice_index_or origins e Start; arc = arc_at A (arcs_of A origins) e }

-- No live one of the origins' elements subsumes another.
abbrev pub LiveStandApart : Rules Entry → Automaton → List Origin → (ℕ → Bool) → Type 0
LiveStandApart R A origins live =
    (i j : ℕ) → i < length origins → j < length origins → (i ≡ j → ⊥) → live i ≡ true
    → live j ≡ true → R.subsumes (entry_at A origins i) (entry_at A origins j) → ⊥
