-- Origins that name what there is.
use Rattle.std.specs.Prelude.{ℕ, ◌<◌, List, length, slice_index_or}
use Rattle.auto_core.specs.Automaton.{Automaton}
use Rattle.auto_core.specs.Graph.{arcs_of, arc_at}
use Rattle.auto_core.specs.declared.parts.Origin.{Origin}
use Rattle.auto_core.specs.declared.parts.Origin.TheVariants.{Start, Base, Next}

-- What the origin at the place e names is there: its transition is one of the automaton, and its
-- element is a lesser one.
abbrev pub NamesWhatIsThere : Automaton → ℕ → Origin → Type 0
NamesWhatIsThere A e Start = Unit {0}
NamesWhatIsThere A e (Base t) = t < length A.transitions
NamesWhatIsThere A e (Next p t) = (p < e) × (t < length A.transitions)

-- That is so for each of the origins.
abbrev pub NameWhatIsThere : Automaton → List Origin → Type 0
NameWhatIsThere A origins =
    (e : ℕ) → e < length origins → NamesWhatIsThere A e (slice_index_or origins e Start)

-- The word of the element: its letters from the first on.
abbrev pub word_at : Automaton → List Origin → ℕ → List ℕ
word_at A origins e = (arc_at A (arcs_of A origins) e).word
