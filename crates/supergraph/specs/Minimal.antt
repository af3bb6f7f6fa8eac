-- Graphs in which no arc stands for another of the same row.
use Rattle.std.specs.Prelude.{◌≡◌, ℕ, ◌*◌, ◌<◌, ◌↔◌, false, List}
use Rattle.auto_core.specs.Rows.{cell_of}
use Rattle.auto_core.specs.Graph.{Graph, IsGraph, Covers}

-- Each graph covers the other.
pub record CoverEachOther (S : ℕ → ℕ → Type 0) (g h : Graph) : Type 0 where
  pub forth : Covers S g h
  pub back : Covers S h g

-- Each arc of the part is one of the whole, with the same value.
pub record IsPartOf (part whole : Graph) : Type 0 where
  pub joined : (s t : ℕ) → part.joined s t → whole.joined s t
  pub past : (s t : ℕ) → part.joined s t → part.past s t ↔ whole.past s t

-- The arc of g from s to t is dominated: another arc from s, of at least its value, leads to a
-- state that S relates t to.
pub record IsDominated (S : ℕ → ℕ → Type 0) (g : Graph) (s t : ℕ) : Type 0 where
  pub other : ℕ
  pub differs : ¬ (other ≡ t)
  pub arc : g.joined s other
  pub related : S t other
  pub value : g.past s t → g.past s other

-- No arc of g is dominated.
abbrev pub IsMinimal : (ℕ → ℕ → Type 0) → Graph → Type 0
IsMinimal S g = (s t : ℕ) → g.joined s t → IsDominated S g s t → ⊥

-- Arcs of the old graph were left out, each of them for another arc that covers it.
pub record IsLessened (S : ℕ → ℕ → Type 0) (old new : Graph) : Type 0 where
  pub graph : IsGraph new
  pub part : IsPartOf new old
  pub covers : Covers S old new

-- The new table is the old one without this cell.
pub record IsWithout (width row target : ℕ) (old new : List ℕ) : Type 0 where
  pub here : cell_of new width row target ≡ false
  pub others : (r s : ℕ) → s < width * 64 → ¬ ((r ≡ row) × (s ≡ target))
      → cell_of new width r s ≡ cell_of old width r s
