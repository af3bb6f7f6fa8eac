-- The lists of the live elements between two states, and how they are kept.
use Rattle.std.specs.Prelude.{◌≡◌, ℕ, ◌<◌, ◌≤◌, List, [], length, map, slice_index_or, Vec}
use Rattle.std.specs.declared.alloc.Global.{Global}
use Rattle.evidence.specs.Tables.{numbers_at}
use Rattle.ramsey_search.specs.declared.end_lists.EndLists.TheInside.{Inside}

-- The list of the pair with this number.
abbrev pub list_at : List (List ℕ) → ℕ → List ℕ
list_at lists k = slice_index_or lists k []

-- The pair has this list, and each other pair the same as before.
pub record HasPut (old new : List (List ℕ)) (pair : ℕ) (list : List ℕ) : Type 0 where
  pub size : length new ≡ length old
  pub here : list_at new pair ≡ list
  pub others : (k : ℕ) → (k ≡ pair → ⊥) → list_at new k ≡ list_at old k

-- The list of each pair, by its place.
abbrev pub lists_in : List (Vec ℕ Global) → List ℕ → List (List ℕ)
lists_in lists places = map (numbers_at lists) places

-- The list at place 0, that of the pairs without elements, is empty; each other list is that of at
-- most one pair.
pub record StandApart (lists : List (Vec ℕ Global)) (places : List ℕ) : Type 0 where
  pub some : 1 ≤ length lists
  pub none : numbers_at lists 0 ≡ []
  pub within : (k : ℕ) → k < length places → slice_index_or places k 0 < length lists
  pub apart : (k i : ℕ) → k < length places → i < length places → 1 ≤ slice_index_or places k 0
      → slice_index_or places k 0 ≡ slice_index_or places i 0 → k ≡ i

abbrev pub lists_of : Inside → List (List ℕ)
lists_of e = lists_in e.lists.items e.places.items

abbrev pub AreApart : Inside → Type 0
AreApart e = StandApart e.lists.items e.places.items
