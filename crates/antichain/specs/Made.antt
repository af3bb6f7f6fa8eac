-- The sets that letters lead to, as the search remembers them.
use Rattle.std.specs.Prelude.{◌≡◌, ℕ, ◌↔◌, ◌⊎◌, List, [], ◌∷◌, ◌++◌}
use Rattle.auto_core.specs.Automaton.{Automaton}
use Rattle.auto_core.specs.Game.{Holds}
use Rattle.auto_core.specs.Rows.{HasBit}
use Rattle.auto_core.specs.Outcome.{At}
use Rattle.auto_core.specs.Pairs.{set_after}
use Rattle.set_rows.specs.Sets.{IsRow, IsSubset, IsCovered}
use Rattle.antichain.specs.declared.sets.Made.{Made}

-- The rows are those of what the letter leads to from the set, and of what S relates to a member of
-- that.
pub record IsMade (B : Automaton) (S : List (ℕ × ℕ)) (m : Made) : Type 0 where
  pub row : IsRow B.states m.members.items
  pub below : IsRow B.states m.below.items
  pub members : (q : ℕ) → HasBit m.members.items q ↔ set_after B (HasBit m.from.items) m.label q
  pub covering : (other : List ℕ)
      → IsSubset other m.below.items ↔ IsCovered (Holds S) other m.members.items

-- All that is remembered is so.
abbrev pub AreMade : Automaton → List (ℕ × ℕ) → List Made → Type 0
AreMade B S made = (k : ℕ) (m : Made) → At made k m → IsMade B S m

-- What is remembered with this number is for this letter and this set.
pub record IsRemembered (made : List Made) (label : ℕ) (from : List ℕ) (number : ℕ) : Type 0 where
  pub element : Made
  pub is : At made number element
  pub label_is : element.label ≡ label
  pub from_is : element.from.items ≡ from

-- The set was remembered with this number, behind all the others or none of them.
pub record HasRemembered (m : Made) (old now : List Made) (number : ℕ) : Type 0 where
  pub is : At now number m
  pub others : (now ≡ old ++ m ∷ []) ⊎ (now ≡ m ∷ [])
