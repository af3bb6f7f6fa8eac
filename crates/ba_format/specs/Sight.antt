-- Things numbered in the order in which they are first seen.
use Rattle.std.specs.Prelude.{◌≡◌, ℕ, ◌^◌, ◌<◌, Bool, List, [], ◌∷◌, ◌++◌, fold, length, if◌then◌else◌, ◌==◌}
use Rattle.std.specs.Cmp.Lexicographic.{pointwise}
use Rattle.std.specs.List.{list_any, position_or_len, AllPairs}

-- Whether two texts have the same bytes.
abbrev pub same_text : List ℕ → List ℕ → Bool
same_text = pointwise (λ a b. a == b)

module _ {X : Type 0} (same : X → X → Bool) where
  -- The things seen, with one more: it stays away if it was seen before.
  abbrev pub noted : List X → X → List X
  noted seen x = if list_any (same x) seen then seen else seen ++ x ∷ []

  -- Each thing once, in the order of first sight.
  abbrev pub first_seen : List X → List X
  first_seen xs = fold noted [] xs

  -- The number of a thing that was seen: its place.
  abbrev pub place_in : List X → X → ℕ
  place_in seen x = position_or_len (same x) seen

-- No two of the texts are the same.
abbrev pub AreDifferent : List (List ℕ) → Type 0
AreDifferent texts = AllPairs (λ a b. a ≡ b → ⊥) texts

-- A list of different texts that a u32 can number.
pub record AreTexts (texts : List (List ℕ)) : Type 0 where
  pub different : AreDifferent texts
  pub few : length texts < 2 ^ 32
