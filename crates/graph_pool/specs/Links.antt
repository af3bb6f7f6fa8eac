-- The list of the blocks that were given back.
use Rattle.std.specs.Prelude.{ℕ, Bool, true, false, ◌≡◌, ◌≢◌, ◌+◌, List, [], ◌∷◌, get_or}

-- h is none of the handles.
abbrev pub IsNoneOf : ℕ → List ℕ → Type 0
IsNoneOf h [] = Unit
IsNoneOf h (g ∷ gs) = (g ≢ h) × IsNoneOf h gs

-- The link leads through the blocks hs, none of which is live. A link is a handle and 1 more, or 0
-- at the end; the next one is the first word of the block.
abbrev pub IsChain : List (List ℕ) → List Bool → ℕ → List ℕ → Type 0
IsChain bs ms next [] = next ≡ 0
IsChain bs ms next (h ∷ hs) =
    (next ≡ h + 1) × (get_or ms h true ≡ false) × IsNoneOf h hs
    × IsChain bs ms (get_or (get_or bs h []) 0 0) hs
