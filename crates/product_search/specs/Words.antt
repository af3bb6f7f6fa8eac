-- The words by which pairs were found.
use Rattle.std.specs.Prelude.{◌≡◌, ℕ, ◌<◌, List, [], ◌∷◌, reverse}
use Rattle.product_search.specs.declared.found.Step.{Step}
use Rattle.product_search.specs.Found.{step_at}

-- These are the letters of the steps back from the pair with one number to that with another.
abbrev pub IsSpelledBack : List Step → ℕ → List ℕ → ℕ → Type 0
IsSpelledBack steps i [] j = i ≡ j
IsSpelledBack steps i (a ∷ letters) j =
    (0 < i) × (a ≡ (step_at steps i).letter) × IsSpelledBack steps (step_at steps i).from letters j

-- The word is that of the steps from the first pair to the one with this number.
abbrev pub IsWordTo : List Step → ℕ → List ℕ → Type 0
IsWordTo steps i word =
    (letters : List ℕ) × (word ≡ reverse letters) × IsSpelledBack steps i letters 0
