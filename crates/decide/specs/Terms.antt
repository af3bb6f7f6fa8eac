-- What a decision is asked for beside the two automata: the mode, how far the games of the
-- reductions look, the version of the certificate, and the limit of the search.
use Rattle.std.specs.Prelude.{◌≡◌, ℕ, ◌≤◌, ◌⊎◌}
use Rattle.auto_core.specs.declared.parts.Mode.{Mode}
use Rattle.reduce_loop.specs.declared.steps.Foresight.{Foresight}
use Rattle.decide.specs.declared.terms.Terms.{Terms}

-- The terms with this mode, lookahead and limit in version 1, where one letter is asked for.
abbrev pub terms_of_version_1 : Mode → ℕ → ℕ → Terms
terms_of_version_1 mode look limit =
    record { mode = mode; look = look; letters = 1; version = 1; limit = limit }

-- The terms in version 2, where so many letters are asked for.
abbrev pub terms_of_version_2 : Mode → ℕ → ℕ → ℕ → Terms
terms_of_version_2 mode look letters limit =
    record { mode = mode; look = look; letters = letters; version = 2; limit = limit }

-- How far the games of the reductions look.
abbrev pub sight_of : Terms → Foresight
sight_of terms = record { look = terms.look; letters = terms.letters }

-- In version 1 one letter is asked for.
abbrev pub IsVersioned : Terms → Type 0
IsVersioned terms = ((terms.version ≡ 1) × (terms.letters ≡ 1)) ⊎ (terms.version ≡ 2)

-- The lookahead is 1 to 6, the letters asked for are 1 to 4 and fit the version, and the limit is
-- at most 100,000.
pub record AreBounded (terms : Terms) : Type 0 where
  pub look_from : 1 ≤ terms.look
  pub look_upto : terms.look ≤ 6
  pub letters_from : 1 ≤ terms.letters
  pub letters_upto : terms.letters ≤ 4
  pub versioned : IsVersioned terms
  pub few : terms.limit ≤ 100000
