-- The law of texts.
use Rattle.std.specs.Prelude.{◌≡◌, ℕ, List, [], ◌++◌}
use Rattle.cert_text.specs.declared.cross.Cross.{Cross}
use Rattle.cert_text.specs.CrossText.{CrossFormed, cross_text}

-- No text of a cross relation is a proper front of another's, and different cross relations have
-- different texts.
abbrev pub OneCrossText : Type 0
OneCrossText =
    (c d : Cross) (more : List ℕ) → CrossFormed c → CrossFormed d
    → cross_text c ++ more ≡ cross_text d → (more ≡ []) × (c ≡ d)
