-- Transitions that leave one state by one letter.
use Rattle.std.specs.Prelude.{◌≡◌}
use Rattle.auto_core.specs.declared.parts.Trans.{Trans}

-- Both transitions leave one state by one letter.
abbrev pub AreAlike : Trans → Trans → Type 0
AreAlike t u = (t.source ≡ u.source) × (t.label ≡ u.label)
