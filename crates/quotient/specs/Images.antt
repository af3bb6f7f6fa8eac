-- Transitions between classes.
use Rattle.std.specs.Prelude.{ℕ, List}
use Rattle.auto_core.specs.Automaton.{trans}
use Rattle.auto_core.specs.Quotient.{class_of}
use Rattle.auto_core.specs.declared.parts.Trans.{Trans}

-- The transition from the class of its source to that of its target.
abbrev pub image : List ℕ → Trans → Trans
image classes t = trans (class_of classes t.source) t.label (class_of classes t.target)
