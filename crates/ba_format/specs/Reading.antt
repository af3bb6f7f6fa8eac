-- What it means that a text reads as an automaton with names and labels.
use Rattle.std.specs.Prelude.{◌≡◌, ℕ, ◌≤◌, List, length, None}
use Rattle.auto_core.specs.Automaton.{Automaton}
use Rattle.auto_core.specs.Build.{IsBuilt}
use Rattle.ba_format.specs.declared.parts.Limits.{Limits}
use Rattle.ba_format.specs.declared.parts.Named.{Named}
use Rattle.ba_format.specs.Grammar.{LineContent}
use Rattle.ba_format.specs.Faults.{names_of, labels_of, initial_of, transitions_of, accepting_of, fault_of, contents_of}

-- The automaton is built from what the lines bring.
abbrev pub IsAutomatonOf : List LineContent → Automaton → Type 0
IsAutomatonOf entries =
    IsBuilt (length (names_of entries)) (length (labels_of entries)) (initial_of entries)
    (transitions_of entries) (accepting_of entries)

-- What lines that have no fault say: the names and the labels in the order of first sight, and the
-- automaton in their numbers.
pub record IsReading (entries : List LineContent) (named : Named) : Type 0 where
  pub names : named.names ≡ names_of entries
  pub labels : named.labels ≡ labels_of entries
  pub auto : IsAutomatonOf entries named.auto

-- The text has no fault within the limits, and reads as this.
pub record Reads (text : List ℕ) (limits : Limits) (named : Named) : Type 0 where
  pub no_fault : fault_of text limits ≡ None
  pub reading : IsReading (contents_of text) named

-- Each state has a name and each label a text, and there are no more of them, nor of the
-- transitions, than the limits say.
pub record IsWithinLimits (limits : Limits) (named : Named) : Type 0 where
  pub states_named : named.auto.states ≡ length named.names
  pub labels_named : named.auto.labels ≡ length named.labels
  pub states : named.auto.states ≤ limits.states
  pub labels : named.auto.labels ≤ limits.labels
  pub transitions : length named.auto.transitions ≤ limits.transitions
