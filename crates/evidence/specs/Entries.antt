-- The elements that origins stand for.
use Rattle.std.specs.Prelude.{List, [], ◌∷◌, ◌++◌}
use Rattle.auto_core.specs.Automaton.{Automaton}
use Rattle.auto_core.specs.Graph.{arc_of}
use Rattle.auto_core.specs.Outcome.{Entry, arcs_in}
use Rattle.auto_core.specs.declared.parts.Origin.{Origin}

-- The element of the origin, behind these.
abbrev pub entry_of : Automaton → List Entry → Origin → Entry
entry_of A es o = record { origin = o; arc = arc_of A (arcs_in es) o }

-- These elements, and then those of the origins, each behind those before it.
abbrev pub entries_after : Automaton → List Entry → List Origin → List Entry
entries_after A es [] = es
entries_after A es (o ∷ os) = entries_after A (es ++ entry_of A es o ∷ []) os

-- The elements of the origins.
abbrev pub entries_of : Automaton → List Origin → List Entry
entries_of A os = entries_after A [] os
