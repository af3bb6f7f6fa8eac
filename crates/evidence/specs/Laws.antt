-- What holds of the elements of any search.
use Rattle.std.specs.Prelude.{◌≡◌, List}
use Rattle.auto_core.specs.Automaton.{Automaton}
use Rattle.auto_core.specs.Outcome.{origins_in}
use Rattle.auto_core.specs.declared.parts.Origin.{Origin}
use Rattle.evidence.specs.Entries.{entries_of}

-- The elements of origins have these origins, in order.
abbrev pub EntriesHaveOrigins : Type 0
EntriesHaveOrigins =
    (A : Automaton) (origins : List Origin) → origins_in (entries_of A origins) ≡ origins
