-- The elements of origins, as the origins grow.
use Rattle.std.proofs.Common.{◌≡◌, List, [], ◌∷◌, ◌++◌, refl, sym, ap, ◌∙◌, append_assoc, append-nil}
use Rattle.std.proofs.lemmas.List.{map-append}
use Rattle.auto_core.specs.Automaton.{Automaton}
use Rattle.auto_core.specs.Outcome.{Entry, origins_in}
use Rattle.auto_core.specs.declared.parts.Origin.{Origin}
use Rattle.evidence.specs.Entries.{entry_of, entries_after}
use Rattle.evidence.specs.Laws.{EntriesHaveOrigins}

pub entries_added : (A : Automaton) (es : List Entry) (os : List Origin) (o : Origin) → entries_after A es (os ++ o ∷ []) ≡ entries_after A es os ++ entry_of A (entries_after A es os) o ∷ []
entries_added A es [] o = refl
entries_added A es (x ∷ os) o = entries_added A (es ++ entry_of A es x ∷ []) os o

origins_after : (A : Automaton) (es : List Entry) (os : List Origin) → origins_in (entries_after A es os) ≡ origins_in es ++ os
origins_after A es [] = sym (append-nil (origins_in es))
origins_after A es (o ∷ os) =
    origins_after A (es ++ entry_of A es o ∷ []) os
    ∙ ap (λ l. l ++ os) (map-append (λ (x : Entry). x.origin) es (entry_of A es o ∷ []))
    ∙ append_assoc (origins_in es) (o ∷ []) os

pub origins_of_entries : EntriesHaveOrigins
origins_of_entries A os = origins_after A [] os
