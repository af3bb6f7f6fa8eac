-- Lassos of letters and of classes.
use Rattle.std.proofs.Common.{ℕ, ◌≤◌, List, ◌++◌, length, ap, ◌∙◌}
use Rattle.auto_core.specs.Run.{repeated}
use Rattle.map_laws.specs.Maps.{classes_in}
use Rattle.map_laws.specs.Laws.{IsLassoOfClasses}
use Rattle.map_laws.proofs.LetterLemmas.{classes_accepted, letters_found, separated_by_letters}
use Rattle.auto_core.specs.Automaton.{Automaton}
use Rattle.lasso_reading.specs.Words.{first_letters, SpellSame}
use Rattle.lasso_reading.specs.Classes.{AcceptedClassesAreRead, ReadLassosSeparate}
use Rattle.lasso_reading.proofs.WordLemmas.{longer_first, repeated_first, accepted_alike}

-- Some turns in the prefix, and some taken as one, spell the same.
turned_same : (A : Automaton) (classes cu cv u v : List ℕ) → 1 ≤ length cv → IsLassoOfClasses A classes cu cv u v → SpellSame (classes_in classes u) (classes_in classes v) cu cv
turned_same A classes cu cv u v some is n =
    ap (λ l. first_letters l (classes_in classes v) n) is.prefix
    ∙ ap (λ l. first_letters (cu ++ repeated cv is.before) l n) is.turn
    ∙ repeated_first (cu ++ repeated cv is.before) cv is.turns n some is.some_turn
    ∙ longer_first cu cv is.before n some

pub accepted_classes_read : AcceptedClassesAreRead
accepted_classes_read A C classes cu cv renamed some = (
  λ h. let (u, v, is) = letters_found A C classes renamed cu cv h in (u, v, (is.accepted, turned_same A classes cu cv u v some is)),
  λ (u, v, (accepted, same)). accepted_alike C (classes_in classes u) (classes_in classes v) cu cv some same (classes_accepted A C classes renamed u v accepted),
)

pub read_separate : ReadLassosSeparate
read_separate A B D classes cu cv u v renamed some (accepted, same) rejects =
    separated_by_letters A B D classes renamed u v accepted (λ h. rejects (accepted_alike D (classes_in classes u) (classes_in classes v) cu cv some same h))
