-- The laws of accepting more.
use Rattle.std.specs.Prelude.{◌≡◌}
use Rattle.auto_core.specs.Automaton.{Automaton}
use Rattle.auto_core.specs.Accept.{Same}
use Rattle.auto_core.specs.declared.parts.Mode.TheVariants.{Buchi}
use Rattle.more_accepting.specs.More.{IsMoreAccepting}

-- What accepts more states accepts the same lassos.
abbrev pub MoreAcceptingIsSame : Type 0
MoreAcceptingIsSame = (A B : Automaton) → IsMoreAccepting A B → Same A B Buchi

-- There is one such automaton at most.
abbrev pub MoreAcceptingIsOne : Type 0
MoreAcceptingIsOne =
    (A B C : Automaton) → IsMoreAccepting A B → IsMoreAccepting A C → B ≡ C

-- Making it again changes nothing more.
abbrev pub MoreAcceptingStays : Type 0
MoreAcceptingStays = (A B : Automaton) → IsMoreAccepting A B → IsMoreAccepting B B
