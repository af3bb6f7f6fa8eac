-- The laws of quotients.
use Rattle.std.specs.Prelude.{◌≡◌, ℕ, ◌≤◌, List}
use Rattle.auto_core.specs.Automaton.{Automaton, IsAutomaton}
use Rattle.auto_core.specs.Accept.{Includes, Same}
use Rattle.auto_core.specs.Game.{StableForward, StableBackward}
use Rattle.auto_core.specs.Quotient.{IsQuotient, RelatesMembers, RelatesMembersBy}
use Rattle.auto_core.specs.Delayed.{RankedTriples, IsRight, AreStateRelated}
use Rattle.auto_core.specs.declared.parts.Mode.{Mode}
use Rattle.auto_core.specs.declared.parts.Mode.TheVariants.{Buchi}

-- A quotient by any classes accepts what A accepts, and maybe more.
abbrev pub QuotientAcceptsMore : Type 0
QuotientAcceptsMore =
    (A B : Automaton) (classes : List ℕ) (mode : Mode) → IsQuotient A classes B → Includes A B mode

-- It accepts the same if the closure of one list that is stable forward relates any two members of
-- each class.
abbrev pub ForwardQuotientIsSame : Type 0
ForwardQuotientIsSame =
    (A B : Automaton) (classes : List ℕ) (k : ℕ) (S : List (ℕ × ℕ)) (mode : Mode) →
    IsAutomaton A → 1 ≤ k → StableForward A k S → RelatesMembers A classes S
    → IsQuotient A classes B → Same A B mode

-- The same backward.
abbrev pub BackwardQuotientIsSame : Type 0
BackwardQuotientIsSame =
    (A B : Automaton) (classes : List ℕ) (k : ℕ) (S : List (ℕ × ℕ)) (mode : Mode) →
    IsAutomaton A → 1 ≤ k → StableBackward A k S → RelatesMembers A classes S
    → IsQuotient A classes B → Same A B mode

-- In Büchi mode it accepts the same if the closure of the state relation of one right list of
-- triples with n announced letters relates any two members of each class.
abbrev pub DelayedQuotientIsSame : Type 0
DelayedQuotientIsSame = (A B : Automaton) (classes : List ℕ) (n : ℕ) (X : RankedTriples) →
    IsAutomaton A → 1 ≤ n → IsRight A X → RelatesMembersBy A classes (AreStateRelated A.labels n X)
    → IsQuotient A classes B → Same A B Buchi

-- There is one quotient by these classes at most.
abbrev pub QuotientIsOne : Type 0
QuotientIsOne =
    (A B C : Automaton) (classes : List ℕ) → IsQuotient A classes B → IsQuotient A classes C → B ≡ C
