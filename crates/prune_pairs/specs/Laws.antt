-- The laws of pruning.
use Rattle.std.specs.Prelude.{◌≡◌, ℕ, ◌<◌, ◌≤◌, ◌⊎◌, ◌↔◌, List, [], length, Contains}
use Rattle.auto_core.specs.Automaton.{Automaton, IsAutomaton}
use Rattle.auto_core.specs.Accept.{Same}
use Rattle.auto_core.specs.Game.{Close, Holds}
use Rattle.auto_core.specs.Pruning.{IsBetterAt, HasBetter, IsCut, IsPruned, IsStableBack, IsStableAhead, IsGreatestBack, IsGreatestAhead}
use Rattle.auto_core.specs.declared.parts.Mode.{Mode}
use Rattle.prune_pairs.specs.Least.{AreLeastBetter, numbers_of_gone}
use Rattle.prune_pairs.specs.declared.removing.Gone.{Gone}

-- Cutting any transitions that each have a better one, by one approved pair over the closures of
-- one stable list for each of its relations, changes nothing of what is accepted.
abbrev pub PruningIsSame : Type 0
PruningIsSame =
    (A B : Automaton) (n k : ℕ) (back ahead : List (ℕ × ℕ)) (gone : List ℕ) (mode : Mode) →
    IsAutomaton A → 1 ≤ k → IsStableBack A n k back → IsStableAhead A n k ahead →
    ((t : ℕ) → Contains gone t → HasBetter A n (Close (Holds back)) (Close (Holds ahead)) t)
    → IsCut A gone B → Same A B mode

-- So a pruned automaton accepts the same.
abbrev pub PrunedIsSame : Type 0
PrunedIsSame =
    (A B : Automaton) (n k : ℕ) (mode : Mode) → IsAutomaton A → 1 ≤ k → IsPruned A n k B
    → Same A B mode

-- There is one automaton without these transitions at most.
abbrev pub CutIsOne : Type 0
CutIsOne = (A B C : Automaton) (gone : List ℕ) → IsCut A gone B → IsCut A gone C → B ≡ C

-- There is one pruned automaton at most.
abbrev pub PrunedIsOne : Type 0
PrunedIsOne =
    (A B C : Automaton) (n k : ℕ) → IsAutomaton A → IsPruned A n k B → IsPruned A n k C → B ≡ C

-- Cutting nothing leaves the automaton.
abbrev pub CutOfNothing : Type 0
CutOfNothing = (A B : Automaton) → IsAutomaton A → IsCut A [] B ↔ (B ≡ A)

-- Cutting something leaves fewer transitions.
abbrev pub CutIsShorter : Type 0
CutIsShorter =
    (A B : Automaton) (gone : List ℕ) (t : ℕ) → IsAutomaton A → IsCut A gone B → Contains gone t
    → t < length A.transitions → length B.transitions < length A.transitions

-- Pruning leaves the automaton or makes it shorter.
abbrev pub PrunedIsShorter : Type 0
PrunedIsShorter =
    (A B : Automaton) (n k : ℕ) → IsAutomaton A → IsPruned A n k B
    → (B ≡ A) ⊎ (length B.transitions < length A.transitions)

-- It leaves the automaton just where no transition has a better one by the greatest relations.
abbrev pub PrunedIsItself : Type 0
PrunedIsItself =
    (A : Automaton) (n k : ℕ) (back ahead : List (ℕ × ℕ)) → IsAutomaton A
    → IsGreatestBack A n k back → IsGreatestAhead A n k ahead →
    IsPruned A n k A ↔ ((t : ℕ) → HasBetter A n (Close (Holds back)) (Close (Holds ahead)) t → ⊥)

-- The two relations hold the same pairs of states.
abbrev pub AgreeOnStates : Automaton → (ℕ → ℕ → Type 0) → (ℕ → ℕ → Type 0) → Type 0
AgreeOnStates A R S = (p q : ℕ) → p < A.states → q < A.states → R p q ↔ S p q

-- Which transition is better goes by the pairs of states alone, and only by the relations that the
-- pair has a use for.
abbrev pub BetterGoesByStates : Type 0
BetterGoesByStates =
    (A : Automaton) (n : ℕ) (back ahead other_back other_ahead : List (ℕ × ℕ)) (t u : ℕ)
    → IsAutomaton A →
    (¬ (n ≡ 1) → AgreeOnStates A (Holds back) (Close (Holds other_back))) →
    (¬ (n ≡ 2) → AgreeOnStates A (Holds ahead) (Close (Holds other_ahead))) →
    IsBetterAt A n (Holds back) (Holds ahead) t u
    ↔ IsBetterAt A n (Close (Holds other_back)) (Close (Holds other_ahead)) t u

-- Cutting all removable transitions, found by relations that are the closures of the greatest ones
-- on the states, is pruning.
abbrev pub RemovableArePruned : Type 0
RemovableArePruned =
    (A B : Automaton) (n k : ℕ) (back ahead closed_back closed_ahead : List (ℕ × ℕ))
    (gone : List Gone) → IsAutomaton A →
    IsGreatestBack A n k back → IsGreatestAhead A n k ahead →
    (¬ (n ≡ 1) → AgreeOnStates A (Holds closed_back) (Close (Holds back))) →
    (¬ (n ≡ 2) → AgreeOnStates A (Holds closed_ahead) (Close (Holds ahead))) →
    AreLeastBetter A n (Holds closed_back) (Holds closed_ahead) gone
    → IsCut A (numbers_of_gone gone) B → IsPruned A n k B

-- There is one list of the removable transitions with their least better ones at most.
abbrev pub RemovableIsOne : Type 0
RemovableIsOne = (A : Automaton) (n : ℕ) (back ahead : List (ℕ × ℕ)) (gone other : List Gone) →
    AreLeastBetter A n (Holds back) (Holds ahead) gone
    → AreLeastBetter A n (Holds back) (Holds ahead) other → gone ≡ other
