-- From finite paths to acceptance: if each path of A is followed by a path of B, then B accepts
-- what A accepts.
use Rattle.std.specs.Prelude.{ℕ, zero, suc, ◌⊎◌, List, [], ◌∷◌}
use Rattle.auto_core.specs.Automaton.{Automaton, IsAccepting, IsAutomaton}
use Rattle.auto_core.specs.Run.{Path}
use Rattle.auto_core.specs.Accept.{Includes}
use Rattle.auto_core.specs.Game.{MatchesForward, AllMatched}
use Rattle.auto_core.specs.declared.parts.Mode.TheVariants.{Buchi, Finite}

-- Each path of A from its initial state has a path of B from its initial state on the same word,
-- accepting wherever A's is.
abbrev pub FollowsFromStart : Automaton → Automaton → Type 0
FollowsFromStart A B =
    (w ps : List ℕ) → Path A A.initial w ps
    → (qs : List ℕ) × Path B B.initial w qs × AllMatched (MatchesForward A B) ps qs

-- One of the first state and the d states after it is accepting, or the list ends before.
abbrev pub AcceptsWithin : Automaton → ℕ → List ℕ → Type 0
AcceptsWithin B d [] = Unit {0}
AcceptsWithin B zero (q ∷ qs) = IsAccepting B q
AcceptsWithin B (suc d) (q ∷ qs) = IsAccepting B q ⊎ AcceptsWithin B d qs

-- The lists are equally long; where A's state is accepting, B's is at this place or one of the d
-- after it, if there are so many.
abbrev pub AllMatchedWithin : Automaton → Automaton → ℕ → List ℕ → List ℕ → Type 0
AllMatchedWithin A B d [] [] = Unit {0}
AllMatchedWithin A B d [] (q ∷ qs) = ⊥
AllMatchedWithin A B d (p ∷ ps) [] = ⊥
AllMatchedWithin A B d (p ∷ ps) (q ∷ qs) =
    (IsAccepting A p → AcceptsWithin B d (q ∷ qs)) × AllMatchedWithin A B d ps qs

-- Each path of A from its initial state has a path of B from its initial state on the same word,
-- accepting within d places of A's.
abbrev pub FollowsWithin : Automaton → Automaton → ℕ → Type 0
FollowsWithin A B d =
    (w ps : List ℕ) → Path A A.initial w ps
    → (qs : List ℕ) × Path B B.initial w qs × AllMatchedWithin A B d ps qs

-- If B follows A, it accepts each lasso that A accepts.
abbrev pub LassosTransfer : Type 0
LassosTransfer = (A B : Automaton) → IsAutomaton B → FollowsFromStart A B → Includes A B Buchi

-- If besides B's initial state is accepting where A's is, it accepts each word that A accepts.
abbrev pub WordsTransfer : Type 0
WordsTransfer =
    (A B : Automaton) → MatchesForward A B A.initial B.initial → FollowsFromStart A B
    → Includes A B Finite

-- If B follows A with a delay of at most d places, it accepts each lasso that A accepts.
abbrev pub DelayedTransfer : Type 0
DelayedTransfer =
    (A B : Automaton) (d : ℕ) → IsAutomaton B → FollowsWithin A B d → Includes A B Buchi
