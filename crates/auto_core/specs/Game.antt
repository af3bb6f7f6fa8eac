-- Games of looking ahead: what Spoiler may show, how Duplicator answers, and the relations that
-- such games keep. Everything is over moves, where M p a q says that p moves by the letter a to q.
-- Spoiler's moves and Duplicator's are apart from the start, so that the same words serve two
-- automata.
use Rattle.std.specs.Prelude.{◌≡◌, ℕ, zero, suc, ◌<◌, ◌≤◌, ◌⊎◌, List, [], ◌∷◌, length, Contains}
use Rattle.auto_core.specs.Automaton.{Automaton, Moves, IsAccepting}
use Rattle.auto_core.specs.Run.{PathBy, end_of}

-- The moves read backward: from a state to the source of a transition into it.
abbrev pub BackwardMoves : Automaton → ℕ → ℕ → ℕ → Type 0
BackwardMoves A p a q = Moves A q a p

-- q is accepting in B if p is in A.
abbrev pub MatchesForward : Automaton → Automaton → ℕ → ℕ → Type 0
MatchesForward A B p q = IsAccepting A p → IsAccepting B q

-- q is accepting if p is, and initial if p is.
abbrev pub MatchesBackward : Automaton → Automaton → ℕ → ℕ → Type 0
MatchesBackward A B p q = MatchesForward A B p q × (p ≡ A.initial → q ≡ B.initial)

-- The lists are equally long, and place by place the second matches the first.
abbrev pub AllMatched : (ℕ → ℕ → Type 0) → List ℕ → List ℕ → Type 0
AllMatched ok [] [] = Unit {0}
AllMatched ok [] (q ∷ qs) = ⊥
AllMatched ok (p ∷ ps) [] = ⊥
AllMatched ok (p ∷ ps) (q ∷ qs) = ok p q × AllMatched ok ps qs

-- The state has no move.
abbrev pub IsDead : (ℕ → ℕ → ℕ → Type 0) → ℕ → Type 0
IsDead M p = (a q : ℕ) → M p a q → ⊥

-- Spoiler may show this path from p: it has k moves, or at least one and fewer than k and then a
-- dead end.
abbrev pub MayShow : (ℕ → ℕ → ℕ → Type 0) → ℕ → ℕ → List ℕ → List ℕ → Type 0
MayShow M k p w ps = (length w ≡ k) ⊎ ((1 ≤ length w) × (length w < k) × IsDead M (end_of p ps))

-- Duplicator answers from q the path on the word through these states: at least one of its letters,
-- matched at each place, up to a place where W relates Spoiler's state to Duplicator's.
abbrev pub Answers : (ℕ → ℕ → ℕ → Type 0) → (ℕ → ℕ → Type 0) → (ℕ → ℕ → Type 0) → ℕ → List ℕ
    → List ℕ → Type 0
Answers M ok W q [] ps = ⊥
Answers M ok W q (a ∷ w) [] = ⊥
Answers M ok W q (a ∷ w) (p ∷ ps) = (r : ℕ) × M q a r × ok p r × (W p r ⊎ Answers M ok W r w ps)

-- One round from p and q: each path that Spoiler may show from p by the moves M1 is answered from q
-- by the moves M2.
abbrev pub Round : (ℕ → ℕ → ℕ → Type 0) → (ℕ → ℕ → ℕ → Type 0) → (ℕ → ℕ → Type 0) → ℕ
    → (ℕ → ℕ → Type 0) → ℕ → ℕ → Type 0
Round M1 M2 ok k W p q =
    (w ps : List ℕ) → PathBy M1 p w ps → MayShow M1 k p w ps → Answers M2 ok W q w ps

-- Each pair of W matches and has its round.
abbrev pub Stable : (ℕ → ℕ → ℕ → Type 0) → (ℕ → ℕ → ℕ → Type 0) → (ℕ → ℕ → Type 0) → ℕ
    → (ℕ → ℕ → Type 0) → Type 0
Stable M1 M2 ok k W = (p q : ℕ) → W p q → ok p q × Round M1 M2 ok k W p q

-- n steps of R lead from p to q.
abbrev pub Chain : (ℕ → ℕ → Type 0) → ℕ → ℕ → ℕ → Type 0
Chain R zero p q = p ≡ q
Chain R (suc n) p q = (r : ℕ) × R p r × Chain R n r q

-- The reflexive and transitive closure.
abbrev pub Close : (ℕ → ℕ → Type 0) → ℕ → ℕ → Type 0
Close R p q = (n : ℕ) × Chain R n p q

-- The strict part: related this way and not the other.
abbrev pub Strict : (ℕ → ℕ → Type 0) → ℕ → ℕ → Type 0
Strict R p q = R p q × (R q p → ⊥)

-- The list of pairs relates p to q.
abbrev pub Holds : List (ℕ × ℕ) → ℕ → ℕ → Type 0
Holds S p q = Contains S (p, q)

-- Left numbers are below m, right ones below n.
abbrev pub ArePairsBelow : ℕ → ℕ → List (ℕ × ℕ) → Type 0
ArePairsBelow m n S = (p q : ℕ) → Holds S p q → (p < m) × (q < n)

-- The pairs of the first list are all in the second.
abbrev pub IsWithin : List (ℕ × ℕ) → List (ℕ × ℕ) → Type 0
IsWithin T S = (p q : ℕ) → Holds T p q → Holds S p q

-- The greatest stable list: it relates the m first states to the n second ones, is stable, and has
-- each stable list inside.
pub record IsGreatest (M1 M2 : ℕ → ℕ → ℕ → Type 0) (ok : ℕ → ℕ → Type 0) (k m n : ℕ)
    (S : List (ℕ × ℕ)) : Type 0 where
  pub in_range : ArePairsBelow m n S
  pub stable : Stable M1 M2 ok k (Holds S)
  pub has_each : (T : List (ℕ × ℕ)) → ArePairsBelow m n T → Stable M1 M2 ok k (Holds T)
      → IsWithin T S

-- Forward on one automaton: Spoiler at p is answered from q, with S between the states where the
-- answer may end.
abbrev pub RoundForward : Automaton → ℕ → List (ℕ × ℕ) → ℕ → ℕ → Type 0
RoundForward A k S p q = Round (Moves A) (Moves A) (MatchesForward A A) k (Holds S) p q

-- Forward, each pair of the list is accepting where it has to be and has its round.
abbrev pub StableForward : Automaton → ℕ → List (ℕ × ℕ) → Type 0
StableForward A k S = Stable (Moves A) (Moves A) (MatchesForward A A) k (Holds S)

-- The greatest list of pairs of states that is stable forward.
abbrev pub IsGreatestForward : Automaton → ℕ → List (ℕ × ℕ) → Type 0
IsGreatestForward A k S = IsGreatest (Moves A) (Moves A) (MatchesForward A A) k A.states A.states S

-- Backward on one automaton: moves go from target to source, and an initial state is answered by an
-- initial one.
abbrev pub RoundBackward : Automaton → ℕ → List (ℕ × ℕ) → ℕ → ℕ → Type 0
RoundBackward A k S p q =
    Round (BackwardMoves A) (BackwardMoves A) (MatchesBackward A A) k (Holds S) p q

-- Backward, each pair of the list is accepting and initial where it has to be and has its round.
abbrev pub StableBackward : Automaton → ℕ → List (ℕ × ℕ) → Type 0
StableBackward A k S = Stable (BackwardMoves A) (BackwardMoves A) (MatchesBackward A A) k (Holds S)

-- The greatest list of pairs of states that is stable backward.
abbrev pub IsGreatestBackward : Automaton → ℕ → List (ℕ × ℕ) → Type 0
IsGreatestBackward A k S =
    IsGreatest (BackwardMoves A) (BackwardMoves A) (MatchesBackward A A) k A.states A.states S

-- Across two automata: Spoiler moves in A, Duplicator in B.
abbrev pub RoundAcross : Automaton → Automaton → ℕ → List (ℕ × ℕ) → ℕ → ℕ → Type 0
RoundAcross A B k S p q = Round (Moves A) (Moves B) (MatchesForward A B) k (Holds S) p q

-- Across, each pair of a state of A and a state of B is accepting where it has to be and has its
-- round.
abbrev pub StableAcross : Automaton → Automaton → ℕ → List (ℕ × ℕ) → Type 0
StableAcross A B k S = Stable (Moves A) (Moves B) (MatchesForward A B) k (Holds S)

-- The greatest list of such pairs that is stable across.
abbrev pub IsGreatestAcross : Automaton → Automaton → ℕ → List (ℕ × ℕ) → Type 0
IsGreatestAcross A B k S = IsGreatest (Moves A) (Moves B) (MatchesForward A B) k A.states B.states S
