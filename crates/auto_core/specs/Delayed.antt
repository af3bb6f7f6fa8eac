-- Delayed simulation: Duplicator answers each move at once, and has to be accepting at the latest
-- some moves after Spoiler is. In a game with n announced letters Duplicator knows the next n
-- letters of what is read, not Spoiler's moves: the letter of the move that he answers, and the n -
-- 1 letters after it. The word of a triple is the n - 1 letters that he knows before the move; then
-- a further letter is announced, and the move is by the first of the n. The rank of a triple bounds
-- the moves that are left until he is accepting.
use Rattle.std.specs.Prelude.{ℕ, zero, suc, Bool, ◌<◌, ◌==◌, ◌≡◌, ◌≤◌, ◌*◌, ◌^◌, nat_le, if◌then◌else◌, Option, None, Some, List, [], ◌∷◌, ◌++◌, length, All, Contains}
use Rattle.auto_core.specs.Automaton.{Automaton, Moves, IsAccepting}
use Rattle.auto_core.specs.declared.limits.TheConstants.{MOST_TRIPLES_WITH_A_LETTER}

-- The rank for which this number stands, in a table or in a certificate: one less, and none for 0.
abbrev pub rank_in_code : ℕ → Option ℕ
rank_in_code zero = None
rank_in_code (suc r) = Some r

-- Triples of a left state, a word and a right state, each with a rank or without one.
abbrev pub RankedTriples : Type 0
RankedTriples = List (ℕ × List ℕ × ℕ × Option ℕ)

-- The list holds the triple of p, the word b and q, with a rank or without one.
abbrev pub HoldsTriple : RankedTriples → List ℕ → ℕ → ℕ → Type 0
HoldsTriple X b p q = (rank : Option ℕ) × Contains X (p, b, q, rank)

-- The list holds the triple with this rank.
abbrev pub HasRank : RankedTriples → List ℕ → ℕ → ℕ → ℕ → Type 0
HasRank X b p q r = Contains X (p, b, q, Some r)

-- Behind the word b a further letter, `more`, is announced: the move is by the letter a, and c is
-- the word after the move.
abbrev pub Announces : List ℕ → ℕ → ℕ → List ℕ → Type 0
Announces b more a c = b ++ (more ∷ []) ≡ a ∷ c

-- q answers the move of p by the letter a to p' with a triple of the list over c.
abbrev pub IsAnswered : Automaton → RankedTriples → List ℕ → ℕ → ℕ → ℕ → Type 0
IsAnswered A X c q a p' = (q' : ℕ) × Moves A q a q' × HoldsTriple X c p' q'

-- q answers it with a triple of lesser rank.
abbrev pub IsAnsweredBelow : Automaton → RankedTriples → ℕ → List ℕ → ℕ → ℕ → ℕ → Type 0
IsAnsweredBelow A X r c q a p' = (q' s : ℕ) × Moves A q a q' × HasRank X c p' q' s × (s < r)

-- The triples and ranks are right: whatever further letter is announced, each move of a left state
-- is answered; a triple has a rank if its left state is accepting; at rank 0 the right state is
-- accepting; and at a greater rank each move is answered with a lesser one.
pub record IsRight (A : Automaton) (X : RankedTriples) : Type 0 where
  pub answers :
      (b : List ℕ) (p q more a : ℕ) (c : List ℕ) (p' : ℕ)
      → HoldsTriple X b p q
      → more < A.labels
      → Announces b more a c
      → Moves A p a p'
      → IsAnswered A X c q a p'
  pub ranked : (b : List ℕ) (p q : ℕ) → HoldsTriple X b p q → IsAccepting A p
      → (r : ℕ) × HasRank X b p q r
  pub at_zero : (b : List ℕ) (p q : ℕ) → HasRank X b p q 0 → IsAccepting A q
  pub above_zero :
      (b : List ℕ) (p q r more a : ℕ) (c : List ℕ) (p' : ℕ)
      → HasRank X b p q r
      → 0 < r
      → more < A.labels
      → Announces b more a c
      → Moves A p a p'
      → IsAnsweredBelow A X r c q a p'

-- b is the word of a triple in a game with n announced letters over this many labels: n - 1 labels.
abbrev pub IsTripleWord : ℕ → ℕ → List ℕ → Type 0
IsTripleWord labels n b = (suc (length b) ≡ n) × All (λ a. a < labels) b

-- Both states of each triple are below this number, and its word has n - 1 labels.
abbrev pub AreTriplesOf : ℕ → ℕ → ℕ → RankedTriples → Type 0
AreTriplesOf states labels n X =
    (b : List ℕ) (p q : ℕ) → HoldsTriple X b p q
    → IsTripleWord labels n b × (p < states) × (q < states)

-- No triple stands there in two ways, with two ranks or with one and without.
abbrev pub HasTriplesOnce : RankedTriples → Type 0
HasTriplesOnce X =
    (b : List ℕ) (p q : ℕ) (o m : Option ℕ) → Contains X (p, b, q, o) → Contains X (p, b, q, m)
    → o ≡ m

-- The greatest delayed relation with n announced letters: it is right, holds each triple that some
-- right list of triples of A holds, and gives each triple that some such list ranks the least rank
-- that any of them gives it.
pub record IsGreatestDelayed (A : Automaton) (n : ℕ) (X : RankedTriples) : Type 0 where
  pub in_range : AreTriplesOf A.states A.labels n X
  pub once : HasTriplesOnce X
  pub right : IsRight A X
  pub has_each :
      (Y : RankedTriples) → AreTriplesOf A.states A.labels n Y → IsRight A Y
      → (b : List ℕ) (p q : ℕ) → HoldsTriple Y b p q → HoldsTriple X b p q
  pub least :
      (Y : RankedTriples) → AreTriplesOf A.states A.labels n Y → IsRight A Y
      → (b : List ℕ) (p q s : ℕ) → HasRank Y b p q s → (r : ℕ) × HasRank X b p q r × (r ≤ s)

-- The state relation: q is related to p where the list holds their triple with each word.
abbrev pub AreStateRelated : ℕ → ℕ → RankedTriples → ℕ → ℕ → Type 0
AreStateRelated labels n X p q = (b : List ℕ) → IsTripleWord labels n b → HoldsTriple X b p q

-- With n announced letters there are at most so many triples, each with one further letter, as a
-- game with more than one letter may have.
abbrev pub are_few_triples_with_a_letter : Automaton → ℕ → Bool
are_few_triples_with_a_letter A n =
    nat_le (A.states * A.states * A.labels ^ n) MOST_TRIPLES_WITH_A_LETTER

-- The greatest number of announced letters up to n, and at least 1, with which there are so few.
abbrev pub most_letters : Automaton → ℕ → ℕ
most_letters A zero = 1
most_letters A (suc n) = if are_few_triples_with_a_letter A (suc n) then suc n else most_letters A n

-- How many letters are announced where n are asked for: the greatest such number, without labels 1.
abbrev pub letters_for : Automaton → ℕ → ℕ
letters_for A n = if A.labels == 0 then 1 else most_letters A n
