-- Words of triples as numbers, the first letter being the highest digit, and places: a left state
-- and a word.
use Rattle.std.specs.Prelude.{◌≡◌, ℕ, zero, suc, ◌+◌, ◌-◌, ◌*◌, ◌/◌, ◌%◌, ◌^◌, ◌<◌, ◌↔◌, List, [], ◌∷◌, length, Contains}
use Rattle.auto_core.specs.Automaton.{Automaton, IsAutomaton, Moves, IsAccepting}
use Rattle.auto_core.specs.Game.{Holds}
use Rattle.auto_core.specs.Delayed.{RankedTriples, Announces, IsTripleWord}
use Rattle.bit_rel.specs.Relation.{IsPairBefore}
use Rattle.delayed_sim.specs.Rankings.{Triple, AreTriplesInOrder}
use Rattle.delayed_game.specs.Pairings.{Pairing}
use Rattle.delayed_game.specs.Levels.{rank_in_table}

-- The number of a word over so many labels.
abbrev pub word_number : ℕ → List ℕ → ℕ
word_number labels [] = 0
word_number labels (a ∷ b) = a * labels ^ length b + word_number labels b

-- The word of so many letters with this number.
abbrev pub digits : ℕ → ℕ → ℕ → List ℕ
digits labels zero k = []
digits labels (suc m) k = (k / labels ^ m) ∷ digits labels m (k % labels ^ m)

-- The number of the place of the state p with the word b.
abbrev pub place_of : ℕ → ℕ → List ℕ → ℕ
place_of labels p b = word_number labels (p ∷ b)

-- The automaton of the places in the game with n announced letters: behind b a further letter is
-- announced, and a move of A by the first letter leads from p with b to its target with the word
-- after it.
pub record ArePlaces (A : Automaton) (n : ℕ) (L : Automaton) : Type 0 where
  pub valid : IsAutomaton L
  pub states : L.states ≡ A.states * A.labels ^ (n - 1)
  pub labels : L.labels ≡ A.labels
  pub forth :
      (b : List ℕ) (p more a : ℕ) (c : List ℕ) (p' : ℕ)
      → IsTripleWord A.labels n b
      → more < A.labels
      → Announces b more a c
      → Moves A p a p'
      → Moves L (place_of A.labels p b) a (place_of A.labels p' c)
  pub back :
      (b : List ℕ) (p a y : ℕ)
      → IsTripleWord A.labels n b
      → Moves L (place_of A.labels p b) a y
      → (more : ℕ) × (c : List ℕ) × (p' : ℕ) × (more < A.labels) × Announces b more a c
      × Moves A p a p' × (place_of A.labels p' c ≡ y)
  pub accepting : (b : List ℕ) (p : ℕ) → IsTripleWord A.labels n b
      → IsAccepting L (place_of A.labels p b) ↔ IsAccepting A p

-- The triple of a place and a state of m, with the rank that the table has for the two.
abbrev pub triple_here : ℕ → ℕ → ℕ → List ℕ → ℕ → ℕ → Triple
triple_here labels n m ranks x q = (
  x / labels ^ (n - 1),
  digits labels (n - 1) (x % labels ^ (n - 1)),
  q,
  rank_in_table ranks m x
      q,
)

-- The list has just the triples of the pairs that stand before this one, in order.
pub record ListsTriplesBefore (labels n : ℕ) (R : Pairing) (ranks : List ℕ) (x at : ℕ)
    (T : RankedTriples) : Type 0 where
  pub each :
      (t : Triple)
      → Contains T t
      → (y s : ℕ) × Holds R.pairs y s × IsPairBefore (y, s) (x, at)
      × (triple_here labels n R.states ranks y s ≡ t)
  pub all : (y s : ℕ) → Holds R.pairs y s → IsPairBefore (y, s) (x, at)
      → Contains T (triple_here labels n R.states ranks y s)
  pub in_order : AreTriplesInOrder T
