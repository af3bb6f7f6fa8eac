-- When a triple of a relation with ranks is right.
use Rattle.std.specs.Prelude.{◌≡◌, ℕ, ◌<◌, Option, None, Some, List}
use Rattle.auto_core.specs.Automaton.{Automaton, Moves, IsAccepting}
use Rattle.auto_core.specs.Delayed.{RankedTriples, HoldsTriple, HasRank, Announces, IsAnswered, IsAnsweredBelow}
use Rattle.delayed_sim.specs.Rankings.{Triple}

-- The list holds the triple, with a rank below this one if one is given.
abbrev pub Suits : RankedTriples → Option ℕ → List ℕ → ℕ → ℕ → Type 0
Suits X None c p q = HoldsTriple X c p q
Suits X (Some r) c p q = (s : ℕ) × HasRank X c p q s × (s < r)

-- q answers the move by the letter a to p' with such a triple over c.
abbrev pub HasAnswerBelow : Automaton → RankedTriples → Option ℕ → List ℕ → ℕ → ℕ → ℕ → Type 0
HasAnswerBelow A X None c q a p' = IsAnswered A X c q a p'
HasAnswerBelow A X (Some r) c q a p' = IsAnsweredBelow A X r c q a p'

-- q answers it so whatever further letter is announced behind the word b.
abbrev pub IsAnsweredAhead : Automaton → RankedTriples → Option ℕ → List ℕ → ℕ → ℕ → ℕ → Type 0
IsAnsweredAhead A X below b q a p' =
    (more : ℕ) (c : List ℕ) → more < A.labels → Announces b more a c
    → HasAnswerBelow A X below c q a p'

-- q answers each move of p so.
abbrev pub HasAnswers : Automaton → RankedTriples → Option ℕ → List ℕ → ℕ → ℕ → Type 0
HasAnswers A X below b p q = (a p' : ℕ) → Moves A p a p' → IsAnsweredAhead A X below b q a p'

-- The moves of the triple are answered, by triples of a rank below this one if one is given.
abbrev pub IsTripleAnswered : Automaton → RankedTriples → Option ℕ → Triple → Type 0
IsTripleAnswered A X below t = HasAnswers A X below t.1 t.0 t.2

-- The moves of the triple are answered, and its rank, or that it has none, is right.
pub record IsTripleRight (A : Automaton) (X : RankedTriples) (x : Triple) : Type 0 where
  pub answers : IsTripleAnswered A X None x
  pub ranked : IsAccepting A x.0 → (r : ℕ) × (x.3 ≡ Some r)
  pub at_zero : x.3 ≡ Some 0 → IsAccepting A x.2
  pub above_zero : (r : ℕ) → x.3 ≡ Some r → 0 < r → IsTripleAnswered A X (Some r) x
