-- Relations of triples some of which have a rank.
use Rattle.std.specs.Prelude.{◌≡◌, ℕ, ◌<◌, ◌≤◌, ◌↔◌, Option, None, List, [], ◌∷◌, length, Contains, slice_index_or}
use Rattle.std.specs.List.{AllPairs}
use Rattle.std.specs.Cmp.Lexicographic.{slice_cmp}
use Rattle.std.specs.Ordering.{nat_cmp, ordering_then}
use Rattle.std.specs.declared.cmp.Ordering.{Ordering}
use Rattle.std.specs.declared.cmp.Ordering.TheVariants.{Less}
use Rattle.auto_core.specs.Delayed.{RankedTriples, IsTripleWord, AreTriplesOf, HasTriplesOnce}
use Rattle.delayed_sim.specs.declared.delayed.RankedTriple.{RankedTriple}

-- A left state, a word and a right state, with a rank or without one.
abbrev pub Triple : Type 0
Triple = ℕ × List ℕ × ℕ × Option ℕ

-- What the triples of one row share: the left state and the word.
abbrev pub row_key : Triple → List ℕ
row_key x = x.0 ∷ x.1

-- By left state, then by word, then by right state.
abbrev pub triple_cmp : Triple → Triple → Ordering
triple_cmp x y = ordering_then (slice_cmp nat_cmp (row_key x) (row_key y)) (nat_cmp x.2 y.2)

-- x stands before y.
abbrev pub IsTripleBefore : Triple → Triple → Type 0
IsTripleBefore x y = triple_cmp x y ≡ Less

-- Each triple stands before all later ones.
abbrev pub AreTriplesInOrder : RankedTriples → Type 0
AreTriplesInOrder X = AllPairs IsTripleBefore X

-- A relation on so many states with `letters` announced letters over so many labels: the list of
-- its triples, each with a rank or without one.
pub record Ranking : Type 0 where
  pub states : ℕ
  pub labels : ℕ
  pub letters : ℕ
  pub triples : RankedTriples

-- A valid one: one to four letters are announced, the triples are of its states and labels, each
-- has one rank or none, and they ascend.
pub record IsRanking (R : Ranking) : Type 0 where
  pub letters_from : 1 ≤ R.letters
  pub letters_upto : R.letters ≤ 4
  pub in_range : AreTriplesOf R.states R.labels R.letters R.triples
  pub once : HasTriplesOnce R.triples
  pub in_order : AreTriplesInOrder R.triples

-- The triple with this number in the list.
abbrev pub triple_at : RankedTriples → ℕ → Triple
triple_at X i = slice_index_or X i (0, [], 0, None)

-- The triple with this rank or without one.
abbrev pub ranked_triple : ℕ → List ℕ → ℕ → Option ℕ → RankedTriple
ranked_triple p b q rank = record { left = p; ahead = b; right = q; rank = rank }

-- Both states of each triple are below `states`, and its word has n - 1 labels.
abbrev pub AreTriplesGiven : ℕ → ℕ → ℕ → List RankedTriple → Type 0
AreTriplesGiven states labels n triples =
    (p : ℕ) (b : List ℕ) (q : ℕ) (rank : Option ℕ)
    → Contains triples (ranked_triple p b q rank)
    → IsTripleWord labels n b × (p < states) × (q < states)

-- No two of them have the same states and the same word.
abbrev pub DifferInTriples : List RankedTriple → Type 0
DifferInTriples triples =
    (i j : ℕ) (d : RankedTriple)
    → i < length triples
    → j < length triples
    → (slice_index_or triples i d).left ≡ (slice_index_or triples j d).left
    → (slice_index_or triples i d).ahead ≡ (slice_index_or triples j d).ahead
    → (slice_index_or triples i d).right ≡ (slice_index_or triples j d).right
    → i ≡ j

-- The list has just these triples, each with the rank that it has there.
abbrev pub HasJust : RankedTriples → List RankedTriple → Type 0
HasJust X triples =
    (p : ℕ) (b : List ℕ) (q : ℕ) (rank : Option ℕ)
    → Contains X (p, b, q, rank) ↔ Contains triples (ranked_triple p b q rank)

-- Just the triples with lesser numbers stand before x.
pub record IsTripleFrom (X : RankedTriples) (x : Triple) (i : ℕ) : Type 0 where
  pub upto : i ≤ length X
  pub below : (j : ℕ) → j < i → IsTripleBefore (triple_at X j) x
  pub from : (j : ℕ) → i ≤ j → j < length X → IsTripleBefore (triple_at X j) x → ⊥
