-- What the passes of the plain program do to a relation with ranks.
use Rattle.std.specs.Prelude.{◌≡◌, ℕ, ◌<◌, ◌≤◌, ◌⊎◌, Bool, true, false, Option, None, Some, List, length, Contains, set}
use Rattle.std.specs.List.{remove, sum_by}
use Rattle.std.specs.Option.{unwrap_or, option_map}
use Rattle.auto_core.specs.Automaton.{Automaton, IsAccepting}
use Rattle.auto_core.specs.Delayed.{RankedTriples, HoldsTriple, HasRank, AreTriplesOf, IsRight}
use Rattle.delayed_sim.specs.Rankings.{Triple, Ranking, IsRanking, triple_at}
use Rattle.delayed_sim.specs.Right.{HasAnswers, IsTripleAnswered}

-- The relation without the triple with this number.
abbrev pub without : Ranking → ℕ → Ranking
without R at =
    record {
      states = R.states;
      labels = R.labels;
      letters = R.letters;
      triples = remove R.triples at;
    }

-- The triple with this rank, or without one.
abbrev pub ranked_as : Triple → Option ℕ → Triple
ranked_as t rank = (t.0, t.1, t.2, rank)

-- The relation where the triple with this number has this rank or none.
abbrev pub reranked : Ranking → ℕ → Option ℕ → Ranking
reranked R at rank =
    record {
      states = R.states;
      labels = R.labels;
      letters = R.letters;
      triples = set R.triples at (ranked_as (triple_at R.triples at) rank);
    }

-- The list has the triples of each right list of triples of A.
abbrev pub HasEachTriple : Automaton → ℕ → RankedTriples → Type 0
HasEachTriple A n X =
    (Y : RankedTriples) → AreTriplesOf A.states A.labels n Y → IsRight A Y → (b : List ℕ) (p q : ℕ)
    → HoldsTriple Y b p q → HoldsTriple X b p q

-- Where a right list gives a triple a rank of at most r, the list gives it one that is no greater.
abbrev pub HasRanksUpto : Automaton → ℕ → ℕ → RankedTriples → Type 0
HasRanksUpto A n r X =
    (Y : RankedTriples)
    → AreTriplesOf A.states A.labels n Y
    → IsRight A Y
    → (b : List ℕ) (p q s : ℕ)
    → HasRank Y b p q s
    → s ≤ r
    → (t : ℕ) × HasRank X b p q t × (t ≤ s)

-- The new relation is on the same states, labels and letters, and has no more triples.
pub record IsShortened (old new : Ranking) : Type 0 where
  pub states : new.states ≡ old.states
  pub labels : new.labels ≡ old.labels
  pub letters : new.letters ≡ old.letters
  pub valid : IsRanking new
  pub upto : length new.triples ≤ length old.triples

-- Some triples went, or none; `any` tells whether any did.
pub record Thins (old new : Ranking) (any : Bool) : Type 0 where
  pub shortened : IsShortened old new
  pub some : any ≡ true → length new.triples < length old.triples
  pub same : any ≡ false → new ≡ old

-- The same triples, of which the first ones have ranks as S tells and the others those of before.
pub record IsReranked (S : Triple → Option ℕ → Type 0) (upto : ℕ) (old new : Ranking) : Type 0 where
  pub states : new.states ≡ old.states
  pub labels : new.labels ≡ old.labels
  pub letters : new.letters ≡ old.letters
  pub valid : IsRanking new
  pub len : length new.triples ≡ length old.triples
  pub done :
      (i : ℕ)
      → i < upto
      → i < length old.triples
      → (rank : Option ℕ) × S (triple_at old.triples i) rank
      × (triple_at new.triples i ≡ ranked_as (triple_at old.triples i) rank)
  pub rest : (i : ℕ) → upto ≤ i → i < length old.triples
      → triple_at new.triples i ≡ triple_at old.triples i

-- The same triples, with whatever ranks.
pub record HasSameTriples (old new : Ranking) : Type 0 where
  pub states : new.states ≡ old.states
  pub labels : new.labels ≡ old.labels
  pub letters : new.letters ≡ old.letters
  pub valid : IsRanking new
  pub len : length new.triples ≡ length old.triples
  pub forth : (b : List ℕ) (p q : ℕ) → HoldsTriple old.triples b p q → HoldsTriple new.triples b p q
  pub back : (b : List ℕ) (p q : ℕ) → HoldsTriple new.triples b p q → HoldsTriple old.triples b p q

-- Each rank is right.
pub record AreRanksRight (A : Automaton) (X : RankedTriples) : Type 0 where
  pub at_zero : (b : List ℕ) (p q : ℕ) → HasRank X b p q 0 → IsAccepting A q
  pub above_zero : (b : List ℕ) (p q r : ℕ) → HasRank X b p q r → 0 < r
      → HasAnswers A X (Some r) b p q

-- The ranks up to r are given: they are right, and none is too great.
pub record AreRankedUpto (A : Automaton) (n r : ℕ) (X : RankedTriples) : Type 0 where
  pub right : AreRanksRight A X
  pub upto : (b : List ℕ) (p q s : ℕ) → HasRank X b p q s → s ≤ r
  pub least : HasRanksUpto A n r X

-- Rank 0 goes to the triples with an accepting right state, and no rank to the others.
abbrev pub GetsRankZero : Automaton → Triple → Option ℕ → Type 0
GetsRankZero A t rank =
    (IsAccepting A t.2 × (rank ≡ Some 0)) ⊎ ((IsAccepting A t.2 → ⊥) × (rank ≡ None))

-- The rank r goes to the triples that have none and whose moves are answered by triples of lesser
-- rank; the others keep what they have.
abbrev pub GetsRank : Automaton → RankedTriples → ℕ → Triple → Option ℕ → Type 0
GetsRank A X r t rank =
    ((t.3 ≡ None) × IsTripleAnswered A X (Some r) t × (rank ≡ Some r))
    ⊎ ((rank ≡ t.3) × (t.3 ≡ None → IsTripleAnswered A X (Some r) t → ⊥))

-- Each triple whose left state is accepting has a rank.
abbrev pub AreAcceptingRanked : Automaton → RankedTriples → Type 0
AreAcceptingRanked A X = (t : Triple) → Contains X t → IsAccepting A t.0 → (r : ℕ) × (t.3 ≡ Some r)

-- The moves of each triple are answered.
abbrev pub AreAllAnswered : Automaton → RankedTriples → Type 0
AreAllAnswered A X = (t : Triple) → Contains X t → IsTripleAnswered A X None t

-- How many triples have no rank.
abbrev pub unranked : RankedTriples → ℕ
unranked X = sum_by (λ t. unwrap_or (option_map (λ _. 0) t.3) 1) X
