-- What is known on the way to the least ranks, level by level.
use Rattle.std.specs.Prelude.{◌≡◌, ℕ, ◌+◌, ◌*◌, ◌/◌, ◌<◌, ◌≤◌, ◌⊎◌, ◌↔◌, None, Some, List, length}
use Rattle.auto_core.specs.Automaton.{Automaton, Moves, trans_at}
use Rattle.auto_core.specs.Game.{ArePairsBelow, Holds, IsWithin}
use Rattle.auto_core.specs.Rows.{HasCell}
use Rattle.delayed_game.specs.Pairings.{Pairing, IsPairing}
use Rattle.delayed_game.specs.Levels.{rank_in_table, CanHave, IsLeastRank}

-- The words of a row that has a bit for each state.
abbrev pub row_words : Automaton → ℕ
row_words A = (A.states + 63) / 64

-- The table gives the pair of states this rank.
abbrev pub IsRanked : Automaton → List ℕ → ℕ → ℕ → ℕ → Type 0
IsRanked A ranks p q s = rank_in_table ranks A.states p q ≡ Some s

-- A move from q by the letter of the transition t of places leads to a state of the row of t's
-- target.
abbrev pub HasFreshAnswer : Automaton → Automaton → List ℕ → ℕ → ℕ → Type 0
HasFreshAnswer L A fresh t q =
    (q' : ℕ) × Moves A q (trans_at L t).label q'
    × HasCell fresh (row_words A) (trans_at L t).target q'

-- The pair is unranked, and each transition of its place is noted as answered by the right state.
abbrev pub IsReady : Automaton → Automaton → Pairing → List ℕ → ℕ → ℕ → Type 0
IsReady L A unranked answered p q =
    Holds unranked.pairs p q
    × ((t : ℕ) → t < length L.transitions → (trans_at L t).source ≡ p
    → HasCell answered (row_words A) t q)

-- The pairs that S tells were unranked and got the rank, and stand in the rows of `fresh`; nothing
-- else changed.
pub record GivesRank (L A : Automaton) (S : ℕ → ℕ → Type 0) (rank : ℕ) (unranked : Pairing)
    (ranks : List ℕ) (unranked' : Pairing) (ranks' : List ℕ) (fresh : List ℕ) : Type 0 where
  pub places : unranked'.places ≡ unranked.places
  pub states : unranked'.states ≡ unranked.states
  pub valid : IsPairing unranked'
  pub len : length ranks' ≡ length ranks
  pub pairs : (p q : ℕ) → Holds unranked'.pairs p q ↔ (Holds unranked.pairs p q × (S p q → ⊥))
  pub table : (p q : ℕ) → p < L.states → q < A.states
      → (S p q × IsRanked A ranks' p q rank)
      ⊎ ((S p q → ⊥) × (rank_in_table ranks' A.states p q ≡ rank_in_table ranks A.states p q))
  pub rows : (p q : ℕ) → p < L.states → q < A.states → HasCell fresh (row_words A) p q ↔ S p q
  pub columns : (p q : ℕ) → p < L.states → q < row_words A * 64 → HasCell fresh (row_words A) p q
      → q < A.states

-- The pairs of R that can have a rank of at most r have the least one; the others are unranked.
-- Those of rank r stand in the rows of `fresh`, and each answer by a pair of lesser rank is noted
-- in the row of its transition.
pub record IsClimbed (L A : Automaton) (R : ℕ → ℕ → Type 0) (r : ℕ) (unranked : Pairing)
    (ranks : List ℕ) (answered fresh : List ℕ) : Type 0 where
  pub places : unranked.places ≡ L.states
  pub states : unranked.states ≡ A.states
  pub valid : IsPairing unranked
  pub len : length ranks ≡ L.states * A.states
  pub pairs : (p q : ℕ) → Holds unranked.pairs p q
      → R p q × (rank_in_table ranks A.states p q ≡ None) × (CanHave L A R r p q → ⊥)
  pub each : (p q s : ℕ) → p < L.states → q < A.states → IsRanked A ranks p q s
      → (s ≤ r) × IsLeastRank L A R p q s
  pub all : (p q : ℕ) → p < L.states → q < A.states → R p q
      → Holds unranked.pairs p q ⊎ ((s : ℕ) × IsRanked A ranks p q s)
  pub rows : (p q : ℕ) → p < L.states → q < A.states
      → HasCell fresh (row_words A) p q ↔ IsRanked A ranks p q r
  pub columns : (p q : ℕ) → p < L.states → q < row_words A * 64 → HasCell fresh (row_words A) p q
      → q < A.states
  pub noted : (t q : ℕ) → t < length L.transitions → q < A.states
      → HasCell answered (row_words A) t q
      ↔ ((q' s : ℕ) × Moves A q (trans_at L t).label q'
      × IsRanked A ranks (trans_at L t).target q' s × (s < r))

-- The table has the least rank of each pair that can have one inside R, and no other rank.
pub record AreLeastRanks (L A : Automaton) (R : ℕ → ℕ → Type 0) (ranks : List ℕ) : Type 0 where
  pub len : length ranks ≡ L.states * A.states
  pub each : (p q r : ℕ) → p < L.states → q < A.states → rank_in_table ranks A.states p q ≡ Some r
      → IsLeastRank L A R p q r
  pub all : (p q r : ℕ) → p < L.states → q < A.states → CanHave L A R r p q
      → (s : ℕ) × (rank_in_table ranks A.states p q ≡ Some s)

-- The table has the least ranks of the pairs of a list, which has those of R.
abbrev pub HadLeastRanks : Automaton → Automaton → Pairing → List ℕ → Type 0
HadLeastRanks L A R ranks =
    (S : List (ℕ × ℕ)) × ArePairsBelow L.states A.states S × IsWithin R.pairs S
    × AreLeastRanks L A (Holds S) ranks
