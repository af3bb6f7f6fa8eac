-- Ranked products: pairs of states with ranks that show inclusion in a deterministic automaton.
use Rattle.std.specs.Prelude.{◌≡◌, ℕ, ◌<◌, ◌≤◌, ◌⊎◌, List, Contains}
use Rattle.auto_core.specs.Automaton.{Automaton, Moves, IsAccepting}
use Rattle.product_laws.specs.declared.RankedPair.{RankedPair}

-- The automaton has at most one move from each state by each letter.
abbrev pub IsDeterministic : Automaton → Type 0
IsDeterministic B = (q a s t : ℕ) → Moves B q a s → Moves B q a t → s ≡ t

-- The list has the pair with this rank.
abbrev pub HasRank : List RankedPair → ℕ → ℕ → ℕ → Type 0
HasRank pairs p q rank = Contains pairs (record { left = p; right = q; rank = rank })

-- The list has the pair, with some rank.
abbrev pub HasPair : List RankedPair → ℕ → ℕ → Type 0
HasPair pairs p q = (rank : ℕ) × HasRank pairs p q rank

-- The list has the pair of the initial states.
abbrev pub HasInitialPair : Automaton → Automaton → List RankedPair → Type 0
HasInitialPair A B pairs = HasPair pairs A.initial B.initial

-- Both parts of the pair are states.
abbrev pub IsPairOfStates : Automaton → Automaton → RankedPair → Type 0
IsPairOfStates A B x = (x.left < A.states) × (x.right < B.states)

-- B has a move from q by the letter a, and the list has the pair of r and the state that it leads
-- to.
abbrev pub IsCovered : Automaton → List RankedPair → ℕ → ℕ → ℕ → Type 0
IsCovered B pairs q a r = (s : ℕ) × Moves B q a s × HasPair pairs r s

-- Each move of the pair's left state has a move of its right state by the same letter, and the list
-- has the pair that both lead to.
abbrev pub CoversMoves : Automaton → Automaton → List RankedPair → RankedPair → Type 0
CoversMoves A B pairs x = (a r : ℕ) → Moves A x.left a r → IsCovered B pairs x.right a r

-- A pair of rank `before` is followed by the pair (r, s) of rank `after`: s accepts, or the rank
-- does not grow, and falls if r accepts.
abbrev pub RankGoesOn : Automaton → Automaton → ℕ → ℕ → ℕ → ℕ → Type 0
RankGoesOn A B before r s after =
    IsAccepting B s ⊎ ((after ≤ before) × (IsAccepting A r → after < before))

-- The rank goes on along a move of the pair's left state by the letter a to r.
abbrev pub RankGoesOnBy : Automaton → Automaton → List RankedPair → RankedPair → ℕ → ℕ → Type 0
RankGoesOnBy A B pairs x a r =
    (s rank : ℕ) → Moves B x.right a s → HasRank pairs r s rank → RankGoesOn A B x.rank r s rank

-- The rank goes on along each move of both parts of the pair by the same letter.
abbrev pub RanksGoOn : Automaton → Automaton → List RankedPair → RankedPair → Type 0
RanksGoOn A B pairs x = (a r : ℕ) → Moves A x.left a r → RankGoesOnBy A B pairs x a r

-- The pairs are a ranked product: B is deterministic, the pair of the initial states is there, each
-- pair's moves lead from states to pairs that are there, and the ranks go on along them.
pub record IsRankedProduct (A B : Automaton) (pairs : List RankedPair) : Type 0 where
  pub deterministic : IsDeterministic B
  pub starts : HasInitialPair A B pairs
  pub states : (x : RankedPair) → Contains pairs x → IsPairOfStates A B x
  pub moves : (x : RankedPair) → Contains pairs x → CoversMoves A B pairs x
  pub ranks : (x : RankedPair) → Contains pairs x → RanksGoOn A B pairs x
