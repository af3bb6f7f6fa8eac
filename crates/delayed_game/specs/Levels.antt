-- The ranks that pairs can have inside a relation, and the table of ranks.
use Rattle.std.specs.Prelude.{ℕ, zero, suc, ◌+◌, ◌*◌, ◌≤◌, ◌⊎◌, Option, List, slice_index}
use Rattle.auto_core.specs.Automaton.{Automaton, Moves, IsAccepting}
use Rattle.auto_core.specs.Delayed.{rank_in_code}

-- Inside R the pair can have a rank of at most r: its right state is accepting, or each move of the
-- place is answered by a pair that can have a lesser one.
abbrev pub CanHave : Automaton → Automaton → (ℕ → ℕ → Type 0) → ℕ → ℕ → ℕ → Type 0
CanHave L A R zero p q = R p q × IsAccepting A q
CanHave L A R (suc r) p q =
    R p q × (IsAccepting A q
    ⊎ ((a p' : ℕ) → Moves L p a p' → (q' : ℕ) × Moves A q a q' × CanHave L A R r p' q'))

-- The least rank that the pair can have.
pub record IsLeastRank (L A : Automaton) (R : ℕ → ℕ → Type 0) (p q r : ℕ) : Type 0 where
  pub can : CanHave L A R r p q
  pub least : (s : ℕ) → CanHave L A R s p q → r ≤ s

-- The rank for which the number of the pair in a table of n columns stands.
abbrev pub rank_in_table : List ℕ → ℕ → ℕ → ℕ → Option ℕ
rank_in_table ranks n p q = rank_in_code (slice_index ranks (p * n + q))
