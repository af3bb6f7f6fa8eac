-- Pairs in their order, and those of a relation with the ranks of a table.
use Rattle.std.specs.Prelude.{◌≡◌, ℕ, Bool, ◌&&◌, ◌||◌, ◌==◌, nat_lt, ◌<◌, List, length, Contains}
use Rattle.auto_core.specs.Game.{Holds}
use Rattle.bit_rel.specs.Relation.{IsPairBefore}
use Rattle.delayed_game.specs.Levels.{rank_in_table}
use Rattle.delayed_game.specs.Pairings.{Pairing}
use Rattle.delayed_laws.specs.declared.parts.DelayedPair.{DelayedPair}
use Rattle.delayed_laws.specs.Listed.{delayed_pair, delayed_at, StandsBefore, AreDelayedAscending}

-- The test whether the pair stands before the one of p and q.
abbrev pub stands_before : ℕ → ℕ → DelayedPair → Bool
stands_before p q x = nat_lt x.left p || ((x.left == p) && nat_lt x.right q)

-- The pair of p and q has this number in the list.
pub record IsNumberOf (pairs : List DelayedPair) (p q number : ℕ) : Type 0 where
  pub within : number < length pairs
  pub left : (delayed_at pairs number).left ≡ p
  pub right : (delayed_at pairs number).right ≡ q

-- The list has just the pairs of the relation that stand before (x, at), ascending, each with its
-- rank in the table.
pub record ListsBefore (R : Pairing) (ranks : List ℕ) (x at : ℕ)
    (pairs : List DelayedPair) : Type 0 where
  pub each : (y : DelayedPair) → Contains pairs y
      → Holds R.pairs y.left y.right × (rank_in_table ranks R.states y.left y.right ≡ y.rank)
      × StandsBefore y x at
  pub all : (p q : ℕ) → Holds R.pairs p q → IsPairBefore (p, q) (x, at)
      → Contains pairs (delayed_pair p q (rank_in_table ranks R.states p q))
  pub in_order : AreDelayedAscending pairs
