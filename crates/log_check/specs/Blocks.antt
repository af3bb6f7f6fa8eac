-- What the blocks of a certificate list, pairs or triples with ranks, and whether they name states
-- and labels.
use Rattle.std.specs.Prelude.{◌≡◌, ℕ, ◌<◌, ◌↔◌, Option, List, map, All, Contains}
use Rattle.std.specs.List.{flat_map}
use Rattle.auto_core.specs.Automaton.{Automaton}
use Rattle.auto_core.specs.Game.{Holds}
use Rattle.auto_core.specs.Delayed.{RankedTriples, rank_in_code}
use Rattle.bit_rel.specs.Relation.{Relation}
use Rattle.delayed_sim.specs.Rankings.{Ranking}
use Rattle.cert_value.specs.declared.types.RelBlock.{RelBlock}
use Rattle.cert_value.specs.declared.types.Row.{Row}
use Rattle.cert_value.specs.declared.types.Run.{Run}
use Rattle.cert_value.specs.declared.types.RankBlock.{RankBlock}
use Rattle.cert_value.specs.declared.types.RankRow.{RankRow}
use Rattle.cert_value.specs.declared.types.Ranked.{Ranked}
use Rattle.cert_value.specs.Text.{numbers_of}

-- The pairs of p with these numbers.
abbrev pub pairs_with : ℕ → List ℕ → List (ℕ × ℕ)
pairs_with p numbers = map (λ q. (p, q)) numbers

-- The pairs of a row: those of its left number with the numbers that its runs stand for.
abbrev pub pairs_of_row : Row → List (ℕ × ℕ)
pairs_of_row row = pairs_with row.left (numbers_of row.runs)

-- The pairs that the block lists.
abbrev pub pairs_of : RelBlock → List (ℕ × ℕ)
pairs_of block = flat_map pairs_of_row block.rows

-- The numbers of the row are below n: of a run the last one tells.
abbrev pub IsRowBelow : ℕ → Row → Type 0
IsRowBelow n row = (row.left < n) × All (λ (run : Run). run.last < n) row.runs

-- The numbers of the block are below n.
abbrev pub IsBlockBelow : ℕ → RelBlock → Type 0
IsBlockBelow n block = All (IsRowBelow n) block.rows

-- The relation on n states holds just the pairs that the block lists.
pub record IsBlockRelation (n : ℕ) (block : RelBlock) (rel : Relation) : Type 0 where
  pub size : rel.size ≡ n
  pub pairs : (p q : ℕ) → Holds rel.pairs p q ↔ Holds (pairs_of block) p q

-- The triples of a row with ranks.
abbrev pub triples_of_row : RankRow → RankedTriples
triples_of_row row =
    map (λ (r : Ranked). (row.left, row.ahead, r.right, rank_in_code r.code)) row.rights

-- The triples that the block lists, with their ranks.
abbrev pub triples_of : RankBlock → RankedTriples
triples_of block = flat_map triples_of_row block.rows

-- The states of the row are below n, and the letters of its word are labels.
pub record IsRankRowBelow (n labels : ℕ) (row : RankRow) : Type 0 where
  pub left : row.left < n
  pub ahead : All (λ a. a < labels) row.ahead
  pub rights : All (λ (r : Ranked). r.right < n) row.rights

-- So are those of the block.
abbrev pub IsRankBlockBelow : ℕ → ℕ → RankBlock → Type 0
IsRankBlockBelow n labels block = All (IsRankRowBelow n labels) block.rows

-- The relation with ranks, on the states and labels of A and with n announced letters, holds just
-- the triples that the block lists, with their ranks.
pub record IsRankingOf (A : Automaton) (n : ℕ) (block : RankBlock) (ranks : Ranking) : Type 0 where
  pub states : ranks.states ≡ A.states
  pub labels : ranks.labels ≡ A.labels
  pub letters : ranks.letters ≡ n
  pub triples :
      (b : List ℕ) (p q : ℕ) (rank : Option ℕ)
      → Contains ranks.triples (p, b, q, rank) ↔ Contains (triples_of block) (p, b, q, rank)
