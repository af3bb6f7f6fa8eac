-- The rows of a relation while they are made.
use Rattle.std.specs.Prelude.{◌≡◌, ℕ, ◌+◌, ◌-◌, ◌<◌, ◌≤◌, Option, None, Some, true, List, [], ◌∷◌, length, take, drop}
use Rattle.std.specs.List.{flat_map}
use Rattle.auto_core.specs.Delayed.{HasRank}
use Rattle.cert_value.specs.declared.types.RankRow.{RankRow}
use Rattle.cert_value.specs.declared.types.Ranked.{Ranked}
use Rattle.cert_value.specs.WellFormed.{rank_key, is_less, is_rank_row, are_rank_rows}
use Rattle.delayed_sim.specs.Rankings.{Triple, Ranking, row_key, triple_at}
use Rattle.log_check.specs.Blocks.{triples_of_row}

-- The code of a rank: 0 where there is none, and otherwise one more than the rank.
abbrev pub code_for : Option ℕ → ℕ
code_for None = 0
code_for (Some r) = r + 1

-- The right state of the triple, with the code of its rank.
abbrev pub ranked_of_triple : Triple → Ranked
ranked_of_triple x = record { right = x.2; code = code_for x.3 }

-- The number of the triples, their states, the letters of their words and the codes of their ranks
-- have at most nine digits.
pub record HasFewTriples (ranks : Ranking) : Type 0 where
  pub count : length ranks.triples < 1000000000
  pub states : ranks.states ≤ 1000000000
  pub labels : ranks.labels ≤ 1000000000
  pub below : (b : List ℕ) (p q r : ℕ) → HasRank ranks.triples b p q r → r + 1 < 1000000000

-- The row has the triples from `at` up to `end`, and stands behind each row with a lesser left
-- state and word.
pub record IsRankRowOf (ranks : Ranking) (at end : ℕ) (row : RankRow) : Type 0 where
  pub triples : triples_of_row row ≡ take (end - at) (drop at ranks.triples)
  pub key : rank_key row ≡ row_key (triple_at ranks.triples at)
  pub formed : (key : List ℕ) → is_less key (rank_key row) ≡ true
      → is_rank_row ranks.letters key row ≡ true

-- The left state and the word of the last row; of none this key.
abbrev pub last_row_key : List ℕ → List RankRow → List ℕ
last_row_key key [] = key
last_row_key key (row ∷ rows) = last_row_key (rank_key row) rows

-- The rows have the triples before `at`, and the next triple belongs behind them.
pub record AreRankRows (ranks : Ranking) (at : ℕ) (rows : List RankRow) : Type 0 where
  pub within : at ≤ length ranks.triples
  pub formed : are_rank_rows ranks.letters [] rows ≡ true
  pub triples : flat_map triples_of_row rows ≡ take at ranks.triples
  pub few : length rows ≤ at
  pub next : at < length ranks.triples
      → is_less (last_row_key [] rows) (row_key (triple_at ranks.triples at)) ≡ true
