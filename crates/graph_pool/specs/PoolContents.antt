-- What a contract sees of a pool.
use Rattle.std.specs.Prelude.{ℕ, List, [], refl, unwrap_or}
use Rattle.std.specs.Ordering.{nat_cmp}
use Rattle.std.specs.FinMap as map
use Rattle.std.specs.Coded.{Coded, code_by, coded×, coded_list, coded_ℕ}
use Rattle.std.specs.List.{refill}

-- The number of words of a block, the words under each live handle, and the number of free blocks.
pub record PoolContents : Type 0 where
  pub words : ℕ
  pub blocks : map.FinMap nat_cmp (List ℕ)
  pub free : ℕ

abbrev pub pool_code : Coded PoolContents
pool_code =
    code_by (ℕ × (map.FinMap nat_cmp (List ℕ) × ℕ))
    (coded× coded_ℕ (coded× (map.code coded_ℕ (coded_list coded_ℕ)) coded_ℕ)) (λ p.
    (p.words, (p.blocks, p.free))) (λ c. record { words = c.0; blocks = c.1.0; free = c.1.1 }) (λ _.
    refl)

-- The words under a handle.
abbrev pub words_at : PoolContents → ℕ → List ℕ
words_at p h = unwrap_or (map.get p.blocks h) []

-- The pool with other words under a handle.
abbrev pub with_words : PoolContents → ℕ → List ℕ → PoolContents
with_words p h ws = record p { blocks = map.insert p.blocks h (refill p.words (words_at p h) ws) }
