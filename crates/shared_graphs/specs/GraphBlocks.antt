-- What is seen of the blocks of graphs in a pool.
use Rattle.std.specs.Prelude.{◌≡◌, ℕ, List, refl}
use Rattle.std.specs.Ordering.{nat_cmp}
use Rattle.std.specs.FinMap as map
use Rattle.std.specs.Coded.{Coded, code_by, coded×, coded_list, coded_ℕ}

-- The number of words of a block, the pool's other blocks, how many free ones it had before, the
-- words of the blocks of graphs by their numbers, and those of the fresh block.
pub record Blocks : Type 0 where
  pub words : ℕ
  pub rest : map.FinMap nat_cmp (List ℕ)
  pub free_before : ℕ
  pub items : List (List ℕ)
  pub fresh : List ℕ

abbrev pub blocks_code : Coded Blocks
blocks_code =
    code_by (ℕ × (map.FinMap nat_cmp (List ℕ) × (ℕ × (List (List ℕ) × List ℕ))))
    (coded× coded_ℕ
    (coded× (map.code coded_ℕ (coded_list coded_ℕ))
    (coded× coded_ℕ (coded× (coded_list (coded_list coded_ℕ)) (coded_list coded_ℕ)))))
    (λ b. (b.words, (b.rest, (b.free_before, (b.items, b.fresh))))) (λ p.
    record {
      words = p.0;
      rest = p.1.0;
      free_before = p.1.1.0;
      items = p.1.1.1.0;
      fresh = p.1.1.1.1;
    }) (λ _. refl)

-- The pool's other blocks are the same, with their words, and so is the number of free blocks that
-- was noted when the pool was taken.
abbrev pub SamePool : Blocks → Blocks → Type 0
SamePool old new =
    (new.words ≡ old.words) × (new.rest ≡ old.rest) × (new.free_before ≡ old.free_before)
