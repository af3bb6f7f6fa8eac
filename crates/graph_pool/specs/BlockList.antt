-- Blocks of one size, in a row.
use Rattle.std.specs.Prelude.{ℕ, List, refl, slice_set, get_or, []}
use Rattle.std.specs.Coded.{Coded, code_by, coded×, coded_list, coded_ℕ}
use Rattle.std.specs.List.{refill}

-- Blocks of `size` words each.
pub record BlockList : Type 0 where
  pub size : ℕ
  pub blocks : List (List ℕ)

abbrev pub list_code : Coded BlockList
list_code =
    code_by (ℕ × List (List ℕ))
    (coded× coded_ℕ (coded_list (coded_list coded_ℕ))) (λ b. (b.size, b.blocks)) (λ p.
    record { size = p.0; blocks = p.1 }) (λ _. refl)

-- The blocks with the words of the block at i replaced.
abbrev pub with_block : BlockList → ℕ → List ℕ → BlockList
with_block b i ws =
    record {
      size = b.size;
      blocks = slice_set b.blocks i (refill b.size (get_or b.blocks i []) ws);
    }
