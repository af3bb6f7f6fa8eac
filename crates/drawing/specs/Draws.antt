-- The draws of a seed: the generator's words of 32 bits, one after another.
use Rattle.std.specs.Prelude.{ℕ, zero, suc}
use Rattle.rand_pcg.specs.Lcg.{Lcg, started, increment_of}
use Rattle.rand_pcg.specs.Pcg.{multiplier_64, pcg32}

-- The generator of a seed: 64 bits of state and words of 32 (PCG XSH RR 64/32), at its stream 54.
unfoldable pub generator_of : ℕ → Lcg
generator_of seed = started 64 multiplier_64 seed (increment_of 64 54)

-- The generator after n draws.
unfoldable pub lcg_after : ℕ → Lcg → Lcg
lcg_after zero g = g
lcg_after (suc n) g = (pcg32 (lcg_after n g)).1

-- The draw that comes after n others.
unfoldable pub draw_at : ℕ → ℕ → ℕ
draw_at seed n = (pcg32 (lcg_after n (generator_of seed))).0
