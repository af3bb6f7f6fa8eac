-- The digits that numbers are written with, in certificates and in words of the command line.
use Rattle.std.specs.Prelude.{ℕ, Bool, ◌&&◌, nat_le}

-- A byte from `0` to `9`.
abbrev pub is_digit : ℕ → Bool
is_digit b = nat_le 48 b && nat_le b 57
