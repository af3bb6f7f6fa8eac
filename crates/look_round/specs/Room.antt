-- What room for rounds is made for.
use Rattle.std.specs.Prelude.{ℕ}

-- Room for the rounds on an automaton with so many states at this lookahead.
pub record Room : Type 0 where
  pub states : ℕ
  pub look : ℕ
