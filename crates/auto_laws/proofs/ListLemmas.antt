-- What is read at places of mapped lists.
use Rattle.std.proofs.Common.{◌≡◌, ℕ, zero, suc, List, [], ◌∷◌, map, get_or, ap}
use Rattle.std.specs.Prelude.{Some}
use Rattle.std.proofs.lemmas.Option.{same_Some, none-some, get_or_from_slice_get}
use Rattle.auto_core.specs.Outcome.{At}

pub at_map : {X Y : Type 0} (f : X → Y) (xs : List X) (i : ℕ) (x : X) → At xs i x → At (map f xs) i (f x)
at_map f [] i x is = absurd (none-some x is)
at_map f (y ∷ xs) zero x is = ap (λ z. Some (f z)) (same_Some y x is)
at_map f (y ∷ xs) (suc i) x is = at_map f xs i x is

pub read_map : {X Y : Type 0} (f : X → Y) (xs : List X) (i : ℕ) (x : X) (d : Y) → At xs i x → get_or (map f xs) i d ≡ f x
read_map f xs i x d is = get_or_from_slice_get (map f xs) i (f x) d (at_map f xs i x is)
