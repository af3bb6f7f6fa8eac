use Rattle.std.proofs.Common.{◌≡◌, ℕ, zero, suc, List, [], ◌∷◌, drop, get_or, true, refl}
use Rattle.cert_line.specs.declared.shapes.Place.{Place}
use Rattle.cert_line.specs.declared.shapes.Tail.{Tail}
use Rattle.cert_line.specs.declared.shapes.Tail.TheVariants.{Nothing, Numbers, SomeNumbers, Pairs}
use Rattle.cert_line.specs.Shapes.{fits, has_numbers}

-- what is true of every line without tokens
pub fits_none : (places : List Place) → fits places [] ≡ true
fits_none [] = refl
fits_none (place ∷ places) = refl

pub has_numbers_none : (places : List Place) (tail : Tail) → has_numbers places tail [] ≡ true
has_numbers_none [] Nothing = refl
has_numbers_none [] Numbers = refl
has_numbers_none [] SomeNumbers = refl
has_numbers_none [] (Pairs k) = refl
has_numbers_none (place ∷ places) Nothing = refl
has_numbers_none (place ∷ places) Numbers = refl
has_numbers_none (place ∷ places) SomeNumbers = refl
has_numbers_none (place ∷ places) (Pairs k) = refl

-- the first of what is left from an index on
pub front_is : {X : Type 0} (xs : List X) (n : ℕ) (x d : X) (rest : List X) → drop n xs ≡ x ∷ rest → get_or xs n d ≡ x
front_is [] zero x d rest e = cc
front_is [] (suc n) x d rest e = cc
front_is (y ∷ ys) zero x d rest e = cc
front_is (y ∷ ys) (suc n) x d rest e = front_is ys n x d rest e
