-- Between what `clap` says and the question.
use Rattle.std.proofs.Common.{◌≡◌, ℕ, Bool, ◌||◌, List, [], ◌∷◌, map, Option, Some, None, IfSome, refl, sym, ap, subst}
use Rattle.std.specs.Prelude.{option_map}
use Rattle.std.specs.List.{list_any}
use Rattle.clap.specs.Words.{Row, Kinds, IsAmong}
use Rattle.clap.specs.declared.error.kind.ErrorKind.{ErrorKind}
use Rattle.rabit_words.specs.Question.{asks_unless}

pub any_of_map : {X Y : Type 0} (p : Y → Bool) (f : X → Y) (xs : List X) → list_any p (map f xs) ≡ list_any (λ x. p (f x)) xs
any_of_map p f [] = refl
any_of_map p f (x ∷ xs) = ap (λ b. p (f x) || b) (any_of_map p f xs)

-- where the words have a fault there is no question
pub faulty : (kind : ErrorKind) (kinds : Kinds) (found : Option (List ℕ × List Row)) → IsAmong kind kinds → None ≡ asks_unless kinds found
faulty kind [] found among = absurd among
faulty kind (k ∷ ks) found among = refl

-- a fact of the question is one of what is held of it
pub told_gives : {X Y : Type 0} (P : Y → Type 0) (f : X → Y) (o : Option X) (q : Option Y) → option_map f o ≡ q → IfSome q P → IfSome o (λ x. P (f x))
told_gives P f None q e h = tt
told_gives P f (Some x) q e h = subst (λ z. IfSome z P) (sym e) h
