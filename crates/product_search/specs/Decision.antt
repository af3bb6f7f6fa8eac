-- What the answers of the decision mean.
use Rattle.std.specs.Prelude.{◌≡◌, ℕ, ◌<◌, ◌≤◌, ◌↔◌, List, length, Vec}
use Rattle.std.specs.Global.{Global}
use Rattle.auto_core.specs.Automaton.{Automaton}
use Rattle.auto_core.specs.Accept.{SeparatesLasso}
use Rattle.auto_core.specs.declared.parts.Lasso.{Lasso}
use Rattle.product_laws.specs.declared.RankedPair.{RankedPair}
use Rattle.product_laws.specs.Ranked.{HasPair, IsRankedProduct}
use Rattle.product_laws.specs.Reached.{IsReachedPair}
use Rattle.product_laws.specs.Ascending.{AreAscending}
use Rattle.product_search.specs.Found.{pair_at}
use Rattle.product_search.specs.declared.deciding.Product.{Product}

-- More than `limit` different pairs are reached.
abbrev pub AreMoreReached : Automaton → Automaton → ℕ → Type 0
AreMoreReached A B limit =
    (pairs : List (ℕ × ℕ))
    × (limit < length pairs)
    × ((i j : ℕ) → i < j → j < length pairs → pair_at pairs i ≡ pair_at pairs j → ⊥)
    × ((i : ℕ) → i < length pairs → IsReachedPair A B (pair_at pairs i).0 (pair_at pairs i).1)

-- The pairs of a yes are a ranked product, in order.
abbrev pub IncludedIsRight : Automaton → Automaton → Product → Type 0
IncludedIsRight A B answer =
    (pairs : Vec RankedPair Global) → answer ≡ Product.Included pairs
    → IsRankedProduct A B pairs.items × AreAscending pairs.items

-- The pairs of a yes are just those that are reached.
abbrev pub HasJustReached : Automaton → Automaton → Product → Type 0
HasJustReached A B answer =
    (pairs : Vec RankedPair Global) → answer ≡ Product.Included pairs → (p q : ℕ)
    → HasPair pairs.items p q ↔ IsReachedPair A B p q

-- A yes has at most so many pairs.
abbrev pub HasAtMost : ℕ → Product → Type 0
HasAtMost most answer =
    (pairs : Vec RankedPair Global) → answer ≡ Product.Included pairs → length pairs.items ≤ most

-- The lasso of a no separates the automata.
abbrev pub ApartIsRight : Automaton → Automaton → Product → Type 0
ApartIsRight A B answer =
    (lasso : Lasso) → answer ≡ Product.Apart lasso → SeparatesLasso A B lasso.prefix lasso.turn

-- The limit is met only where more pairs are reached.
abbrev pub LimitIsRight : Automaton → Automaton → ℕ → Product → Type 0
LimitIsRight A B limit answer = answer ≡ Product.Limit → AreMoreReached A B limit
