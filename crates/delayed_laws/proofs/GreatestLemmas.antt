-- What the greatest right relation decides, and that there is one at most.
use Rattle.std.proofs.Common.{◌≡◌, ℕ, Option, None, Some, Contains, refl, subst, arith}
use Rattle.auto_core.specs.Automaton.{Automaton}
use Rattle.delayed_game.specs.Across.{RankedPlacePairs}
use Rattle.delayed_game.proofs.CanLemmas.{none_is_some}
use Rattle.delayed_laws.specs.Greatest.{IsGreatestDelayedAcross, GreatestDecides, GreatestIsOne}

pub greatest_decides : GreatestDecides
greatest_decides A B X valid_a valid_b is = (
  λ held. (X, record { starts = held; right = is.right }),
  λ some. is.has_each some.0 some.1.right A.initial B.initial valid_a.initial_is_state valid_b.initial_is_state some.1.starts,
)

-- Each pair of the one is in the other with the same rank.
one_way : (A B : Automaton) (X Y : RankedPlacePairs) → IsGreatestDelayedAcross A B X → IsGreatestDelayedAcross A B Y → (p q : ℕ) (o : Option ℕ) → Contains X (p, q, o) → Contains Y (p, q, o)
one_way A B X Y is_x is_y p q None h =
    let place = is_x.in_range p q (None, h) in
    let held = is_y.has_each X is_x.right p q place.0 place.1 (None, h) in
    without held.0 held.1
  where
    without : (m : Option ℕ) → Contains Y (p, q, m) → Contains Y (p, q, None)
    without None has = has
    without (Some s) has =
        let place = is_x.in_range p q (None, h) in
        let (r, rank, le) = is_x.least Y is_y.right p q s place.0 place.1 has in
        absurd (none_is_some None r refl (is_x.once p q None (Some r) h rank))
one_way A B X Y is_x is_y p q (Some s) h =
    let place = is_x.in_range p q (Some s, h) in
    let (r, has, le) = is_y.least X is_x.right p q s place.0 place.1 h in
    let (t, back, ge) = is_x.least Y is_y.right p q r place.0 place.1 has in
    let same : t ≡ s = some_same t s (is_x.once p q (Some t) (Some s) back h) in
    let e : r ≡ s = omega arith in
    subst (λ m. Contains Y (p, q, Some m)) e has
  where
    some_same : (t s : ℕ) → Some t ≡ Some s → t ≡ s
    some_same t s e = cc

pub greatest_is_one : GreatestIsOne
greatest_is_one A B X Y is_x is_y p q o = (one_way A B X Y is_x is_y p q o, one_way A B Y X is_y is_x p q o)
