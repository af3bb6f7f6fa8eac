-- A pair that has to stay.
use Rattle.std.specs.Prelude.{ℕ, List, Option, Some, None}
use Rattle.bit_rel.specs.Relation.{Relation}
use Rattle.look_game.specs.Taking.{IsMatching, TakesAway, HasStable}
use Rattle.look_game.specs.declared.asked.Pair.{Pair}
use Rattle.look_game.specs.Asked.{IsLost, IsNeverKept}

-- A pair that was lost is in no stable list.
pub lost_for_ever :
    (M : ℕ → ℕ → ℕ → Type 0) (ok : ℕ → ℕ → Type 0) (k n : ℕ) (first R : Relation) (asked : Option Pair)
    → HasStable M ok k n first.pairs
    → TakesAway M ok k first R
    → IsLost R.pairs asked
    → IsNeverKept M ok k n asked
lost_for_ever M ok k n first R None has takes lost = λ T below stable. lost
lost_for_ever M ok k n first R (Some pair) has takes lost = λ T below stable h.
    lost (takes.leaves T stable (has.has_each T below stable) pair.left pair.right h)

-- A pair that the relation with each stable list inside has not is in none.
pub lost_at_once :
    (M : ℕ → ℕ → ℕ → Type 0) (ok : ℕ → ℕ → Type 0) (k n : ℕ) (S : List (ℕ × ℕ)) (asked : Option Pair)
    → HasStable M ok k n S
    → IsLost S asked
    → IsNeverKept M ok k n asked
lost_at_once M ok k n S None has lost = λ T below stable. lost
lost_at_once M ok k n S (Some pair) has lost = λ T below stable h. lost (has.has_each T below stable pair.left pair.right h)

-- All pairs that match have each stable list inside.
pub matching_has_stable :
    (M : ℕ → ℕ → ℕ → Type 0) (ok : ℕ → ℕ → Type 0) (k n : ℕ) (R : Relation) → IsMatching ok n R → HasStable M ok k n R.pairs
matching_has_stable M ok k n R all = record {
  in_range = λ p q h. let is = (all.pairs p q).0 h in (is.0, is.1);
  matching = λ p q h. ((all.pairs p q).0 h).2;
  has_each = λ T below stable p q h. let lt = below p q h in (all.pairs p q).1 (lt.0, lt.1, (stable p q h).0);
}

-- So it stays where pairs are taken away that none of them has.
pub has_stable_after :
    (M : ℕ → ℕ → ℕ → Type 0) (ok : ℕ → ℕ → Type 0) (k n : ℕ) (R S : Relation) → HasStable M ok k n R.pairs → TakesAway M ok k R S → HasStable M ok k n S.pairs
has_stable_after M ok k n R S has takes = record {
  in_range = λ p q h. has.in_range p q (takes.within p q h);
  matching = λ p q h. has.matching p q (takes.within p q h);
  has_each = λ T below stable. takes.leaves T stable (has.has_each T below stable);
}
