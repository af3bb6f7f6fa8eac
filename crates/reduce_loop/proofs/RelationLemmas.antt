-- Relations that hold the same pairs are one.
use Rattle.std.proofs.Common.{◌≡◌, ℕ, ◌↔◌, List, [], ◌∷◌, arith}
use Rattle.auto_core.specs.Game.{Holds}
use Rattle.auto_core.proofs.MemberLemmas.{Rises, same_members}
use Rattle.bit_rel.specs.Relation.{Relation, IsPairBefore, ArePairsAscending, IsRelation}

-- pairs that ascend are one list if they have the same members
pairs_rise : (xs : List (ℕ × ℕ)) → ArePairsAscending xs → Rises IsPairBefore xs
pairs_rise [] up = tt
pairs_rise (x ∷ xs) up = (up.0, pairs_rise xs up.1)

pair_before : (x y : ℕ × ℕ) → IsPairBefore x y → IsPairBefore y x → ⊥
pair_before x y h k = both x.0 x.1 y.0 y.1 h k
  where
    both : (a b c d : ℕ) → IsPairBefore (a, b) (c, d) → IsPairBefore (c, d) (a, b) → ⊥
    both a b c d h k = omega arith

pub same_relation : (rel other : Relation) → IsRelation rel → IsRelation other → rel.size ≡ other.size → ((p q : ℕ) → Holds rel.pairs p q ↔ Holds other.pairs p q) → rel ≡ other
same_relation rel other valid also size same =
    made rel.size other.size rel.pairs other.pairs size
    (same_members IsPairBefore pair_before rel.pairs other.pairs (pairs_rise rel.pairs valid.in_order) (pairs_rise other.pairs also.in_order)
    (λ x h. (same x.0 x.1).0 h) (λ x h. (same x.0 x.1).1 h))
  where
    made : (m n : ℕ) (xs ys : List (ℕ × ℕ)) → m ≡ n → xs ≡ ys → (let R : Relation = record { size = m; pairs = xs } in R ≡ record { size = n; pairs = ys })
    made m n xs ys e f = λ i. record { size = e i; pairs = f i }
