-- How classes are counted, and what a list of numbers lacks that gives no classes.
use Rattle.std.specs.Prelude.{◌≡◌, ℕ, ◌<◌, ◌⊎◌, ◌↔◌, List, length}
use Rattle.auto_core.specs.Quotient.{class_of}

-- Just the numbers below n are classes of the first q states.
abbrev pub IsCount : List ℕ → ℕ → ℕ → Type 0
IsCount classes q n = (c : ℕ) → (c < n) ↔ ((p : ℕ) × (p < q) × (class_of classes p ≡ c))

-- Among the first q states each lesser class number appears before.
abbrev pub AreInOrder : List ℕ → ℕ → Type 0
AreInOrder classes q =
    (p c : ℕ) → p < q → c < class_of classes p → (r : ℕ) × (r < p) × (class_of classes r ≡ c)

-- There is no state, or a state whose class number has a lesser one that does not appear before.
abbrev pub HasShapeFault : List ℕ → Type 0
HasShapeFault classes =
    (length classes ≡ 0)
    ⊎ ((q c : ℕ) × (q < length classes) × (c < class_of classes q)
    × ((p : ℕ) → p < q → class_of classes p ≡ c → ⊥))

-- The class of the state q is that of a state before q that R relates to q both ways, or the next
-- one if there is none.
abbrev pub IsClassFor : (ℕ → ℕ → Type 0) → List ℕ → ℕ → ℕ → ℕ → Type 0
IsClassFor R classes q next class =
    ((p : ℕ) × (p < q) × R p q × R q p × (class ≡ class_of classes p))
    ⊎ (((p : ℕ) → p < q → R p q → R q p → ⊥) × (class ≡ next))
