-- Lists in order, and repeats through a permutation.
use Rattle.std.proofs.Common.{◌≡◌, ℕ, zero, suc, ◌+◌, ◌<◌, ◌≤◌, ◌⊎◌, inl, inr, List, length, sym, refl, ap, ◌∙◌, arith, add-one, true, false, get_or, ◌&&◌, eqb, ltb}
use Rattle.std.specs.List.{swap}
use Rattle.std.specs.List.Sorted.{IsPermutation, IsPartitionPoint}
use Rattle.std.specs.Ordering.{is_lt, nat_cmp, ordering_then}
use Rattle.std.proofs.lemmas.Bool.Decides.{nat_tests}
use Rattle.std.proofs.lemmas.Bool.{cases_eq}
use Rattle.std.proofs.lemmas.List.Sorted.{IsPermutation-sym, IsPermutation-keeps}
use Rattle.std.proofs.lemmas.List.Edits.{swapped_from_swap, length-swap}
use Rattle.auto_core.specs.Automaton.{HasRepeat, IsBefore, trans, IsAscending}
use Rattle.auto_core.specs.Build.{IsStart}
use Rattle.auto_core.specs.declared.parts.Trans.{Trans}
use Rattle.auto_core.specs.contracts.parts.TransOrd.TheImpl.{cmp-value}

-- three numbers against three others, compared one after the other
pub lex :
    (a b c x y z : ℕ)
    → is_lt (ordering_then (nat_cmp x a) (ordering_then (nat_cmp y b) (nat_cmp z c))) ≡ false
    → (a < x) ⊎ ((a ≡ x) × (b < y)) ⊎ ((a ≡ x) × (b ≡ y) × (c < z)) ⊎ ((a ≡ x) × (b ≡ y) × (c ≡ z))
lex a b c x y z h = grind (arith, nat_tests)

built : (a b c x y z : ℕ) → a ≡ x → b ≡ y → c ≡ z → trans a b c ≡ trans x y z
built a b c x y z p q r = cc

pub rises : (t u : Trans) → is_lt (cmp-value.it u t) ≡ false → ¬ (t ≡ u) → IsBefore t u
rises t u h n =
    elim (lex t.source t.label t.target u.source u.label u.target h) [
      | inl p ↦ inl p
      | inr q ↦
          elim q [
            | inl p ↦ inr (inl p)
            | inr r ↦
                elim r [
                  | inl p ↦ inr (inr p)
                  | inr p ↦ absurd (n (built t.source t.label t.target u.source u.label u.target p.0 p.1 p.2))
                ]
          ]
    ]

pub IsBefore-trans : (t u v : Trans) → IsBefore t u → IsBefore u v → IsBefore t v
IsBefore-trans t u v p q = before_trans t.source t.label t.target u.source u.label u.target v.source v.label v.target p q
  where
    before_trans :
        (a b c x y z k l m : ℕ)
        → IsBefore (trans a b c) (trans x y z)
        → IsBefore (trans x y z) (trans k l m)
        → IsBefore (trans a b c) (trans k l m)
    before_trans a b c x y z k l m p q = grind arith

-- each before the next, so each before all later ones
pub ascends :
    (xs : List Trans)
    → ((k : ℕ) → k + 1 < length xs → IsBefore (get_or xs k (trans 0 0 0)) (get_or xs (k + 1) (trans 0 0 0)))
    → IsAscending xs
ascends xs step i j i_below j_in = go j i i_below j_in
  where
    go : (j i : ℕ) → i < j → j < length xs → IsBefore (get_or xs i (trans 0 0 0)) (get_or xs j (trans 0 0 0))
    go zero i i_below j_in = absurd (omega arith)
    go (suc m) i i_below j_in =
        let last : IsBefore (get_or xs m (trans 0 0 0)) (get_or xs (suc m) (trans 0 0 0)) =
        rw (← add-one m) (step m (omega arith)) in
        elim (cases_eq i m) [
          | inl e ↦ rw e last
          | inr n ↦
              IsBefore-trans
              (get_or xs i (trans 0 0 0))
              (get_or xs m (trans 0 0 0))
              (get_or xs (suc m) (trans 0 0 0))
              (go m i (omega arith) (omega arith))
              last
        ]

-- where k is after an exchange of a and b
Moved : {X : Type 0} → List X → ℕ → ℕ → ℕ → Type 0
Moved {X} l a b k =
    (k' : ℕ)
    × (k' < length l)
    × ((d : X) → get_or (swap l a b) k' d ≡ get_or l k d)
    × (((k ≡ a) × (k' ≡ b)) ⊎ ((k ≡ b) × (k' ≡ a)) ⊎ (¬ (k ≡ a) × ¬ (k ≡ b) × (k' ≡ k)))

moved : {X : Type 0} → (l : List X) (a b k : ℕ) → a < length l → b < length l → k < length l → Moved l a b k
unfolding Moved
moved l a b k a_in b_in k_in =
    elim (cases_eq k a) [
      | inl e ↦ (b, b_in, λ d. (swapped_from_swap l (swap l a b) a b d a_in b_in refl).1 ∙ ap (λ m. get_or l m d) (sym e), inl (e, refl))
      | inr not_a ↦
          elim (cases_eq k b) [
            | inl e ↦
                (a, a_in, λ d. (swapped_from_swap l (swap l a b) a b d a_in b_in refl).0 ∙ ap (λ m. get_or l m d) (sym e), inr (inl (e, refl)))
            | inr not_b ↦
                (k, k_in, λ d. (swapped_from_swap l (swap l a b) a b d a_in b_in refl).2 k not_a not_b, inr (inr (not_a, not_b, refl)))
          ]
    ]

apart : (a b x y x' y' : ℕ)
    → ((x ≡ a) × (x' ≡ b)) ⊎ ((x ≡ b) × (x' ≡ a)) ⊎ (¬ (x ≡ a) × ¬ (x ≡ b) × (x' ≡ x))
    → ((y ≡ a) × (y' ≡ b)) ⊎ ((y ≡ b) × (y' ≡ a)) ⊎ (¬ (y ≡ a) × ¬ (y ≡ b) × (y' ≡ y))
    → ¬ (x ≡ y)
    → ¬ (x' ≡ y')
apart a b x y x' y' p q n e = grind arith

repeat_swapped : {X : Type 0} → (l : List X) (a b : ℕ) → a < length l → b < length l → HasRepeat l → HasRepeat (swap l a b)
unfolding Moved
repeat_swapped l a b a_in b_in (x, y, n, x_in, y_in, e) =
    let p = moved l a b x a_in b_in x_in in
    let q = moved l a b y a_in b_in y_in in
    let len = length-swap l a b in
    (p.0, q.0, apart a b x y p.0 q.0 p.3 q.3 n, rw len p.1, rw len q.1, λ d. p.2 d ∙ e d ∙ sym (q.2 d))

pub repeat_back : {X : Type 0} (xs ys : List X) → IsPermutation xs ys → HasRepeat ys → HasRepeat xs
repeat_back xs ys p h = IsPermutation-keeps ys HasRepeat h repeat_swapped xs (IsPermutation-sym xs ys p)

parts_same : (a b c x y z : ℕ) → true ≡ (eqb a x && (eqb b y && eqb c z)) → (a ≡ x) × (b ≡ y) × (c ≡ z)
parts_same a b c x y z h = grind (arith, nat_tests)

pub same_trans :
    (t u : Trans) → true ≡ (eqb t.source u.source && (eqb t.label u.label && eqb t.target u.target)) → t ≡ u
same_trans t u h =
    let p = parts_same t.source t.label t.target u.source u.label u.target h in
    built t.source t.label t.target u.source u.label u.target p.0 p.1 p.2

pub start_from_partition :
    (keys : List ℕ) (p i : ℕ)
    → i ≤ length keys
    → IsPartitionPoint (λ x. ltb x p ≡ true) (λ x. ltb x p ≡ false) keys i
    → IsStart keys p i
start_from_partition keys p i i_in point =
    record {
      within = i_in;
      below = λ k k_below. let t = point.0 k 0 (omega arith) k_below in grind (arith, nat_tests);
      above = λ k k_from k_in. let t = point.1 k 0 k_from k_in in grind (arith, nat_tests);
    }
