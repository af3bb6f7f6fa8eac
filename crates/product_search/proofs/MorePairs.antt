-- A list of pairs with one more behind it.
use Rattle.std.proofs.Common.{◌≡◌, ℕ, ◌+◌, ◌<◌, inl, inr, List, [], ◌∷◌, ◌++◌, length, Contains, sym, ◌∙◌, subst, arith, length-append}
use Rattle.std.proofs.lemmas.Bool.{cases_eq}
use Rattle.std.proofs.lemmas.List.{get_or_push, get_or_append_left}
use Rattle.std.proofs.lemmas.List.Elements.{Contains-get_or}
use Rattle.product_search.specs.Found.{pair_at}

pub contains_at : (pairs : List (ℕ × ℕ)) (i : ℕ) → i < length pairs → Contains pairs (pair_at pairs i)
contains_at pairs i lt = Contains-get_or pairs i (0, 0) lt

module _ (pairs : List (ℕ × ℕ)) (x : ℕ × ℕ) where
  pub size_more : length (pairs ++ x ∷ []) ≡ length pairs + 1
  size_more = length-append pairs (x ∷ [])

  pub old_at : (i : ℕ) → i < length pairs → pair_at (pairs ++ x ∷ []) i ≡ pair_at pairs i
  old_at i lt = get_or_append_left pairs (x ∷ []) (0, 0) i lt

  pub new_at : (i : ℕ) → i ≡ length pairs → pair_at (pairs ++ x ∷ []) i ≡ x
  new_at i e = get_or_push pairs x (0, 0) i (sym e)

  -- What each has of which the new one has it.
  pub each_pair :
      (P : ℕ × ℕ → Type 0)
      → ((i : ℕ) → i < length pairs → P (pair_at pairs i))
      → P x
      → (i : ℕ) → i < length (pairs ++ x ∷ []) → P (pair_at (pairs ++ x ∷ []) i)
  each_pair P old here i lt = elim (cases_eq i (length pairs)) [
    | inl e ↦ subst P (sym (new_at i e)) here
    | inr apart ↦
        let below : i < length pairs = omega (arith, lt, size_more, apart) in
        subst P (sym (old_at i below)) (old i below)
  ]

  -- The pairs stay different where the new one was not among them.
  pub different_more :
      ((i j : ℕ) → i < j → j < length pairs → pair_at pairs i ≡ pair_at pairs j → ⊥)
      → (Contains pairs x → ⊥)
      → (i j : ℕ) → i < j → j < length (pairs ++ x ∷ [])
      → pair_at (pairs ++ x ∷ []) i ≡ pair_at (pairs ++ x ∷ []) j
      → ⊥
  different_more different new i j lt within same =
      let size = size_more in
      elim (cases_eq j (length pairs)) [
        | inl e ↦
            let below : i < length pairs = omega arith in
            new (subst (λ y. Contains pairs y) (sym (old_at i below) ∙ same ∙ new_at j e) (contains_at pairs i below))
        | inr apart ↦
            let below : j < length pairs = omega arith in
            let i_below : i < length pairs = omega arith in
            different i j lt below (sym (old_at i i_below) ∙ same ∙ old_at j below)
      ]
