-- What is left is one thing, and has what each step keeps.
use Rattle.std.proofs.Common.{◌≡◌, ℕ, zero, suc, ◌<◌, inl, inr, sym, ◌∙◌, ap, subst, arith}
use Rattle.std.proofs.lemmas.Bool.{cases_lt}
use Rattle.lasso_shrink.specs.Leaving.{LeavesOutFirst, LeavesOut, NeedsEach, IsShrunk}

module _ {X : Type 0} (P : X → Type 0) (size : X → ℕ) (without : X → ℕ → X) where
  one_left : (x y z : X) → LeavesOutFirst P size without x y → LeavesOutFirst P size without x z → y ≡ z
  one_left x y z a b = elim (cases_lt a.place b.place) [
    | inl lt ↦ absurd (b.first a.place lt (subst P a.is a.keeps))
    | inr ge ↦ elim (cases_lt b.place a.place) [
      | inl lt ↦ absurd (a.first b.place lt (subst P b.is b.keeps))
      | inr le ↦ let same : a.place ≡ b.place = omega arith in a.is ∙ ap (without x) same ∙ sym b.is
    ]
  ]

  one_after : (n : ℕ) (x y z : X) → LeavesOut P size without n x y → LeavesOut P size without n x z → y ≡ z
  one_after zero x y z a b = sym a ∙ b
  one_after (suc n) x y z (v, before, last) (w, before', last') =
      one_left w y z (subst (λ u. LeavesOutFirst P size without u y) (one_after n x v w before before') last) last'

  -- where more letters are left out, what n leave is left by one more
  on_the_way : (n m : ℕ) (x z : X) → n < m → LeavesOut P size without m x z → (w : X) × (v : X) × LeavesOut P size without n x w × LeavesOutFirst P size without w v
  on_the_way n zero x z lt out = absurd (omega arith)
  on_the_way n (suc m) x z lt (w, before, last) = elim (cases_lt n m) [
    | inl less ↦ on_the_way n m x w less before
    | inr le ↦ let same : m ≡ n = omega arith in (w, z, subst (λ k. LeavesOut P size without k x w) same before, last)
  ]

  no_further : (n m : ℕ) (x y z : X) → n < m → LeavesOut P size without n x y → NeedsEach P size without y → LeavesOut P size without m x z → ⊥
  no_further n m x y z lt out needs further =
      let (w, v, before, last) = on_the_way n m x z lt further in
      let next : LeavesOutFirst P size without y v = subst (λ u. LeavesOutFirst P size without u v) (one_after n x w y before out) last in
      needs next.place next.within (subst P next.is next.keeps)

  pub shrunk_one : (x y z : X) → IsShrunk P size without x y → IsShrunk P size without x z → y ≡ z
  shrunk_one x y z a b = elim (cases_lt a.letters b.letters) [
    | inl lt ↦ absurd (no_further a.letters b.letters x y z lt a.left_out a.each_needed b.left_out)
    | inr ge ↦ elim (cases_lt b.letters a.letters) [
      | inl lt ↦ absurd (no_further b.letters a.letters x z y lt b.left_out b.each_needed a.left_out)
      | inr le ↦
          let same : a.letters ≡ b.letters = omega arith in
          one_after b.letters x y z (subst (λ k. LeavesOut P size without k x y) same a.left_out) b.left_out
    ]
  ]

  module _ (Q : X → Type 0) (step : (x y : X) → LeavesOutFirst P size without x y → Q x → Q y) where
    keeps_after : (n : ℕ) (x y : X) → LeavesOut P size without n x y → Q x → Q y
    keeps_after zero x y out q = subst Q out q
    keeps_after (suc n) x y (z, before, last) q = step z y last (keeps_after n x z before q)

    pub shrunk_keeps : (x y : X) → IsShrunk P size without x y → Q x → Q y
    shrunk_keeps x y a q = keeps_after a.letters x y a.left_out q
