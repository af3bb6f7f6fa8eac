-- Flags that are taken away number after number, of elements that what is new subsumes.
use Rattle.std.proofs.Common.{◌≡◌, ℕ, ◌+◌, ◌<◌, ◌⊎◌, Bool, false, List, length, slice_index_or, slice_set, sym, ap, ◌∙◌, subst, inl, inr, arith}
use Rattle.std.proofs.lemmas.Bool.{cases_eq, cases_lt}
use Rattle.std.proofs.lemmas.List.{get_or-set_other, get_or-set_same, length-set}
use Rattle.auto_core.specs.Outcome.{At}
use Rattle.auto_laws.proofs.PlaceLemmas.{at_same}

-- The flags so far: those of the elements that are subsumed, of the first numbers, are taken away.
pub record AreDroppedSoFar {H : Type 0} (Subsumed : H → Type 0) (Drops : ℕ → Type 0) (held : List H) (numbers : List ℕ) (old new : List Bool) (count : ℕ) : Type 0 where
  pub size : length new ≡ length old
  pub each : (j : ℕ) → (slice_index_or new j false ≡ slice_index_or old j false) ⊎ ((slice_index_or new j false ≡ false) × Drops j)
  pub all : (k j : ℕ) (h : H) → k < count → At numbers k j → At held j h → Subsumed h → slice_index_or new j false ≡ false

module _ (H : Type 0) (Subsumed : H → Type 0) (Drops : ℕ → Type 0) (held : List H) (numbers : List ℕ) (old new : List Bool) (count j : ℕ) (h : H)
    (is : At numbers count j) (there : At held j h) (so_far : AreDroppedSoFar Subsumed Drops held numbers old new count)
  where
    -- The next number is dropped, or it is kept.
    pub dropped_more : j < length old → Drops j → AreDroppedSoFar Subsumed Drops held numbers old (slice_set new j false) (count + 1)
    dropped_more within drops =
        let sizes = so_far.size in
        let fits : j < length new = omega arith in
        record {
          size = length-set new j false ∙ so_far.size;
          each = λ i. elim (cases_eq i j) [
            | inl same ↦ inr (ap (λ k. slice_index_or (slice_set new j false) k false) same ∙ get_or-set_same new j false false fits, subst Drops (sym same) drops)
            | inr other ↦
                let stays = get_or-set_other new j i false false other in
                elim (so_far.each i) [ inl as_was ↦ inl (stays ∙ as_was) | inr gone ↦ inr (stays ∙ gone.0, gone.1) ]
          ];
          all = λ k i g lt i_is g_is sub. elim (cases_eq i j) [
            | inl same ↦ ap (λ m. slice_index_or (slice_set new j false) m false) same ∙ get_or-set_same new j false false fits
            | inr other ↦ get_or-set_other new j i false false other ∙ elim (cases_lt k count) [
              | inl less ↦ so_far.all k i g less i_is g_is sub
              | inr more ↦ let here : k ≡ count = omega arith in absurd (other (at_same numbers count i j (subst (λ m. At numbers m i) here i_is) is))
            ]
          ];
        }

    pub kept_more : (Subsumed h → ⊥) → AreDroppedSoFar Subsumed Drops held numbers old new (count + 1)
    kept_more not = record {
      size = so_far.size;
      each = so_far.each;
      all = λ k i g lt i_is g_is sub. elim (cases_lt k count) [
        | inl less ↦ so_far.all k i g less i_is g_is sub
        | inr more ↦
            let here : k ≡ count = omega arith in
            let same : i ≡ j = at_same numbers count i j (subst (λ m. At numbers m i) here i_is) is in
            let g_same : g ≡ h = at_same held j g h (subst (λ m. At held m g) same g_is) there in
            absurd (not (subst Subsumed g_same sub))
      ];
    }
