-- One bit more in a row.
use Rattle.std.proofs.Common.{◌≡◌, ℕ, ◌+◌, ◌/◌, ◌<◌, ◌⊎◌, ◌↔◌, inl, inr, true, false, List, length, sym, ap, ◌∙◌, subst}
use Rattle.std.proofs.lemmas.Bool.{cases_eq, false≢true}
use Rattle.auto_core.specs.Rows.{HasBit, bit_of}
use Rattle.set_rows.specs.Sets.{IsRow}

-- One bit more.
pub bit_set : (old new : List ℕ) (bit : ℕ) → bit_of new bit ≡ true → ((i : ℕ) → ¬ (i ≡ bit) → bit_of new i ≡ bit_of old i) → (q : ℕ) → HasBit new q ↔ (HasBit old q ⊎ (q ≡ bit))
bit_set old new bit here others q = (
  λ is. elim (cases_eq q bit) [ inl same ↦ inr same | inr other ↦ inl (sym (others q other) ∙ is) ],
  λ h. elim h [
    | inl was ↦ elim (cases_eq q bit) [ inl same ↦ ap (bit_of new) same ∙ here | inr other ↦ others q other ∙ was ]
    | inr same ↦ ap (bit_of new) same ∙ here
  ],
)

-- One bit in a row without bits.
pub bit_alone : (old new : List ℕ) (bit : ℕ) → ((i : ℕ) → bit_of old i ≡ false) → bit_of new bit ≡ true → ((i : ℕ) → ¬ (i ≡ bit) → bit_of new i ≡ bit_of old i) → (q : ℕ) → HasBit new q ↔ (q ≡ bit)
bit_alone old new bit none here others q =
    let is = bit_set old new bit here others q in (
      λ has. elim (is.0 has) [ inl was ↦ absurd (false≢true (sym (none q) ∙ was)) | inr same ↦ same ],
      λ same. is.1 (inr same),
    )

pub row_alone : (n bit : ℕ) (new : List ℕ) → bit < n → length new ≡ (n + 63) / 64 → ((q : ℕ) → HasBit new q ↔ (q ≡ bit)) → IsRow n new
row_alone n bit new lt len is = record { len = len; below = λ q has. subst (λ k. k < n) (sym ((is q).0 has)) lt }
