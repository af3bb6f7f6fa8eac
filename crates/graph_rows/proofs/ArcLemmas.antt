-- The row of a table as marks on what its arcs lead to.
use Rattle.std.proofs.Common.{◌≡◌, ℕ, ◌*◌, ◌<◌, ◌≤◌, ◌↔◌, inl, inr, false, List, sym, ◌∙◌, arith}
use Rattle.std.proofs.lemmas.Bool.{cases_lt, false≢true}
use Rattle.auto_core.specs.Rows.{HasBit, HasCell, bit_of, cell_of}
use Rattle.auto_core.specs.Reach.{IsTable, HasArc}

pub row_marks :
    (table row : List ℕ) (n width p : ℕ)
    → IsTable table n width
    → p < n
    → ((q : ℕ) → q < width * 64 → bit_of row q ≡ cell_of table width p q)
    → ((q : ℕ) → width * 64 ≤ q → bit_of row q ≡ false)
    → (q : ℕ)
    → HasBit row q ↔ HasArc table n width p q
row_marks table row n width p t p_in inside outside q = (
  λ bit.
      elim (cases_lt q (width * 64)) [
        | inl near ↦
            let cell : HasCell table width p q = sym (inside q near) ∙ bit in
            (p_in, t.columns p q p_in near cell, cell)
        | inr far ↦ absurd (false≢true (sym (outside q far) ∙ bit))
      ],
  λ (_, q_in, cell). let room = t.room in inside q (omega arith) ∙ cell,
)
