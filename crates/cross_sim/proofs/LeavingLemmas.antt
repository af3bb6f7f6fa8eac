-- Pairs of two states of the first automaton are taken away, one after another.
use Rattle.std.proofs.Common.{ℕ, ◌+◌, inl, inr, refl, ◌∙◌, arith}
use Rattle.std.proofs.lemmas.Bool.{cases_eq}
use Rattle.bit_rel.specs.Relation.{Relation, Removes}
use Rattle.cross_sim.specs.Sides.{LeavesRowAcross, LeavesAcross}

pub row_whole : (p : ℕ) (R : Relation) → LeavesRowAcross p 0 R R
row_whole p R = record { size = refl; pairs = λ r s. (λ h. (h, λ _. omega arith), λ both. both.0) }

pub row_less : (p n : ℕ) (R S T : Relation) → LeavesRowAcross p n R S → Removes S T p n → LeavesRowAcross p (n + 1) R T
row_less p n R S T row removes = record {
  size = removes.size ∙ row.size;
  pairs = λ r s. (
    λ h.
        let (held, apart) = (removes.pairs r s).0 h in
        let (there, high) = (row.pairs r s).0 held in
        (there, λ e. let le = high e in elim (cases_eq s n) [ inl same ↦ absurd (apart (e, same)) | inr other ↦ omega (arith, le, other) ]),
    λ (there, high). (removes.pairs r s).1 (
      (row.pairs r s).1 (there, λ e. let le = high e in omega (arith, le)),
      λ (e, same). let le = high e in absurd (omega (arith, le, same)),
    ),
  );
}

pub rows_whole : (n : ℕ) (R : Relation) → LeavesAcross 0 n R R
rows_whole n R = record { size = refl; pairs = λ p q. (λ h. (h, λ lt. absurd (omega (arith, lt))), λ both. both.0) }

pub rows_less : (m n : ℕ) (R S T : Relation) → LeavesAcross m n R S → LeavesRowAcross m n S T → LeavesAcross (m + 1) n R T
rows_less m n R S T rows row = record {
  size = row.size ∙ rows.size;
  pairs = λ p q. (
    λ h.
        let (held, here) = (row.pairs p q).0 h in
        let (there, before) = (rows.pairs p q).0 held in
        (there, λ lt. elim (cases_eq p m) [ inl same ↦ here same | inr other ↦ before (omega (arith, lt, other)) ]),
    λ (there, high). (row.pairs p q).1 ((rows.pairs p q).1 (there, λ lt. high (omega (arith, lt))), λ e. high (omega (arith, e))),
  );
}
