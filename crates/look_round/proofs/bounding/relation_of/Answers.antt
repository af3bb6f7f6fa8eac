use Rattle.std.proofs.Common.{◌≡◌, false, ℕ, ◌+◌, ◌*◌, ◌<◌, ◌≤◌, ◌↔◌, ◌⊎◌, inl, inr, List, sym, ◌∙◌, subst, arith}
use Rattle.std.proofs.lemmas.Bool.{cases_eq, cases_lt, false≢true}
use Rattle.auto_core.specs.Rows.{bit_of, cell_of, HasBit, HasCell}
use Rattle.auto_core.specs.Game.{Holds}
use Rattle.bit_rel.specs.Relation.{Relation}
use Rattle.look_round.proofs.bounding.relation_of.Goals as goal

-- the relation holds the pairs of the table's rows below p
abbrev HoldsRows : List ℕ → ℕ → Relation → ℕ → Type 0
HoldsRows table width R p = (r s : ℕ) → Holds R.pairs r s ↔ ((r < p) × (s < width * 64) × HasCell table width r s)

-- a bit of a row of the table
bit_to_cell :
    (table row : List ℕ) (width p s : ℕ)
    → ((q : ℕ) → q < width * 64 → bit_of row q ≡ cell_of table width p q)
    → ((q : ℕ) → width * 64 ≤ q → bit_of row q ≡ false)
    → HasBit row s
    → (s < width * 64) × HasCell table width p s
bit_to_cell table row width p s bits outside bit = elim (cases_lt s (width * 64)) [
  | inl near ↦ (near, sym (bits s near) ∙ bit)
  | inr past ↦ absurd (false≢true (sym (outside s past) ∙ bit))
]

row_held :
    (table row : List ℕ) (width p : ℕ) (old new : Relation)
    → HoldsRows table width old p
    → ((q : ℕ) → q < width * 64 → bit_of row q ≡ cell_of table width p q)
    → ((q : ℕ) → width * 64 ≤ q → bit_of row q ≡ false)
    → ((r s : ℕ) → Holds new.pairs r s ↔ (Holds old.pairs r s ⊎ ((r ≡ p) × HasBit row s)))
    → HoldsRows table width new (p + 1)
row_held table row width p old new h bits outside added r s = (
  λ held. elim ((added r s).0 held) [
    | inl was ↦ let is = (h r s).0 was in let lt = is.0 in (omega arith, is.1, is.2)
    | inr is ↦
        let e = is.0 in
        let cell = bit_to_cell table row width p s bits outside is.1 in
        (omega arith, cell.0, subst (λ x. HasCell table width x s) (sym is.0) cell.1)
  ],
  λ is. (added r s).1 (elim (cases_eq r p) [
    | inl e ↦ inr (e, bits s is.1 ∙ subst (λ x. HasCell table width x s) e is.2)
    | inr apart ↦ let lt = is.0 in inl ((h r s).1 (omega arith, is.1, is.2))
  ]),
)

pub add_row-requires-clause-row : goal.add_row-requires-clause-row
add_row-requires-clause-row c = λ q bit.
    let cell = bit_to_cell c.args.table.now c.row_at.result.now c.args.width c.loop-p.p q c.row_at.ensures.bits c.row_at.ensures.outside bit in
    let below = c.requires.columns c.loop-p.p q c.loop-p-test.true cell.0 cell.1 in
    omega (arith, c.loop-p.invariant.0)

pub loop-p-preserved : goal.loop-p-preserved
loop-p-preserved c = (
  c.add_row.ensures.size ∙ c.loop-p.invariant.0,
  c.add_row.ensures.valid,
  row_held c.args.table.now c.row_at.result.now c.args.width c.loop-p.p c.loop-p.rel c.add_row.new.rel c.loop-p.invariant.2 c.row_at.ensures.bits c.row_at.ensures.outside c.add_row.ensures.pairs,
)

pub returns : goal.returns
returns c = record {
  size = c.loop-p.invariant.0;
  valid = c.loop-p.invariant.1;
  pairs = λ p q. (
    λ held. let is = (c.loop-p.invariant.2 p q).0 held in let lt = is.0 in (omega (arith, c.loop-p.auto.p-end), is.1, is.2),
    λ is. let lt = is.0 in (c.loop-p.invariant.2 p q).1 (omega (arith, c.loop-p-test.false), is.1, is.2),
  );
}
