use Rattle.std.proofs.Common.{◌*◌, ◌/◌, ◌≤◌, inl, inr, length, refl, rules, arith, sym, ◌∙◌}
use Rattle.std.proofs.lemmas.Bool.{cases_lt, false≢true}
use Rattle.std.proofs.Math.Facts.{Fits-lt-pow}
use Rattle.auto_core.proofs.BitLemmas.{bit_past, missing_found, word_within}
use Rattle.bit_rows.proofs.within.subset.Goals as goal

pub loop-i-preserved : goal.loop-i-preserved
loop-i-preserved c = λ k k_to.
    elim (cases_lt k (c.loop-i.i * 64)) [
      | inl near ↦ c.loop-i.invariant k near
      | inr far ↦
          word_within c.args.row.now c.args.other.now c.loop-i.i (Fits-lt-pow (c.type_inv.row c.loop-i.i)) (Fits-lt-pow (c.type_inv.other c.loop-i.i)) (search rules) k (omega arith)
    ]

pub returns-then-row-i-ne0 : goal.returns-then-row-i-ne0
returns-then-row-i-ne0 c = (
  λ told. absurd (false≢true told),
  λ inside.
      let found = missing_found c.args.row.now c.args.other.now c.loop-i.i (Fits-lt-pow (c.type_inv.row c.loop-i.i)) (Fits-lt-pow (c.type_inv.other c.loop-i.i)) c.loop-i-test.true
      (search rules) (search rules) in
      absurd (false≢true (sym found.1 ∙ inside _ found.0)),
)

pub returns : goal.returns
returns c = (
  λ told k h.
      elim (cases_lt k (c.loop-i.i * 64)) [
        | inl near ↦ c.loop-i.invariant k near h
        | inr far ↦
            let past : length c.args.row.now ≤ k / 64 = omega arith in
            absurd (false≢true (sym (bit_past c.args.row.now k past) ∙ h))
      ],
  λ inside. refl,
)
