use Rattle.std.proofs.Common.{◌≡◌, ℕ, ◌+◌, ◌++◌, ◌∷◌, [], inl, inr, List, Contains, take, slice_index_or, refl, sym, ◌∙◌, subst, take_all, arith}
use Rattle.std.proofs.lemmas.Bool.{false≢true}
use Rattle.std.proofs.lemmas.List.{take_more}
use Rattle.std.proofs.lemmas.List.Elements.{Contains-get_or, Contains-push_cases}
use Rattle.auto_core.specs.Rows.{HasBit}
use Rattle.look_round.proofs.answering.Answering.has_one.Goals as goal

pub has_bit-requires : goal.has_bit-requires
has_bit-requires c =
    let from = c.args.from.now in
    let below = c.requires.from (slice_index_or from c.loop-i.i 0) (Contains-get_or from c.loop-i.i 0 c.loop-i-test.true) in
    let len = c.row_of-row.ensures.len in
    omega arith

pub returns-then-has_bit : goal.returns-then-has_bit
returns-then-has_bit c =
    let from = c.args.from.now in
    let q : ℕ = slice_index_or from c.loop-i.i 0 in
    let there : Contains from q = Contains-get_or from c.loop-i.i 0 c.loop-i-test.true in
    (λ _. (q, there, (c.row_of-row.ensures.bits q (c.requires.from q there)).0 (sym c.has_bit.ensures ∙ c.if-has_bit.true)), λ _. refl)

pub loop-i-preserved : goal.loop-i-preserved
loop-i-preserved c =
    let from = c.args.from.now in
    let i = c.loop-i.i in
    let q : ℕ = slice_index_or from i 0 in
    let row = c.row_of-row.result.now in
    let more : take (i + 1) from ≡ take i from ++ q ∷ [] = take_more from i 0 c.loop-i-test.true in
    λ r there bit. elim (Contains-push_cases (take i from) q r (subst (λ (l : List ℕ). Contains l r) more there)) [
      | inl before ↦ c.loop-i.invariant r before bit
      | inr e ↦ false≢true (sym c.if-has_bit.false ∙ c.has_bit.ensures ∙ subst (λ x. HasBit row x) (sym e) bit)
    ]

pub returns : goal.returns
returns c =
    let from = c.args.from.now in
    let all : take c.loop-i.i from ≡ from = take_all c.loop-i.i from c.loop-i-test.false in (
      λ h. absurd (false≢true h),
      λ (q, there, cell). absurd (c.loop-i.invariant q (subst (λ (l : List ℕ). Contains l q) (sym all) there) ((c.row_of-row.ensures.bits q (c.requires.from q there)).1 cell)),
    )
