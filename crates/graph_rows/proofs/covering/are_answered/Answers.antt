use Rattle.std.proofs.Common.{◌≡◌, ◌*◌, ◌+◌, ◌<◌, ◌≤◌, ℕ, [], ◌∷◌, true, false, inl, inr, refl, sym, ◌∙◌, subst, arith, rules}
use Rattle.std.proofs.lemmas.Bool.{cases_eq, cases_lt, false≢true}
use Rattle.auto_core.specs.Rows.{HasBit, bit_of}
use Rattle.auto_core.specs.Game.{Holds}
use Rattle.graph_rows.specs.Covering.{IsTargetAnswered}
use Rattle.graph_rows.proofs.covering.are_answered.Goals as goal

pub loop-bit-init : goal.loop-bit-init
loop-bit-init c = (λ j below. absurd (omega arith), omega arith)

pub returns-then-not-meets : goal.returns-then-not-meets
returns-then-not-meets c =
    let found : HasBit (c.args.targets ∷ []) c.in-Some.bit = search rules in
    let refused : c.meets.result ≡ false = search rules in (
      λ told. absurd (false≢true told),
      λ all. let (u, other, rel) = all c.in-Some.bit found in absurd (false≢true (sym refused ∙ c.meets.ensures.1 (u, other, (c.row.ensures.bits u).1 rel))),
    )

pub loop-bit-preserved : goal.loop-bit-preserved
loop-bit-preserved c =
    let bit : ℕ = c.in-Some.bit in
    let near : bit < 64 = search rules in
    let between : (k : ℕ) → c.loop-bit.at ≤ k → k < bit → bit_of (c.args.targets ∷ []) k ≡ false = search rules in
    let met : c.meets.result ≡ true = search rules in
    let here : IsTargetAnswered (Holds c.args.order.now.pairs) (HasBit c.args.others.now) (c.args.word * 64 + bit) = (let (u, other, wanted) = c.meets.ensures.0 met in (u, other, (c.row.ensures.bits u).0 wanted)) in (
      λ j below own.
          elim (cases_eq j bit) [
            | inl e ↦ subst (λ k. IsTargetAnswered (Holds c.args.order.now.pairs) (HasBit c.args.others.now) (c.args.word * 64 + k)) (sym e) here
            | inr n ↦
                elim (cases_lt j c.loop-bit.at) [
                  | inl before ↦ c.loop-bit.invariant.0 j before own
                  | inr after ↦ absurd (false≢true (sym (between j after (omega arith)) ∙ own))
                ]
          ],
      omega arith,
    )

pub returns : goal.returns
returns c =
    let none : (k : ℕ) → c.loop-bit.at ≤ k → bit_of (c.args.targets ∷ []) k ≡ false = search rules in (
      λ told j own.
          elim (cases_lt j c.loop-bit.at) [
            | inl before ↦ c.loop-bit.invariant.0 j before own
            | inr after ↦ absurd (false≢true (sym (none j after) ∙ own))
          ],
      λ all. refl,
    )
