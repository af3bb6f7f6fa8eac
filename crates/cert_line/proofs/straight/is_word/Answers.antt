use Rattle.std.proofs.Common.{◌∙◌, inl, inr, arith, rules}
use Rattle.std.proofs.lemmas.Bool.{cases_eq}
use Rattle.std.proofs.lemmas.Grind.{same_number_lists}
use Rattle.cert_line.proofs.straight.is_word.Goals as goal

pub loop-at-preserved : goal.loop-at-preserved
loop-at-preserved c = λ k below.
    elim (cases_eq k c.loop-at.at) [
      | inl e ↦ search rules
      | inr n ↦ c.loop-at.invariant k (omega arith)
    ]

pub returns : goal.returns
returns c = λ told.
    same_number_lists c.args.token.now c.text-word.result.now (search rules) (λ k k_in. c.loop-at.invariant k (omega arith)) ∙ c.text-word.ensures
