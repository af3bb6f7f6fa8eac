use Rattle.std.proofs.Common.{inl, inr, bit_and, w64, rules}
use Rattle.std.specs.Int.{bit_not}
use Rattle.std.proofs.lemmas.Bool.{cases_eq}
use Rattle.graph_rows.proofs.PrintLemmas.{missed, none_missed}
use Rattle.graph_rows.proofs.prints.misses_at.Goals as goal

pub returns : goal.returns
returns c = (
  λ told. missed c.args.first.now c.args.second.now (search rules) (search rules) (search rules) (search rules),
  λ m. elim (cases_eq (bit_and c.args.first.now.own (bit_not w64 c.args.second.now.answered)) 0) [
    | inl e ↦ absurd (none_missed c.args.first.now c.args.second.now (search rules) (search rules) e m)
    | inr some ↦ search rules
  ],
)
