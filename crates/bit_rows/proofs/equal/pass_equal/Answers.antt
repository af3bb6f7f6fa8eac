use Rattle.std.proofs.Common.{inl, inr, refl, rules}
use Rattle.std.proofs.lemmas.Bool.{cases_lt}
use Rattle.bit_rows.proofs.equal.pass_equal.Goals as goal

pub lanes-preserved : goal.lanes-preserved
lanes-preserved c = record {
  most = search rules;
  equal = λ k k_to. elim (cases_lt k c.lanes.at) [
    | inl near ↦ c.lanes.invariant.equal k near
    | inr far ↦ c.if-not-are_four_equal.ensures refl k far k_to
  ];
}
