use Rattle.std.proofs.Common.{◌*◌, inl, inr, refl, arith, rules}
use Rattle.std.proofs.lemmas.Bool.{cases_lt}
use Rattle.bit_rows.proofs.within.pass_within.Goals as goal

pub lanes-preserved : goal.lanes-preserved
lanes-preserved c = record {
  most = search rules;
  within = λ i i_to. elim (cases_lt i (c.lanes.at * 64)) [
    | inl near ↦ c.lanes.invariant.within i near
    | inr far ↦ c.if-not-are_four_within.ensures refl i (omega arith) i_to
  ];
}
