use Rattle.std.proofs.Common.{sym, ◌∙◌}
use Rattle.bit_rel.proofs.closing.first_above.Goals as goal

pub returns-in-None-clause-above : goal.returns-in-None-clause-above
returns-in-None-clause-above c = λ q near h.
    sym (c.row_at.ensures.bits q near) ∙ c.in-None.ensures.none q (c.row_at-own.ensures.bits q near ∙ h)
